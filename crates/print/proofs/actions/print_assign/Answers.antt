-- What the search leaves of `print::actions::print_assign`.
use Rattle.writing.proofs.Written.{then-writes, same_text}
use Rattle.print.proofs.StatementLaws.{assign-text}
use Rattle.infix.proofs.PartLaws.{got-prints}
use Rattle.printed.specs.Print.{print_arith, any_arith}
use Rattle.print.proofs.actions.print_assign.Goals as goal

pub returns : goal.returns
returns c =
    λ n x q. same_text _ _ _ _ _ _ (assign-text c.args.register x)
    (then-writes _ _ _ _ _ _ _ _ c.put_named-first.ensures
    (then-writes _ _ _ _ _ _ _ _ c.put_bytes-second.ensures (got-prints (print_arith any_arith) _ _ _ _ q (c.print_arith.ensures n))))
