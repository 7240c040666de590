-- What the search leaves of `print::actions::print_branch`.
use Rattle.writing.proofs.Written.{then-writes, same_text}
use Rattle.print.proofs.StatementLaws.{branch-text}
use Rattle.infix.proofs.PartLaws.{got-prints}
use Rattle.printed.specs.Print.{print_condition, any_condition}
use Rattle.print.proofs.actions.print_branch.Goals as goal

pub returns : goal.returns
returns c =
    λ n x q. same_text _ _ _ _ _ _ (branch-text c.args.target x)
    (then-writes _ _ _ _ _ _ _ _ c.put_bytes-first.ensures
    (then-writes _ _ _ _ _ _ _ _
    (got-prints (print_condition any_condition) _ _ _ _ q (c.print_condition-w.ensures n)) c.put_named.ensures))
