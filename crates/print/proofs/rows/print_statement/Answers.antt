-- What the search leaves of `print::rows::print_statement`.
use Rattle.print.proofs.StatementLaws.{decoded-ends, statement-prints}
use mathlib.Core.Path.{sym, subst}
use Prim.Native.Nat.{◌+◌}
use lib.ListN.{length}
use Rattle.field.specs.Decoded.{body_end}
use Rattle.field.specs.declared.decoding.Statement.{Statement}
use Rattle.print.specs.Texts.{EndsIn}
use Rattle.print.proofs.rows.print_statement.Goals as goal

pub print_action-second-requires : goal.print_action-second-requires
print_action-second-requires c =
    let arg = c.args in
    let s = arg.s.now in
    let p = arg.place in
    subst (λ (x : Statement). EndsIn (length s) x.action) (sym c.statement_at-x.ensures.0)
    (decoded-ends _ _ _ (p + 9) (body_end s p) (length s) c.requires.1)

pub returns : goal.returns
returns c =
    let arg = c.args in
    statement-prints arg.s.now arg.place _ c.statement_at-x.ensures.0 _ c.is_halt-halts.ensures _ _ _ _ _ _ _ _ c.print_times-first.ensures
    c.print_action-second.ensures c.put.ensures
