-- What the search leaves of `print::print_sheet`.
use Rattle.std.proofs.Common.{arith, length, sym, ◌∙◌}
use Rattle.rules.proofs.FieldAt.{all-below}
use Rattle.printed.proofs.Claims.{print-claims}
use Rattle.print.proofs.WholeLaws.{print-read, print-refused}
use Rattle.print.proofs.print_sheet.Goals as goal

pub returns-in-Ok-clause-text_after : goal.returns-in-Ok-clause-text_after
returns-in-Ok-clause-text_after c =
    c.print_read.ensures ∙ print-read c.args.sheet.now (length c.args.text.now) _ (sym c.read_sheet.ensures ∙ c.in-Ok.is)

pub returns-in-Ok-clause-prints_well : goal.returns-in-Ok-clause-prints_well
returns-in-Ok-clause-prints_well c =
    print-claims.brings_back (length c.args.text.now) c.args.sheet.now (all-below c.args.sheet.now (λ p. omega (arith, c.type_inv.sheet p)))

pub returns-in-Err-clause-text_after : goal.returns-in-Err-clause-text_after
returns-in-Err-clause-text_after c =
    c.refuse.ensures ∙ print-refused c.args.sheet.now (length c.args.text.now) _ (sym c.read_sheet.ensures ∙ c.in-Err.is)

pub returns-in-Err-clause-prints_well : goal.returns-in-Err-clause-prints_well
returns-in-Err-clause-prints_well c =
    print-claims.brings_back (length c.args.text.now) c.args.sheet.now (all-below c.args.sheet.now (λ p. omega (arith, c.type_inv.sheet p)))
