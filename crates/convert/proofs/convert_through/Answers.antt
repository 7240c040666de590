-- What the search leaves of `convert::convert_through`.
use mathlib.Core.Path.{◌≡◌, ◌∙◌}
use native.Mathlib.Omega.{arith}
use lib.Dec.{leb}
use lib.ListN.{length}
use borrow.Author.Tests.{leb-true, leb-false}
use Rattle.rules.specs.Constants.{longest_sheet}
use Rattle.refusal.specs.declared.Refusal.TheVariants.{TooLong}
use Rattle.field.proofs.outcome.Laws.{needed-held, needed-failed}
use Rattle.text.specs.Convert.{convert}
use Rattle.scan.proofs.Readings.{exits}
use Rattle.convert.specs.Shape.{told_of}
use Rattle.convert.proofs.Verdicts.{when-unreadable}
use Rattle.convert.proofs.Answers.{made-long, made-short, end-inside}
use Rattle.convert.proofs.convert_through.Goals as goal

pub returns-in-Err : goal.returns-in-Err
returns-in-Err c =
    when-unreadable (length c.args.sheet.now) c.args.text.now c.in-Err.place c.in-Err.ensures.result_in_bounds c.in-Err.ensures.makes

pub returns-in_err-need : goal.returns-in_err-need
returns-in_err-need c =
    let n = c.in-Ok.w.whole in
    let w = needed-failed (leb n longest_sheet) TooLong 0 c.in_err-need.ensures in
    exits (λ r. told_of r c.args.sheet.now ≡ convert (length c.args.sheet.now) c.args.text.now) c.from_residual.ensures.1
    (rw w.1 (made-long _ _ _ _ c.in-Ok.ensures.makes (length c.args.sheet.now) (leb-false n longest_sheet w.0)))

pub judge-requires : goal.judge-requires
judge-requires c =
    let n = c.in-Ok.w.whole in
    let w = leb-true n longest_sheet (needed-held (leb n longest_sheet) TooLong 0 c.in_ok-need.ensures) in
    let k = c.text_at.auto.out in (
      end-inside _ _ _ _ c.in-Ok.ensures.makes w (k ∙ c.requires),
      rw (k, c.requires) (omega arith),
    )

pub returns : goal.returns
returns c =
    let n = c.in-Ok.w.whole in
    let w = leb-true n longest_sheet (needed-held (leb n longest_sheet) TooLong 0 c.in_ok-need.ensures) in
    made-short _ _ _ _ c.in-Ok.ensures.makes w (c.text_at.auto.out ∙ c.requires)
    (length c.args.sheet.now) c.judge.ensures
