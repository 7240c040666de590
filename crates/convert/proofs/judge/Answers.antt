-- What the search leaves of `convert::judge`.
use lib.Dec.{leb}
use lib.ListN.{length}
use borrow.Author.Tests.{leb-true, leb-false}
use Rattle.refusal.specs.declared.Refusal.TheVariants.{OutputFull}
use Rattle.field.proofs.outcome.Laws.{needed-held, needed-failed}
use Rattle.scan.proofs.Readings.{exits}
use Rattle.convert.specs.Shape.{told_of, Judges}
use Rattle.convert.proofs.Answers.{judged-bad, judged-full, judged-good}
use Rattle.convert.proofs.judge.Goals as goal

pub returns-in-Err : goal.returns-in-Err
returns-in-Err c =
    judged-bad c.args.text.now c.args.work.now c.args.end _ _ c.in-Err.ensures c.requires.0 (c.blame.ensures (length c.args.sheet.now))

pub returns-in_err-need : goal.returns-in_err-need
returns-in_err-need c =
    let n = length c.args.sheet.now in
    let w = needed-failed (leb c.args.end n) OutputFull 0 c.in_err-need.ensures in
    exits (λ r. Judges c.args.text.now c.args.work.now c.args.end n (told_of r c.args.sheet.now)) c.from_residual.ensures.1
    (rw w.1 (judged-full c.args.text.now c.args.work.now c.args.end _ _ c.in_default.ensures (leb-false c.args.end n w.0)))

pub returns : goal.returns
returns c =
    let n = length c.args.sheet.now in
    let w = leb-true c.args.end n (needed-held (leb c.args.end n) OutputFull 0 c.in_ok-need.ensures) in
    let h = c.fill.ensures in
    rw h (judged-good c.args.text.now c.args.work.now c.args.end _ _ c.in_default.ensures w)
