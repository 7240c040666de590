-- What the search leaves of `record::events::follow_events`.
use Rattle.std.proofs.Common.{sym, ◌∙◌, arith}
use Rattle.std.proofs.lemmas.Result.{err_from_is_err_and}
use Rattle.recorded.proofs.Loop.{from_end}
use Rattle.record.specs.Replay.{replay_of}
use Rattle.record.specs.Sheet.{program_of, sizes_in}
use Rattle.record.proofs.events.Laws.{turn-refused, turned}
use Rattle.record.proofs.events.follow_events.Goals as goal

pub returns-in_err-at : goal.returns-in_err-at
returns-in_err-at c =
    let p = err_from_is_err_and c.from_residual.result c.from_residual.ensures.1 in
    rw (p.1, p.2) (turn-refused (program_of c.args.sheet.now) c.args.r.now c.loop-at.at (replay_of (sizes_in c.args.sheet.now) c.loop-at.x)
    c.loop-at-test.true c.in_err-at.ensures ∙ sym c.loop-at.invariant.left)

pub loop-at-smaller : goal.loop-at-smaller
loop-at-smaller c =
    let t = turned (program_of c.args.sheet.now) c.args.r.now c.loop-at.at (replay_of (sizes_in c.args.sheet.now) c.loop-at.x)
    c.loop-at-test.true c.in_ok-at.ensures in
    omega (arith, c.loop-at-test.true, t.place_is)

pub loop-at-preserved : goal.loop-at-preserved
loop-at-preserved c =
    let t = turned (program_of c.args.sheet.now) c.args.r.now c.loop-at.at (replay_of (sizes_in c.args.sheet.now) c.loop-at.x)
    c.loop-at-test.true c.in_ok-at.ensures in
    record { soon = omega (arith, t.place_is, t.tick_soon, c.loop-at.invariant.soon); left = c.loop-at.invariant.left ∙ t.goes_on }

pub returns : goal.returns
returns c =
    sym (c.loop-at.invariant.left ∙ from_end (program_of c.args.sheet.now) c.args.r.now c.loop-at.at
    (replay_of (sizes_in c.args.sheet.now) c.loop-at.x) (omega arith))
