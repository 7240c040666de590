-- What the search leaves of `record::step::replay`.
use Rattle.std.proofs.Common.{◌∙◌, arith}
use Rattle.record.specs.Replay.{replay_of}
use Rattle.record.specs.Sheet.{program_of, sizes_in}
use Rattle.record.proofs.step.Laws.{no_thread_lem, a-thread}
use Rattle.record.proofs.step.replay.Goals as goal

pub returns-then-sheet-t : goal.returns-then-sheet-t
returns-then-sheet-t c =
    let a = c.args in
    let r = c.requires.0.planned in
    no_thread_lem (program_of a.sheet.now) (replay_of (sizes_in a.sheet.now) a.x) a.t a.clock (omega arith)

pub returns : goal.returns
returns c =
    let a = c.args in
    let r = c.requires.0.planned in
    c.event.ensures ∙ a-thread (program_of a.sheet.now) (replay_of (sizes_in a.sheet.now) a.x) a.t a.clock (omega arith)
    c.tick_after.result.0 c.tick_after.ensures
