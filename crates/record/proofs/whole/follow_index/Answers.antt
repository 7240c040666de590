-- What the search leaves of `record::whole::follow_index`.
use Rattle.std.proofs.Common.{◌≡◌, Bool, length, ap, ◌∙◌, arith}
use Rattle.rules.specs.Constants.{most_threads}
use Rattle.reader.specs.Facts.{program_in}
use Rattle.event.proofs.PlanLaws.{ready}
use Rattle.recorded.specs.Follow.{leaves, answer_of}
use Rattle.record.proofs.whole.Start.{starts_from, variables-are, followed-is}
use Rattle.record.proofs.whole.follow_index.Goals as goal

pub follow_record-requires : goal.follow_record-requires
follow_record-requires c =
    let a = c.args in
    let four : length c.start-first.result.threads ≡ most_threads = omega arith in (
      record { planned = rw c.from.ensures (ready a.bytes.now a.index c.requires); counted = variables-are a.bytes.now a.index c.requires },
      starts_from a.bytes.now a.index c.requires c.start-first.result four c.start-first.ensures.starts,
    )

pub all_halt-requires : goal.all_halt-requires
all_halt-requires c =
    let a = c.args in
    record { planned = rw c.from.ensures (ready a.bytes.now a.index c.requires); counted = variables-are a.bytes.now a.index c.requires }

pub returns-in-Err : goal.returns-in-Err
unfolding answer_of
returns-in-Err c =
    let a = c.args in
    c.refused.ensures ∙ ap (answer_of (program_in a.bytes.now)) c.in-Err.ensures ∙ followed-is a.bytes.now a.index c.requires a.r.now

pub returns-in-Ok : goal.returns-in-Ok
unfolding answer_of
returns-in-Ok c =
    let a = c.args in
    ap (λ (b : Bool). leaves b c.in-Ok.x.tick.0) c.all_halt.ensures
    ∙ ap (answer_of (program_in a.bytes.now)) c.in-Ok.ensures ∙ followed-is a.bytes.now a.index c.requires a.r.now
