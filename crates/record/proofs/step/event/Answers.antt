-- What the search leaves of `record::step::event`.
use Rattle.std.proofs.Common.{refl, ap, sym, ◌∙◌, arith}
use Rattle.reader.specs.declared.threads.ThreadEntry.{ThreadEntry}
use Rattle.reader.specs.Facts.{statement_in}
use Rattle.state.proofs.Shape.{sizes-regs}
use Rattle.event.proofs.fetch.Asks.{of-program}
use Rattle.record.specs.Replay.{thread_at}
use Rattle.record.specs.Sheet.{program_of}
use Rattle.record.proofs.step.Laws.{too_early, held_back, an-event}
use Rattle.record.proofs.step.event.Goals as goal
use Rattle.record.proofs.step.event.Goals.{then-not-is_due-via-then-not-is_due, then-not-is_due-via-else-not-is_due+then-not-all_allow}

pub act-requires : goal.act-requires
act-requires c =
    let a = c.args in
    let g = program_of a.sheet.now in (
      rw c.from.ensures (of-program a.sheet.now.bytes.now g a.sheet.now.plan a.sheet.now.places.now c.requires.0.planned a.t c.requires.1),
      (statement_in g a.t (thread_at a.x a.t).at, c.fetch-f.ensures),
    )

pub returns-then-not-is_due : goal.returns-then-not-is_due
returns-then-not-is_due c =
    let a = c.args in
    let few = c.requires.0.planned.facts.threads_few in
    elim c.then-not-is_due.branch [
      | then-not-is_due-via-then-not-is_due w ↦ too_early a.sheet.now.bytes.now a.x (omega arith) few a.t c.requires.1
          c.fetch-f.result c.fetch-f.ensures a.e.0 w.if-not-is_due.ensures
      | then-not-is_due-via-else-not-is_due+then-not-all_allow w ↦ held_back a.sheet.now.bytes.now a.x (omega arith) few a.t c.requires.1
          c.fetch-f.result c.fetch-f.ensures a.e.0 w.if-not-is_due.ensures w.if-not-all_allow.ensures
    ]

pub returns : goal.returns
returns c =
    let a = c.args in
    let r = c.requires.0.planned in
    an-event a.sheet.now.bytes.now a.x (omega arith) r.facts.threads_few a.t c.requires.1 c.fetch-f.result c.fetch-f.ensures
    (record { thread = a.t; registers = c.from.result; tick = a.e }) refl
    (c.from.ensures ∙ ap (λ (i : ThreadEntry). i.registers) (r.entries a.t c.requires.1) ∙ sym (sizes-regs (program_of a.sheet.now) a.t))
    c.if-not-is_due.ensures c.if-not-all_allow.ensures c.act.result c.act.ensures
