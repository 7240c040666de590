-- What the search leaves of `retime::find::find`.
use Rattle.std.proofs.Common.{arith}
use Rattle.rules.proofs.FieldAt.{all-below}
use Rattle.retime.proofs.Finding.{no_thread_lem, thread-small, no-statement, one_found, found-head, found-small}
use Rattle.retime.proofs.find.find.Goals as goal
use Rattle.retime.proofs.find.find.Goals.{then-index-thread-via-then-index-thread, then-index-thread-via-else-index-thread+then-from-statement}

pub offset_bounds-index-thread : goal.offset_bounds-index-thread
offset_bounds-index-thread c =
    omega (arith, thread-small c.args.sheet.now c.requires c.args.thread c.args.statement c.if-index-thread.false)

pub bounds-index-thread : goal.bounds-index-thread
bounds-index-thread c = thread-small c.args.sheet.now c.requires c.args.thread c.args.statement c.if-index-thread.false

pub returns-then-index-thread : goal.returns-then-index-thread
returns-then-index-thread c =
    let a = c.args in
    elim c.then-index-thread.branch [
      | then-index-thread-via-then-index-thread w ↦ no_thread_lem a.sheet.now c.requires a.thread a.statement w.if-index-thread.true
      | then-index-thread-via-else-index-thread+then-from-statement w ↦ no-statement a.sheet.now c.requires a.thread a.statement
          w.if-index-thread.false (omega (arith, w.from.ensures, w.if-from-statement.true))
    ]

pub bounds-index-thread-2 : goal.bounds-index-thread-2
bounds-index-thread-2 c =
    let a = c.args in
    found-small a.sheet.now c.requires a.thread a.statement c.if-index-thread.false (omega (arith, c.from.ensures, c.if-from-statement.false))

pub found_at-requires : goal.found_at-requires
found_at-requires c =
    let a = c.args in
    found-head a.sheet.now c.requires a.thread a.statement c.if-index-thread.false (omega (arith, c.from.ensures, c.if-from-statement.false))
    c.from-2.ensures

pub returns : goal.returns
returns c =
    let a = c.args in
    one_found a.sheet.now c.requires a.thread a.statement c.if-index-thread.false (omega (arith, c.from.ensures, c.if-from-statement.false))
    c.from-2.ensures (all-below a.sheet.now (λ p. omega (arith, c.type_inv.sheet p))) c.found_at.ensures
