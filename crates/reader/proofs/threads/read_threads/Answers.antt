-- What the search leaves of `reader::threads::read_threads`.
use Rattle.std.proofs.Common.{refl, arith}
use Rattle.field.proofs.outcome.Laws.{exits}
use Rattle.reader.proofs.threads.Tables.{threads_start, threads-done, threads-full, threads-failed, entry-room, threads_more}
use Rattle.reader.proofs.threads.read_threads.Goals as goal

pub loop-end-init : goal.loop-end-init
loop-end-init c = threads_start _ _ _ _ _

pub returns-in_err-need : goal.returns-in_err-need
returns-in_err-need c =
    threads-full c.loop-end.invariant c.loop-end-test.true (exits c.from_residual.ensures.1 refl) c.in_err-need.ensures

pub returns-in_err-read : goal.returns-in_err-read
returns-in_err-read c =
    threads-failed c.loop-end.invariant c.loop-end-test.true c.in_ok-need.ensures _ _ _
    (exits c.from_residual-in_err-read.ensures.1 refl) c.in_err-read.ensures

pub entry_at-requires : goal.entry_at-requires
entry_at-requires c =
    let h = entry-room c.loop-end.invariant c.loop-end-test.true c.in_ok-need.ensures _ _ _ c.in_ok-read.ensures in
    let d = c.requires.1 in
    let r = h.0 in
    (omega arith, h.1)

pub loop-end-preserved : goal.loop-end-preserved
loop-end-preserved c =
    threads_more c.loop-end.invariant c.loop-end-test.true c.in_ok-need.ensures _ _ _ c.in_ok-read.ensures _ refl (omega arith) c.entry_at.ensures

pub returns : goal.returns
returns c =
    threads-done c.loop-end.invariant c.loop-end-test.false
