-- What the search leaves of `state::cells::put_state`.
use Rattle.std.proofs.Common.{◌≡◌, arith}
use Rattle.state.proofs.Writing.{no-rows, rows-put, state-written}
use Rattle.state.proofs.cells.put_state.Goals as goal

pub loop-t-init : goal.loop-t-init
loop-t-init c = no-rows _ _

pub loop-t-preserved : goal.loop-t-preserved
loop-t-preserved c = rows-put c.args.s c.loop-t.t _ _ _ c.loop-t.invariant c.put_thread.ensures (omega arith)

pub returns : goal.returns
returns c =
    let all : c.loop-t.t ≡ 4 = omega arith in
    state-written c.loop-t.cells c.args.cells.now c.args.s _ _ c.requires.0 (rw all at c.loop-t.invariant) c.put_spans.ensures c.put_owners.ensures
