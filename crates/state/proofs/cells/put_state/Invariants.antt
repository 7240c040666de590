-- What the loop of `state::cells::put_state` keeps.
use Rattle.std.proofs.Common.{◌≡◌, ◌*◌, ◌++◌, drop}
use Rattle.state.proofs.Writing.{rows}
use Rattle.state.proofs.cells.put_state.Given as goal

abbrev pub invariant-loop-t : goal.invariant-loop-t
invariant-loop-t l = l.cells ≡ rows l.fn.s l.t ++ drop (l.t * 19) l.initial.cells
