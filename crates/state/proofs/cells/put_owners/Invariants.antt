-- What the loop of `state::cells::put_owners` keeps.
use Rattle.std.proofs.Common.{◌≡◌, ◌++◌, drop}
use Rattle.state.specs.Cells.{byte_cells_from}
use Rattle.state.proofs.cells.put_owners.Given as goal

abbrev pub invariant-loop-i : goal.invariant-loop-i
invariant-loop-i l = l.cells ≡ byte_cells_from l.fn.v 0 l.i ++ drop l.i l.initial.cells
