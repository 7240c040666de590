-- What the loop of `state::cells::put_spans` keeps.
use Rattle.std.proofs.Common.{◌≡◌, ◌*◌, ◌++◌, drop}
use Rattle.state.specs.Cells.{span_cells_from}
use Rattle.state.proofs.cells.put_spans.Given as goal

abbrev pub invariant-loop-i : goal.invariant-loop-i
invariant-loop-i l = l.cells ≡ span_cells_from l.fn.v 0 l.i ++ drop (2 * l.i) l.initial.cells
