-- What the search leaves of `state::parts::owner_of`.
use mathlib.Core.Path.{ap, ◌∙◌}
use Prim.Native.Nat.{◌+◌}
use native.Mathlib.Omega.{arith}
use Rattle.state.specs.Cells.{byte_of, cell_at}
use Rattle.state.proofs.Writing.{again}
use Rattle.state.proofs.Slot.{owner-is}
use Rattle.state.proofs.parts.owner_of.Goals as goal

pub returns : goal.returns
returns c =
    let b = c.args.cells.now in
    let l = c.args.l in
    c.cell_byte.ensures ∙ ap byte_of (again (cell_at b (92 + l)) (omega arith)) ∙ owner-is b l c.requires
