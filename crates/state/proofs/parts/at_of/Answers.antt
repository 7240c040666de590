-- What the search leaves of `state::parts::at_of`.
use mathlib.Core.Path.{ap, ◌∙◌}
use Prim.Native.Nat.{◌*◌}
use Rattle.state.specs.Cells.{byte_of, cell_at}
use Rattle.state.proofs.Writing.{again}
use Rattle.state.proofs.Slot.{at-is}
use borrow.Author.Rules.{rules}
use Rattle.state.proofs.parts.at_of.Goals as goal

pub returns : goal.returns
returns c =
    let b = c.args.cells.now in
    let t = c.args.t in
    c.cell_byte.ensures ∙ ap byte_of (again (cell_at b (t * 19)) (search rules)) ∙ at-is b t c.requires
