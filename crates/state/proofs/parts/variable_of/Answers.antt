-- What the search leaves of `state::parts::variable_of`.
use mathlib.Core.Path.{◌∙◌}
use Rattle.state.proofs.Slot.{variable-is}
use Rattle.state.proofs.parts.variable_of.Goals as goal

pub returns : goal.returns
returns c =
    let arg = c.args in
    c.span_of.ensures ∙ variable-is arg.cells.now arg.k c.requires
