-- What the search leaves of `state::parts::register_of`.
use mathlib.Core.Path.{◌∙◌}
use Rattle.state.proofs.Slot.{register-is}
use Rattle.state.proofs.parts.register_of.Goals as goal

pub returns : goal.returns
returns c =
    let arg = c.args in
    c.span_of.ensures ∙ register-is arg.cells.now arg.t arg.i c.requires.0 c.requires.1
