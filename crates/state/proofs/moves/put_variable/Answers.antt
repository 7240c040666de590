-- What the search leaves of `state::moves::put_variable`.
use mathlib.Core.Path.{ap, ◌∙◌}
use Rattle.state.proofs.Written.{variable-written}
use Rattle.state.specs.declared.State.{State}
use Rattle.state.specs.Access.{with_var}
use Rattle.state.specs.Cells.{decode}
use Rattle.state.proofs.moves.put_variable.Goals as goal

pub returns : goal.returns
returns c =
    ap decode c.put_span.ensures
    ∙ variable-written c.put_moved.new.slot c.args.k c.args.v (c.put_moved.auto.slot ∙ c.requires.0) c.requires.1.1
    ∙ ap (λ (x : State). with_var x c.args.k c.args.v) c.put_moved.ensures
