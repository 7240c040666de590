-- What the search leaves of `record::act::unlock`.
use Rattle.std.proofs.Common.{◌∙◌}
use Rattle.record.proofs.replay.Laws.{stood-beside}
use Rattle.record.proofs.act.Laws.{unlocks}
use Rattle.record.proofs.act.unlock.Goals as goal

pub returns : goal.returns
returns c =
    let arg = c.args in
    λ z h i. unlocks z arg.x arg.v h c.move_on.result arg.l i c.after_unlock.result c.after_unlock.ensures
    (c.move_on.ensures z ∙ stood-beside z arg.x arg.x.vars _ _ _ _ _ _ _)
