-- What the search leaves of `record::act::store`.
use Rattle.std.proofs.Common.{◌∙◌}
use Rattle.record.proofs.replay.Laws.{stood-beside}
use Rattle.record.proofs.act.Laws.{stores}
use Rattle.record.proofs.act.store.Goals as goal

pub returns : goal.returns
returns c =
    let arg = c.args in
    λ z h i. stores z arg.x arg.v h c.move_on.result arg.r arg.k i (c.move_on.ensures z ∙ stood-beside z arg.x _ arg.x.owners _ _ _ _ _ _)
