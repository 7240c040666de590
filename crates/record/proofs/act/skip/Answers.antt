-- What the search leaves of `record::act::skip`.
use Rattle.record.proofs.act.Laws.{skips}
use Rattle.record.proofs.act.skip.Goals as goal

pub returns : goal.returns
returns c =
    let arg = c.args in
    λ z h. skips z arg.x arg.v h c.move_on.result (c.move_on.ensures z)
