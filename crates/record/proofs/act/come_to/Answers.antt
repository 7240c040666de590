-- What the search leaves of `record::act::come_to`.
use Rattle.record.proofs.replay.Laws.{stands-there}
use Rattle.record.proofs.act.come_to.Goals as goal

pub returns : goal.returns
returns c =
    let a = c.args in
    λ z. stands-there z a.x a.v.thread a.at a.v.tick _ a.x.vars a.x.owners
