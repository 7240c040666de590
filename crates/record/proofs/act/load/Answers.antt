-- What the search leaves of `record::act::load`.
use Rattle.record.proofs.act.Laws.{loads}
use Rattle.record.proofs.act.load.Goals as goal

pub returns : goal.returns
returns c =
    let arg = c.args in
    λ z h i. loads z arg.x arg.v h c.write_register.result arg.r arg.k i (c.write_register.ensures z)
