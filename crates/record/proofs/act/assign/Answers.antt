-- What the search leaves of `record::act::assign`.
use Rattle.std.proofs.lemmas.Result.{err_from_is_err_and}
use Rattle.record.proofs.act.Laws.{assign-faults, assigns}
use Rattle.record.proofs.act.assign.Goals as goal

pub returns-in_err-k : goal.returns-in_err-k
returns-in_err-k c =
    let arg = c.args in
    let p = err_from_is_err_and c.from_residual.result c.from_residual.ensures.1 in
    λ z a h e. rw (p.1, p.2) (assign-faults z arg.x arg.v h _ arg.r a (c.in_err-k.ensures a e))

pub returns : goal.returns
returns c =
    let arg = c.args in
    λ z a h e. assigns z arg.x arg.v h c.write_register.result arg.r a c.in_ok-k.k (c.in_ok-k.ensures a e) (c.write_register.ensures z)
