-- What the search leaves of `record::act::branch`.
use Rattle.std.proofs.Common.{◌∙◌}
use Rattle.std.proofs.lemmas.Result.{err_from_is_err_and}
use Rattle.record.proofs.act.Laws.{branch-faults, branches}
use Rattle.record.proofs.act.branch.Goals as goal
use Rattle.record.proofs.act.branch.Goals.{then-holds, else-holds}

pub returns-in_err-holds : goal.returns-in_err-holds
returns-in_err-holds c =
    let arg = c.args in
    let p = err_from_is_err_and c.from_residual.result c.from_residual.ensures.1 in
    λ z a h e. rw (p.1, p.2) (branch-faults z arg.x arg.v h _ arg.target a (c.in_err-holds.ensures a e))

pub returns : goal.returns
returns c =
    let arg = c.args in
    λ z a h e. branches z arg.x arg.v h c.come_to.result arg.target a c.in_ok-holds.holds c.if-holds.to (c.in_ok-holds.ensures a e)
    (elim c.if-holds.branch [ then-holds w ↦ rw w.if-holds.true w.to-is | else-holds w ↦ rw w.if-holds.false (w.to-is ∙ w.next-to.ensures) ]) (c.come_to.ensures z)
