-- What the search leaves of `record::act::lock`.
use Rattle.std.proofs.Common.{sym, refl, ◌∙◌}
use Rattle.record.proofs.replay.Laws.{stood-beside}
use Rattle.record.proofs.act.Laws.{locks, waits}
use Rattle.record.proofs.act.lock.Goals as goal

pub returns-then-not-may_take : goal.returns-then-not-may_take
returns-then-not-may_take c =
    let arg = c.args in
    λ z h i. waits z arg.x arg.v h c.come_to.result arg.l i _ refl (sym c.may_take.ensures ∙ c.if-not-may_take.true) (c.come_to.ensures z)

pub returns : goal.returns
returns c =
    let arg = c.args in
    λ z h i. locks z arg.x arg.v h c.move_on.result arg.l i c.owner.result c.owner.ensures
    (sym c.may_take.ensures ∙ c.if-not-may_take.false) (c.move_on.ensures z ∙ stood-beside z arg.x arg.x.vars _ _ _ _ _ _ _)
