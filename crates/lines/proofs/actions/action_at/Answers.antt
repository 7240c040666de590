-- What the search leaves of `lines::actions::action_at`.
use mathlib.Core.Path.{sym, ◌∙◌}
use Rattle.lines.proofs.DispatchLaws.{acts-as, action-over, action-assigns, action-worded}
use Rattle.lines.specs.Writing.{Acts, ActionWord}
use Rattle.lines.proofs.actions.action_at.Goals as goal

pub returns-then-s-q-clause-acts : goal.returns-then-s-q-clause-acts
unfolding Acts
returns-then-s-q-clause-acts c = action-over c.args.s.now c.args.q c.if-s-q.true

pub returns-then-s-q-eq114-clause-acts : goal.returns-then-s-q-eq114-clause-acts
returns-then-s-q-eq114-clause-acts c =
    acts-as _ _ _ _ _ _ _ c.assignment_at.ensures.acts (action-assigns c.args.s.now c.args.q c.if-s-q.false c.if-s-q-eq114.true)

pub returns-clause-acts : goal.returns-clause-acts
unfolding ActionWord
returns-clause-acts c =
    acts-as _ _ _ _ _ _ _ c.worded_at.ensures.acts
    (sym c.opening_at.ensures ∙ action-worded c.args.s.now c.args.q c.if-s-q.false c.if-s-q-eq114.false)
