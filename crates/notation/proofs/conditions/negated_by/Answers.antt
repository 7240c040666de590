-- What the search leaves of `notation::conditions::negated_by`.
use Rattle.notation.proofs.NotLaws.{negates-none, negates-some}
use Rattle.notation.proofs.conditions.negated_by.Goals as goal

pub returns-then-some-clause-negates : goal.returns-then-some-clause-negates
returns-then-some-clause-negates c = negates-some _ _ _ c.if-some.true c.condition_only.ensures.condition

pub returns-else-some-clause-negates : goal.returns-else-some-clause-negates
returns-else-some-clause-negates c = negates-none _ _ c.if-some.false
