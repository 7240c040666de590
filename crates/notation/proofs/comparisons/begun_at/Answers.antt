-- What the search leaves of `notation::comparisons::begun_at`.
use Rattle.scan.specs.Writing.{Builds}
use Rattle.scan.proofs.BuildLaws.{builds-as}
use Rattle.notation.proofs.CompareLaws.{begins_logical, begins-arithmetic}
use Rattle.notation.proofs.comparisons.begun_at.Goals as goal

pub returns-then-first-clause-builds : goal.returns-then-first-clause-builds
unfolding Builds
returns-then-first-clause-builds c = λ o g r m. begins_logical _ m c.if-first.true

pub returns-else-first-clause-builds : goal.returns-else-first-clause-builds
returns-else-first-clause-builds c = λ o g r m.
    let w = begins-arithmetic _ m c.if-first.false r in
    builds-as _ _ _ _ _ _ _ (c.onward_at.ensures.builds o w.value w.begun) w.is
