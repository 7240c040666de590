-- What the search leaves of `notation::comparisons::compare_at`.
use Rattle.std.proofs.Common.{◌∙◌, rules}
use Rattle.scan.specs.Writing.{Builds}
use Rattle.notation.proofs.CompareLaws.{compare-absent, compare-took}
use Rattle.notation.proofs.comparisons.compare_at.Goals as goal

pub returns-in-None-clause-builds : goal.returns-in-None-clause-builds
unfolding Builds
returns-in-None-clause-builds c = λ o a b.
    compare-absent _ (rw c.in-None.is at c.in_ok-comparison_at.ensures)
    (record { fit_is = b.fit_is; wrote = b.wrote; room = b.room })

pub returns-then-left-clause-builds : goal.returns-then-left-clause-builds
unfolding Builds
returns-then-left-clause-builds c = λ o a b.
    compare-took _ (rw c.in-Some.is at c.in_ok-comparison_at.ensures) c.requires.3 c.insert-from.auto.out
    (c.arith_at.auto.out ∙ c.insert-from.auto.out) b c.insert-from.ensures.inserts c.insert-from.ensures.ends
    c.in_ok-right-in-Some.ensures.builds (search rules)

pub returns-else-left-clause-builds : goal.returns-else-left-clause-builds
unfolding Builds
returns-else-left-clause-builds c = λ o a b.
    compare-took _ (rw c.in-Some.is at c.in_ok-comparison_at.ensures) c.requires.3 c.insert-from.auto.out
    (c.arith_at.auto.out ∙ c.insert-from.auto.out) b c.insert-from.ensures.inserts c.insert-from.ensures.ends
    c.in_ok-right-in-Some.ensures.builds (search rules)
