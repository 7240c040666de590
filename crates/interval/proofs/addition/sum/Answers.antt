-- What the search leaves of `interval::addition::sum`.
use Rattle.rules.specs.Interval.{combine, may_divide_by_zero, operate, plus}
use Rattle.interval.proofs.addition.sum.Goals as goal

pub returns : goal.returns
unfolding combine may_divide_by_zero operate
returns c = c.hull.ensures (operate plus) (λ x y r is. is.2)
