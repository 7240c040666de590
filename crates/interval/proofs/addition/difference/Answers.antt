-- What the search leaves of `interval::addition::difference`.
use Rattle.rules.specs.Interval.{combine, may_divide_by_zero, operate, minus}
use Rattle.interval.proofs.addition.difference.Goals as goal

pub returns : goal.returns
unfolding combine may_divide_by_zero operate
returns c = c.hull.ensures (operate minus) (λ x y r is. is.2)
