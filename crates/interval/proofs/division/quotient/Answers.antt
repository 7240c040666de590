-- What the search leaves of `interval::division::quotient`.
use mathlib.Core.Path.{sym, ◌∙◌}
use Rattle.rules.specs.Interval.{combine, may_divide_by_zero, operate, divide}
use Rattle.interval.proofs.division.quotient.Goals as goal

pub returns : goal.returns
unfolding combine may_divide_by_zero operate
returns c = rw (sym c.holds_zero.ensures ∙ c.if-holds_zero.false) (c.hull.ensures (operate divide) (λ x y r is. is.2))
