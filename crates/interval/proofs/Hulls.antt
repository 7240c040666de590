-- The hull of what an operation gives at the ends of two spans, as the code forms it. For every width. Assumes nothing.
use Rattle.std.specs.Prelude.{◌≡◌, ℤ}
use Rattle.std.specs.Ordering.{int_cmp}
use mathlib.Core.Path.{ap, ap₂, ◌∙◌}
use Rattle.rules.specs.Interval.{interval, min_z, max_z, hull}
use Rattle.interval.specs.declared.Val.{Val}
use Rattle.interval.specs.declared.Span.{Span}
use Rattle.interval.specs.Shape.{interval_of}
use Rattle.interval.specs.Bounds.{EndsOf}
use Rattle.interval.proofs.Order.{least_is, greatest_is}

-- z is the number that a result stands for, and f the operation on the numbers
module _ {T : Type 0} (z : T → ℤ) (f : ℤ → ℤ → ℤ) (gives : Val → Val → T → Type 0) (a b : Span) (least greatest : T)
    (is : (x y : Val) (r : T) → gives x y r → z r ≡ f x.0 y.0) (e : EndsOf (λ x y. int_cmp (z x) (z y)) gives a b least greatest) where
  low_is : z least ≡ (hull f (interval_of a) (interval_of b)).low
  unfolding hull
  low_is =
      ap z e.is_least ∙ least_is z _ _
      ∙ ap₂ min_z (least_is z e.p e.q ∙ ap₂ min_z (is _ _ _ e.low_low) (is _ _ _ e.low_high)) (least_is z e.r e.s ∙ ap₂ min_z (is _ _ _ e.high_low) (is _ _ _ e.high_high))

  high_is : z greatest ≡ (hull f (interval_of a) (interval_of b)).high
  unfolding hull
  high_is =
      ap z e.is_greatest ∙ greatest_is z _ _
      ∙ ap₂ max_z (greatest_is z e.p e.q ∙ ap₂ max_z (is _ _ _ e.low_low) (is _ _ _ e.low_high)) (greatest_is z e.r e.s ∙ ap₂ max_z (is _ _ _ e.high_low) (is _ _ _ e.high_high))

  pub ends_are : interval (z least) (z greatest) ≡ hull f (interval_of a) (interval_of b)
  unfolding hull
  ends_are = ap₂ interval low_is high_is
