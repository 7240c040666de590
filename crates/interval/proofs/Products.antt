-- The products of the ends of two intervals: how large they can be where the ends lie on a third, and what the product of the
-- intervals is where all four are of the width. For every width. Assumes nothing.
use Prim.Native.Nat.{ℕ, suc, ◌*◌, ◌^◌, ◌≤◌, ◌<◌, max, suc-le-suc}
use mathlib.Core.Path.{◌≡◌, refl, sym, subst, ◌∙◌}
use mathlib.Core.Bool.{Bool, true}
use native.Mathlib.Nat.{le-max_left, le-max_right}
use native.Mathlib.Omega.{arith}
use lib.Dec.{T, ltb→lt, lt→ltb}
use lib.IntN.{ℤ, ◌*ℤ◌}
use lib.Signed.{mag, le_z, le_z_yes}
use mir.Syntax.{w32}
use mir.Val.{SFits}
use Rattle.rules.specs.Refusal.{value}
use Rattle.rules.specs.Interval.{Interval, ◌∈◌, in_range, times, operate, hull, may_divide_by_zero, fits, within, combine}
use Rattle.rules.proofs.Base.{and_left, and_right, and_both}
use Rattle.rules.proofs.Hull.{Corners, each-corner, hull-low-has, hull-high-has}
use Rattle.rules.proofs.Interval.{in-range-is, in-range}
use Rattle.interval.specs.Bounds.{holds, holds_ends}
use Rattle.interval.proofs.Laws.{mag-mul}

-- ---- numbers on an interval

-- the least half width of which both ends are values
abbrev pub half_width : Interval → ℕ
half_width i = suc (max (mag i.low) (mag i.high))

module _ (i : Interval) where
  of-half-width : (z : ℤ) → mag z < half_width i → T (in_range (half_width i) z)
  of-half-width z h = subst T (sym (in-range-is (half_width i) z)) (lt→ltb (mag z) (half_width i) h)

  ends-of-half-width : T (fits (half_width i) i)
  unfolding fits
  ends-of-half-width =
      and_both (in_range (half_width i) i.low) (in_range (half_width i) i.high)
      (of-half-width i.low (suc-le-suc (le-max_left (mag i.low) (mag i.high))))
      (of-half-width i.high (suc-le-suc (le-max_right (mag i.low) (mag i.high))))

  held : (z : ℤ) → T (holds i z) → z ∈ i
  unfolding holds
  held z t = record {
    low = le_z_yes (and_left (le_z i.low z) (le_z z i.high) t);
    high = le_z_yes (and_right (le_z i.low z) (le_z z i.high) t);
  }

  mag-held : (z : ℤ) → T (holds i z) → mag z < half_width i
  mag-held z t = ltb→lt (mag z) (half_width i) (subst T (in-range-is (half_width i) z) (in-range (half_width i) i z ends-of-half-width (held z t)))

-- ---- the products of the ends of two intervals

-- at most the half width squared, where all ends lie on i
products-small : (i j k : Interval) → holds_ends i j ≡ true → holds_ends i k ≡ true → Corners (λ z. mag z ≤ half_width i * half_width i) ◌*ℤ◌ j k
unfolding holds_ends
products-small i j k ej ek = record {
  low_low = small j.low k.low (low j ej) (low k ek);
  low_high = small j.low k.high (low j ej) (high k ek);
  high_low = small j.high k.low (high j ej) (low k ek);
  high_high = small j.high k.high (high j ej) (high k ek);
}
  where
    low : (j : Interval) → holds_ends i j ≡ true → T (holds i j.low)
    low j e = and_left (holds i j.low) (holds i j.high) (subst T (sym e) tt)

    high : (j : Interval) → holds_ends i j ≡ true → T (holds i j.high)
    high j e = and_right (holds i j.low) (holds i j.high) (subst T (sym e) tt)

    small : (x y : ℤ) → T (holds i x) → T (holds i y) → mag (x *ℤ y) ≤ half_width i * half_width i
    small x y hx hy = mag-mul (half_width i) x y (mag-held i x hx) (mag-held i y hy)

-- so they are values of 32 bits, where that square is below 2 ^ 31. The tests as the code has them: an answer, and what it was
pub products-fit : (i j k : Interval) → half_width i * half_width i < 2 ^ 31 → {x y : Bool} → x ≡ holds_ends i j → x ≡ true → y ≡ holds_ends i k → y ≡ true
    → Corners (SFits w32) ◌*ℤ◌ j k
products-fit i j k few ej tj ek tk =
    each-corner (products-small i j k (sym ej ∙ tj) (sym ek ∙ tk)) (λ z small. record { sfits = omega (arith, small, few) })

-- where all four are of the width, the product of the intervals is the interval round them
pub product_is : (n : ℕ) (j k : Interval) → Corners (λ z. in_range n z ≡ true) ◌*ℤ◌ j k → combine n times j k ≡ value (hull ◌*ℤ◌ j k)
unfolding combine may_divide_by_zero operate within fits
product_is n j k c = rw (hull-low-has (λ z. in_range n z ≡ true) ◌*ℤ◌ j k c, hull-high-has (λ z. in_range n z ≡ true) ◌*ℤ◌ j k c) refl
