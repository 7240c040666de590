-- Interval arithmetic is no wider than it must be, for every width: each end of a result is reached, and a refusal comes only
-- where some pair of values on the intervals has no result, for that very reason: 10 a zero divisor, 16 a result off the width.
use Rattle.std.specs.Prelude.{if◌then◌else◌}
use mathlib.Core.Path.{◌≡◌, refl, subst, sym}
use mathlib.Core.Bool.{Bool, true, false, not, ◌&&◌}
use Prim.Native.Nat.{ℕ}
use native.Mathlib.Omega.{arith}
use lib.Dec.{T}
use lib.IntN.{ℤ, pos}
use lib.Signed.{le_z, le_z_yes}
use Rattle.rules.specs.Refusal.{Refusal, no_reading, off_scale, Result, value, fault}
use Rattle.rules.specs.Interval.{Interval, ◌∈◌, eq_z, in_range, Operator, plus, minus, times, divide, operate, divides_by_zero, calculate, hull, holds_zero, may_divide_by_zero, fits, within, combine}
use Rattle.rules.specs.Faults.{LacksResult}
use Rattle.rules.proofs.Base.{if-ind, and_left, and_right, not-both, not-intro}
use Rattle.rules.proofs.Hull.{Corners, hull-low-has, hull-high-has}
use Rattle.rules.proofs.Interval.{Ordered, low-in, high-in, divisor-in}

-- ---- the ends are reached

-- some values on the intervals give z
pub record Reached (f : ℤ → ℤ → ℤ) (i j : Interval) (z : ℤ) : Type 0 where
  pub left : ℤ
  pub right : ℤ
  pub left_in_lem : left ∈ i
  pub right_in : right ∈ j
  pub gives : f left right ≡ z

module _ (f : ℤ → ℤ → ℤ) (i j : Interval) (oi : Ordered i) (oj : Ordered j) where
  at-values : (x y : ℤ) → x ∈ i → y ∈ j → Reached f i j (f x y)
  at-values x y hx hy = record { left = x; right = y; left_in_lem = hx; right_in = hy; gives = refl }

  corners : Corners (Reached f i j) f i j
  corners = record {
    low_low = at-values i.low j.low (low-in i oi) (low-in j oj);
    low_high = at-values i.low j.high (low-in i oi) (high-in j oj);
    high_low = at-values i.high j.low (high-in i oi) (low-in j oj);
    high_high = at-values i.high j.high (high-in i oi) (high-in j oj);
  }

  pub hull-low-reached : Reached f i j (hull f i j).low
  hull-low-reached = hull-low-has (Reached f i j) f i j corners

  pub hull-high-reached : Reached f i j (hull f i j).high
  hull-high-reached = hull-high-has (Reached f i j) f i j corners

-- ---- a refusal only where some pair of values has no result, and the same refusal

pub out_of_range : (n : ℕ) (o : Operator) (x y z : ℤ) → T (not (divides_by_zero o y)) → operate o x y ≡ z → T (not (in_range n z)) → calculate n o x y ≡ fault off_scale
unfolding calculate
out_of_range n o x y z d e u =
    if-ind (divides_by_zero o y) (fault no_reading) (if in_range n (operate o x y) then value (operate o x y) else fault off_scale) (λ r. r ≡ fault off_scale)
    (λ t. absurd (not-both (divides_by_zero o y) d t))
    (λ _. if-ind (in_range n (operate o x y)) (value (operate o x y)) (fault off_scale) (λ r. r ≡ fault off_scale)
    (λ t. absurd (not-both (in_range n z) u (subst (λ (w : ℤ). T (in_range n w)) e t))) (λ _. refl))

has_value : {w : ℤ} {r : Refusal} → value w ≡ fault r → ⊥
has_value e = let z : ◌≡◌ {A = ℕ} 0 1 = cc in omega arith

faults-differ : ◌≡◌ {A = Result ℤ} (fault off_scale) (fault no_reading) → ⊥
faults-differ e = let z : ◌≡◌ {A = ℕ} 0 1 = cc in omega arith

-- 16 is given on values only where the result leaves the width
pub off-scale-result : (n : ℕ) (o : Operator) (x y : ℤ) → calculate n o x y ≡ fault off_scale → T (not (in_range n (operate o x y)))
unfolding calculate
off-scale-result n o x y =
    let z = operate o x y in
    let Leaves : Result ℤ → Type 0 = λ r. r ≡ fault off_scale → T (not (in_range n z)) in
    if-ind (divides_by_zero o y) (fault no_reading) (if in_range n z then value z else fault off_scale) Leaves (λ _ e. absurd (faults-differ (sym e)))
    (λ _. if-ind (in_range n z) (value z) (fault off_scale) Leaves (λ _ e. absurd (has_value e)) (λ u _. u))

by_zero : (n : ℕ) (o : Operator) (j : Interval) (x : ℤ) → T (may_divide_by_zero o j) → (pos 0 ∈ j) × (calculate n o x (pos 0) ≡ fault no_reading)
unfolding may_divide_by_zero holds_zero calculate divides_by_zero eq_z
by_zero n plus j x t = absurd t
by_zero n minus j x t = absurd t
by_zero n times j x t = absurd t
by_zero n divide j x t = (
  record {
    low = le_z_yes (and_left (le_z j.low (pos 0)) (le_z (pos 0) j.high) t);
    high = le_z_yes (and_right (le_z j.low (pos 0)) (le_z (pos 0) j.high) t);
  },
  refl,
)

-- one of two tests failed
one-failed : (a b : Bool) {P : Type 0} → T (not (a && b)) → (T (not a) → P) → (T (not b) → P) → P
one-failed true b t f g = g t
one-failed false b t f g = f tt

off-scale-at : (n : ℕ) (o : Operator) (i j : Interval) (z : ℤ) → T (not (may_divide_by_zero o j)) → Reached (operate o) i j z → T (not (in_range n z))
    → LacksResult n o i j off_scale
off-scale-at n o i j z t h u = record {
  left = h.left;
  right = h.right;
  left_in_lem = h.left_in_lem;
  right_in = h.right_in;
  lacks = out_of_range n o h.left h.right z
      (not-intro (divides_by_zero o h.right) (λ q. not-both (may_divide_by_zero o j) t (divisor-in o j h.right h.right_in q))) h.gives u;
}

-- what the result of an operator on two intervals is known to be: its ends are reached, or some pair has no result, by the same
-- refusal
abbrev pub Exact : ℕ → Operator → Interval → Interval → Result Interval → Type 0
Exact n o i j (value k) = Reached (operate o) i j k.low × Reached (operate o) i j k.high
Exact n o i j (fault r) = LacksResult n o i j r

pub combine-exact : (n : ℕ) (o : Operator) (i j : Interval) → Ordered i → Ordered j → Exact n o i j (combine n o i j)
unfolding combine within fits
combine-exact n o i j oi oj =
    let k = hull (operate o) i j in
    let l = hull-low-reached (operate o) i j oi oj in
    let h = hull-high-reached (operate o) i j oi oj in
    if-ind (may_divide_by_zero o j) (fault no_reading) (within n k) (Exact n o i j)
    (λ t. let z = by_zero n o j i.low t in record { left = i.low; right = pos 0; left_in_lem = low-in i oi; right_in = z.0; lacks = z.1 })
    (λ t. if-ind (fits n k) (value k) (fault off_scale) (Exact n o i j) (λ _. (l, h))
    (λ u. one-failed (in_range n k.low) (in_range n k.high) u (off-scale-at n o i j k.low t l) (off-scale-at n o i j k.high t h)))

pub fault-of-values : (n : ℕ) (o : Operator) (i j : Interval) (r : Refusal) → Ordered i → Ordered j → combine n o i j ≡ fault r → LacksResult n o i j r
fault-of-values n o i j r oi oj e = subst (Exact n o i j) e (combine-exact n o i j oi oj)

-- ---- a zero divisor on the interval is told, whatever the size

divides-by-zero : (n : ℕ) (o : Operator) (x y : ℤ) → calculate n o x y ≡ fault no_reading → T (divides_by_zero o y)
unfolding calculate
divides-by-zero n o x y =
    let z = operate o x y in
    if-ind (divides_by_zero o y) (fault no_reading) (if in_range n z then value z else fault off_scale) (λ r. r ≡ fault no_reading → T (divides_by_zero o y)) (λ t _. t)
    (λ _. if-ind (in_range n z) (value z) (fault off_scale) (λ r. r ≡ fault no_reading → T (divides_by_zero o y)) (λ _ e. absurd (has_value e)) (λ _ e. absurd (faults-differ e)))

pub zero-told : (n : ℕ) (o : Operator) (i j : Interval) → LacksResult n o i j no_reading → combine n o i j ≡ fault no_reading
unfolding combine
zero-told n o i j h =
    if-ind (may_divide_by_zero o j) (fault no_reading) (within n (hull (operate o) i j)) (λ r. r ≡ fault no_reading) (λ _. refl)
    (λ t. absurd (not-both (may_divide_by_zero o j) t (divisor-in o j h.right h.right_in (divides-by-zero n o h.left h.right h.lacks))))
