-- Interval arithmetic is sound, for every width: a value on each interval has a result, in range and inside the result's
-- interval; and narrower intervals give a narrower result.
use Rattle.std.specs.Prelude.{if◌then◌else◌}
use mathlib.Core.Path.{◌≡◌, refl, sym, subst}
use mathlib.Core.Bool.{true, ◌&&◌}
use Prim.Native.Nat.{ℕ, zero, suc, ◌≤◌, zero-le}
use native.Mathlib.Omega.{arith}
use lib.Dec.{T, T_not, ltb, leb, leb→le, le→leb, ltb→lt, lt→ltb}
use lib.IntN.{ℤ, pos, negsuc, neg_ℤ}
use lib.Signed.{mag, le_z, lt_z, ◌≤ℤ◌, ≤ℤ_refl, le_z_yes}
use Rattle.rules.specs.Refusal.{Refusal, no_reading, off_scale, Result, value, fault}
use Rattle.rules.specs.Interval.{Interval, ◌∈◌, eq_z, in_range, Operator, plus, minus, times, divide, operate, divides_by_zero, calculate, hull, holds_zero, may_divide_by_zero, fits, within, combine}
use Rattle.rules.proofs.Base.{if-ind, and_left, and_right, and_both, not-both, same_test}
use Rattle.rules.proofs.Order.{≤ℤ-trans, min-left, max-left, min-above, max-below}
use Rattle.rules.proofs.Ends.{operation-holds}

-- ---- the values of a width

-- a number's distance from the least of its sign is below the half: how the machine's width is told
pub in-range-is : (n : ℕ) (z : ℤ) → in_range n z ≡ ltb (mag z) n
unfolding in_range
in-range-is n z = same_test (in_range n z) (ltb (mag z) n) (to n z) (from n z)
  where
    to : (n : ℕ) (z : ℤ) → T (le_z (neg_ℤ (pos n)) z && lt_z z (pos n)) → T (ltb (mag z) n)
    to n (pos a) t = and_right (le_z (neg_ℤ (pos n)) (pos a)) (ltb a n) t
    to zero (negsuc a) t = absurd t
    to (suc n) (negsuc a) t = lt→ltb a (suc n) (omega (arith, leb→le a n (and_left (leb a n) true t)))

    from : (n : ℕ) (z : ℤ) → T (ltb (mag z) n) → T (le_z (neg_ℤ (pos n)) z && lt_z z (pos n))
    from zero (pos a) t = and_both (leb 0 a) (ltb a 0) (le→leb 0 a zero-le) t
    from (suc n) (pos a) t = t
    from zero (negsuc a) t = absurd (omega (arith, ltb→lt a 0 t))
    from (suc n) (negsuc a) t = and_both (leb a n) true (le→leb a n (omega (arith, ltb→lt a (suc n) t))) tt

between : (n : ℕ) (l z h : ℤ) → T (ltb (mag l) n) → T (ltb (mag h) n) → T (le_z l z) → T (le_z z h) → T (ltb (mag z) n)
between n l (pos a) (pos b) t u p q = let x : a ≤ b = leb→le a b q in lt→ltb a n (omega (arith, ltb→lt b n u))
between n l (pos a) (negsuc b) t u p q = absurd q
between n (pos b) (negsuc a) h t u p q = absurd p
between n (negsuc b) (negsuc a) h t u p q = let x : a ≤ b = leb→le a b p in lt→ltb a n (omega (arith, ltb→lt b n t))

-- a value on an interval of the width is of the width
pub in-range : (n : ℕ) (k : Interval) (z : ℤ) → T (fits n k) → z ∈ k → T (in_range n z)
unfolding fits
in-range n k z t h =
    let l : T (ltb (mag k.low) n) = subst T (in-range-is n k.low) (and_left (in_range n k.low) (in_range n k.high) t) in
    let u : T (ltb (mag k.high) n) = subst T (in-range-is n k.high) (and_right (in_range n k.low) (in_range n k.high) t) in
    subst T (sym (in-range-is n z)) (between n k.low z k.high l u h.low.le h.high.le)

-- ---- soundness

zero_in : (j : Interval) (y : ℤ) → T (eq_z y (pos 0)) → y ∈ j → T (holds_zero j)
unfolding eq_z holds_zero
zero_in j y q h =
    let a : y ≤ℤ pos 0 = le_z_yes (and_left (le_z y (pos 0)) (le_z (pos 0) y) q) in
    let b : pos 0 ≤ℤ y = le_z_yes (and_right (le_z y (pos 0)) (le_z (pos 0) y) q) in
    and_both (le_z j.low (pos 0)) (le_z (pos 0) j.high) (≤ℤ-trans h.low a).le (≤ℤ-trans b h.high).le

-- a divisor that is zero lies on an interval that may be zero
pub divisor-in : (o : Operator) (j : Interval) (y : ℤ) → y ∈ j → T (divides_by_zero o y) → T (may_divide_by_zero o j)
unfolding may_divide_by_zero divides_by_zero
divisor-in plus j y h q = q
divisor-in minus j y h q = q
divisor-in times j y h q = q
divisor-in divide j y h q = zero_in j y q h

-- what a reading says of the value: a reading has a value on it
abbrev pub Agree : Result Interval → Result ℤ → Type 0
Agree (fault r) v = Unit {0}
Agree (value k) (fault r) = ⊥
Agree (value k) (value z) = z ∈ k

pub combine-agrees : (n : ℕ) (o : Operator) (i j : Interval) (x y : ℤ) → x ∈ i → y ∈ j → Agree (combine n o i j) (calculate n o x y)
unfolding combine within calculate
combine-agrees n o i j x y hx hy =
    let z = operate o x y in
    let k = hull (operate o) i j in
    if-ind (may_divide_by_zero o j) (fault no_reading) (within n k) (λ r. Agree r (calculate n o x y)) (λ t. tt) (λ t.
    let zk : z ∈ k = operation-holds o i j t x y hx hy in
    if-ind (fits n k) (value k) (fault off_scale) (λ r. Agree r (calculate n o x y))
    (λ f. if-ind (divides_by_zero o y) (fault no_reading) (if in_range n z then value z else fault off_scale) (λ r. Agree (value k) r)
    (λ q. not-both (may_divide_by_zero o j) t (divisor-in o j y hy q))
    (λ q. if-ind (in_range n z) (value z) (fault off_scale) (λ r. Agree (value k) r)
    (λ u. zk)
    (λ u. T_not (in_range n z) u (in-range n k z f zk))))
    (λ f. tt))

-- the value of an operator on values, where it has one
calculated : (n : ℕ) (o : Operator) (x y z : ℤ) → calculate n o x y ≡ value z → (operate o x y ≡ z) × T (in_range n z)
unfolding calculate
calculated n o x y z =
    if-ind (divides_by_zero o y) (fault no_reading) (if in_range n (operate o x y) then value (operate o x y) else fault off_scale) (λ r. r ≡ value z → (operate o x y ≡ z) × T (in_range n z))
    (λ _ e. absurd (clash e))
    (λ _. if-ind (in_range n (operate o x y)) (value (operate o x y)) (fault off_scale) (λ r. r ≡ value z → (operate o x y ≡ z) × T (in_range n z))
    (λ t e. let p : operate o x y ≡ z = cc in (p, subst (λ (w : ℤ). T (in_range n w)) p t)) (λ _ e. absurd (clash e)))
  where
    clash : {r : Refusal} {w : ℤ} → fault r ≡ value w → ⊥
    clash e = let z : ◌≡◌ {A = ℕ} 0 1 = cc in omega arith

-- defined, in range, and inside
pub record Sound (n : ℕ) (o : Operator) (x y : ℤ) (k : Interval) : Type 0 where
  pub result : ℤ
  pub defined : calculate n o x y ≡ value result
  pub is_operation : operate o x y ≡ result
  pub of_width : T (in_range n result)
  pub inside : result ∈ k

pub combine-sound : (n : ℕ) (o : Operator) (i j k : Interval) (x y : ℤ) → combine n o i j ≡ value k → x ∈ i → y ∈ j → Sound n o x y k
combine-sound n o i j k x y e hx hy = by (calculate n o x y) refl (subst (λ (r : Result Interval). Agree r (calculate n o x y)) e (combine-agrees n o i j x y hx hy))
  where
    by : (v : Result ℤ) → calculate n o x y ≡ v → Agree (value k) v → Sound n o x y k
    by (fault r) q h = absurd h
    by (value z) q h = let c = calculated n o x y z q in record { result = z; defined = q; is_operation = c.0; of_width = c.1; inside = h }

-- ---- the ends of an interval that is not empty

-- low to high
abbrev pub Ordered : Interval → Type 0
Ordered i = i.low ≤ℤ i.high

pub low-in : (i : Interval) → Ordered i → i.low ∈ i
low-in i h = record { low = ≤ℤ_refl i.low; high = h }

pub high-in : (i : Interval) → Ordered i → i.high ∈ i
high-in i h = record { low = h; high = ≤ℤ_refl i.high }

-- ---- narrower intervals give a narrower result

infix 50 ◌⊑◌
pub record ◌⊑◌ (i j : Interval) : Type 0 where
  pub low : j.low ≤ℤ i.low
  pub high : i.high ≤ℤ j.high

pub ⊑_refl : (i : Interval) → i ⊑ i
⊑_refl i = record { low = ≤ℤ_refl i.low; high = ≤ℤ_refl i.high }

pub ⊑_trans : (i j k : Interval) → i ⊑ j → j ⊑ k → i ⊑ k
⊑_trans i j k h l = record { low = ≤ℤ-trans l.low h.low; high = ≤ℤ-trans h.high l.high }

-- a part that is not empty
pub record Part (i j : Interval) : Type 0 where
  pub inside : i ⊑ j
  pub ordered : Ordered i

low-point : (m k : Interval) → Part m k → m.low ∈ k
low-point m k h = record { low = h.inside.low; high = ≤ℤ-trans h.ordered h.inside.high }

high-point : (m k : Interval) → Part m k → m.high ∈ k
high-point m k h = record { low = ≤ℤ-trans h.inside.low h.ordered; high = h.inside.high }

-- the reading x on wide registers, y on narrower ones
abbrev pub Below : Result Interval → Result Interval → Type 0
Below (fault r) y = Unit {0}
Below (value k) (fault r) = ⊥
Below (value k) (value m) = Part m k

-- the hull of narrower intervals, from the four ends
hull-part : (f : ℤ → ℤ → ℤ) (i j k : Interval) → f i.low j.low ∈ k → f i.low j.high ∈ k → f i.high j.low ∈ k → f i.high j.high ∈ k
    → Part (hull f i j) k
unfolding hull
hull-part f i j k a b c d = record {
  inside = record {
    low = min-above (min-above a.low b.low) (min-above c.low d.low);
    high = max-below (max-below a.high b.high) (max-below c.high d.high);
  };
  ordered = ≤ℤ-trans (min-left _ _) (≤ℤ-trans (min-left _ _) (≤ℤ-trans (max-left (f i.low j.low) (f i.low j.high)) (max-left _ _)));
}

part-divisor : (o : Operator) (j j' : Interval) → j' ⊑ j → T (may_divide_by_zero o j') → T (may_divide_by_zero o j)
unfolding may_divide_by_zero holds_zero
part-divisor plus j j' h u = u
part-divisor minus j j' h u = u
part-divisor times j j' h u = u
part-divisor divide j j' h u =
    let a : j'.low ≤ℤ pos 0 = le_z_yes (and_left (le_z j'.low (pos 0)) (le_z (pos 0) j'.high) u) in
    let b : pos 0 ≤ℤ j'.high = le_z_yes (and_right (le_z j'.low (pos 0)) (le_z (pos 0) j'.high) u) in
    and_both (le_z j.low (pos 0)) (le_z (pos 0) j.high) (≤ℤ-trans h.low a).le (≤ℤ-trans b h.high).le

part-fits : (n : ℕ) (k m : Interval) → Part m k → T (fits n k) → T (fits n m)
unfolding fits
part-fits n k m h t =
    and_both (in_range n m.low) (in_range n m.high) (in-range n k m.low t (low-point m k h)) (in-range n k m.high t (high-point m k h))

pub combine-below : (n : ℕ) (o : Operator) (i j i' j' : Interval) → Part i' i → Part j' j → Below (combine n o i j) (combine n o i' j')
unfolding combine within
combine-below n o i j i' j' hi hj =
    let k = hull (operate o) i j in
    let m = hull (operate o) i' j' in
    if-ind (may_divide_by_zero o j) (fault no_reading) (within n k) (λ r. Below r (combine n o i' j')) (λ t. tt) (λ t.
    let v = operation-holds o i j t in
    let a = low-point i' i hi in
    let b = high-point i' i hi in
    let c = low-point j' j hj in
    let d = high-point j' j hj in
    let mk : Part m k = hull-part (operate o) i' j' k (v i'.low j'.low a c) (v i'.low j'.high a d) (v i'.high j'.low b c) (v i'.high j'.high b d) in
    if-ind (fits n k) (value k) (fault off_scale) (λ r. Below r (combine n o i' j'))
    (λ f. if-ind (may_divide_by_zero o j') (fault no_reading) (within n m) (λ r. Below (value k) r)
    (λ u. not-both (may_divide_by_zero o j) t (part-divisor o j j' hj.inside u))
    (λ u. if-ind (fits n m) (value m) (fault off_scale) (λ r. Below (value k) r) (λ q. mk) (λ q. T_not (fits n m) q (part-fits n k m mk f))))
    (λ f. tt))
