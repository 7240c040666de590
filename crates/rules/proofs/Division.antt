-- The board rounds down (02, ticket 5): a quotient is the greatest whole number that is not above the fraction, and only the lowest
-- value by -1 is off the scale. (The worked rows are in Worked, the quotients between the ends in Quotient.)
use mathlib.Core.Path.{◌≡◌, refl, ap, subst, sym}
use mathlib.Core.Logic.{◌≢◌}
use mathlib.Core.Bool.{Bool, false, not}
use Prim.Native.Nat.{ℕ, zero, suc, ◌*◌, ◌/◌, ◌<◌, zero-le, suc-le-suc}
use native.Mathlib.Nat.{le_refl, le_of_suc-le-suc, lt_of_not-le, lt_irrefl, zero-lt-suc, mul-le-mul_left, div-mul-le_self, le-div_iff_mul-le, div-lt_iff_lt-mul, div-le_self, div-one}
use native.Mathlib.Omega.{arith}
use lib.Dec.{T, leb→le, le→leb, ltb→lt, lt→ltb}
use lib.IntN.{ℤ, pos, negsuc, neg_ℤ, ◌*ℤ◌, *ℤ-negsuc, neg_ℤ-neg_ℤ}
use lib.Signed.{mag, le_z, ◌≤ℤ◌, le_z_yes}
use Rattle.rules.specs.Refusal.{value, fault, no_reading, off_scale}
use Rattle.rules.specs.Interval.{Interval, ◌∈◌, floor_div, quotient, divide, operate, divides_by_zero, eq_z, calculate, in_range, hull, holds_zero, may_divide_by_zero, fits, within, combine}
use Rattle.rules.specs.Division.{neg, RoundedDown, RoundsDown}
use Rattle.rules.proofs.Base.{if-ind, not-intro, not-both}
use Rattle.rules.proofs.Order.{neg-anti}
use Rattle.rules.proofs.Quotient.{quotient-holds}
use Rattle.rules.proofs.Interval.{in-range-is, in-range, Ordered}
use Rattle.rules.proofs.Tight.{out_of_range, off-scale-result, fault-of-values}
use Rattle.rules.proofs.Worked.{quotients_hold, quotient_runs_play}

-- ---- the greatest whole number that is not above the fraction

neg-below : (p c : ℕ) → c < p → T (le_z (neg_ℤ (pos p)) (negsuc c))
neg-below zero c h = absurd (omega (arith, h))
neg-below (suc p) c h = le→leb c p (le_of_suc-le-suc h)

below-neg : (p c : ℕ) → T (le_z (neg_ℤ (pos p)) (negsuc c)) → c < p
below-neg zero c t = absurd t
below-neg (suc p) c t = suc-le-suc (leb→le c p t)

floor-not-above : (n : ℕ) (a : ℤ) → (floor_div a (suc n) *ℤ pos (suc n)) ≤ℤ a
unfolding floor_div
floor-not-above n (pos a) = le_z_yes (le→leb (a / suc n * suc n) a (div-mul-le_self a (suc n)))
floor-not-above n (negsuc a) =
    le_z_yes (neg-below (suc (a / suc n) * suc n) a ((div-lt_iff_lt-mul (zero-lt-suc n)).0 (le_refl (suc (a / suc n)))))

floor-greatest : (n : ℕ) (a z : ℤ) → (z *ℤ pos (suc n)) ≤ℤ a → z ≤ℤ floor_div a (suc n)
unfolding floor_div
floor-greatest n (pos a) (pos z) h = le_z_yes (le→leb z (a / suc n) ((le-div_iff_mul-le (zero-lt-suc n)).1 (leb→le (z * suc n) a h.le)))
floor-greatest n (pos a) (negsuc z) h = le_z_yes tt
floor-greatest n (negsuc a) (pos z) h = absurd h.le
floor-greatest n (negsuc a) (negsuc z) h =
    le_z_yes (le→leb (a / suc n) z (le_of_suc-le-suc ((div-lt_iff_lt-mul (zero-lt-suc n)).1 (below-neg (suc z * suc n) a h.le))))

-- both signs changed
turned : (a p : ℤ) → T (le_z p (neg_ℤ a)) → T (le_z a (neg_ℤ p))
turned a p h = subst (λ (z : ℤ). T (le_z z (neg_ℤ p))) (neg_ℤ-neg_ℤ a) (neg-anti p (neg_ℤ a) h)

rounded_down : (a b : ℤ) → b ≢ pos 0 → RoundedDown a b (quotient a b)
unfolding quotient
rounded_down a (pos zero) ne = absurd (ne refl)
rounded_down a (pos (suc n)) ne = record { not_above = floor-not-above n a; greatest = floor-greatest n a }
rounded_down a (negsuc n) ne = record {
  not_above = rw (*ℤ-negsuc (floor_div (neg_ℤ a) (suc n)) n) (le_z_yes (turned a (floor_div (neg_ℤ a) (suc n) *ℤ pos (suc n)) (floor-not-above n (neg_ℤ a)).le));
  greatest = λ z h. floor-greatest n (neg_ℤ a) z (le_z_yes (turned (z *ℤ pos (suc n)) a (subst (λ (p : ℤ). T (le_z a p)) (*ℤ-negsuc z n) h.le)));
}

-- ---- the only quotient off the scale

-- a divisor of 2 or more
halved : (a m : ℕ) → suc a / suc (suc m) < suc a
halved a m = (div-lt_iff_lt-mul (zero-lt-suc (suc m))).1 (omega (arith, mul-le-mul_left (suc a) (suc-le-suc (suc-le-suc (zero-le {n = m})))))

quotient-size : (n : ℕ) (a b : ℤ) → mag a < n → (mag (quotient a b) < n → ⊥) → (a ≡ neg n) × (b ≡ neg 1)
unfolding quotient floor_div
quotient-size n a (pos zero) h off = absurd (off (omega (arith, h)))
quotient-size n (pos a) (pos (suc m)) h off = absurd (off (omega (arith, h, div-le_self a (suc m))))
quotient-size n (negsuc a) (pos (suc m)) h off = absurd (off (omega (arith, h, div-le_self a (suc m))))
quotient-size n (pos zero) (negsuc m) h off = absurd (off (omega (arith, h, div-le_self 0 (suc m))))
quotient-size n (pos (suc a)) (negsuc m) h off = absurd (off (omega (arith, h, div-le_self a (suc m))))
quotient-size n (negsuc a) (negsuc zero) h off =
    let e : suc a ≡ n = omega (arith, h, lt_of_not-le (λ k. off (subst (λ (q : ℕ). q < n) (sym (div-one (suc a))) k))) in (ap neg e, refl)
quotient-size n (negsuc a) (negsuc (suc m)) h off = absurd (off (omega (arith, h, halved a m)))

only_lowest : (n : ℕ) (a b : ℤ) → T (in_range n a) → calculate n divide a b ≡ fault off_scale → (a ≡ neg n) × (b ≡ neg 1)
unfolding operate
only_lowest n a b t e =
    quotient-size n a b (ltb→lt (mag a) n (subst T (in-range-is n a) t))
    (λ k. not-both (in_range n (quotient a b)) (off-scale-result n divide a b e) (subst T (sym (in-range-is n (quotient a b))) (lt→ltb (mag (quotient a b)) n k)))

lowest_off_scale : (n : ℕ) → 0 < n → calculate n divide (neg n) (neg 1) ≡ fault off_scale
unfolding operate quotient floor_div divides_by_zero eq_z
lowest_off_scale zero h = absurd (omega (arith, h))
lowest_off_scale (suc n) h =
    out_of_range (suc n) divide (negsuc n) (negsuc 0) (pos (suc n)) tt (ap pos (div-one (suc n)))
    (not-intro (in_range (suc n) (pos (suc n))) (λ t. lt_irrefl (suc n) (ltb→lt (suc n) (suc n) (subst T (in-range-is (suc n) (pos (suc n))) t))))

with_lowest : (n : ℕ) (i j : Interval) → 0 < n → T (not (holds_zero j)) → neg n ∈ i → neg 1 ∈ j → combine n divide i j ≡ fault off_scale
unfolding combine within may_divide_by_zero operate
with_lowest n i j h t l m =
    let k = hull quotient i j in
    let leaves = off-scale-result n divide (neg n) (neg 1) (lowest_off_scale n h) in
    if-ind (holds_zero j) (fault no_reading) (within n k) (λ r. r ≡ fault off_scale) (λ z. absurd (not-both (holds_zero j) t z))
    (λ _. if-ind (fits n k) (value k) (fault off_scale) (λ r. r ≡ fault off_scale)
    (λ f. absurd (not-both (in_range n (quotient (neg n) (neg 1))) leaves (in-range n k (quotient (neg n) (neg 1)) f (quotient-holds i j t (neg n) (neg 1) l m))))
    (λ _. refl))

only_with_lowest : (n : ℕ) (i j : Interval) → Ordered i → Ordered j → T (fits n i) → combine n divide i j ≡ fault off_scale → (neg n ∈ i) × (neg 1 ∈ j)
only_with_lowest n i j oi oj t e =
    let l = fault-of-values n divide i j off_scale oi oj e in
    let o = only_lowest n l.left l.right (in-range n i l.left t l.left_in_lem) l.lacks in
    (subst (λ (z : ℤ). z ∈ i) o.0 l.left_in_lem, subst (λ (z : ℤ). z ∈ j) o.1 l.right_in)

is_false : {b : Bool} → b ≡ false → T (not b)
is_false e = subst (λ (b : Bool). T (not b)) (sym e) tt

pub rounds-down : RoundsDown
rounds-down = record {
  quotients_hold = quotients_hold;
  quotient_runs_play = quotient_runs_play;
  rounded_down = rounded_down;
  between_ends = λ i j e. quotient-holds i j (is_false e);
  lowest_off_scale = lowest_off_scale;
  only_lowest = λ n a b e. only_lowest n a b (subst T (sym e) tt);
  with_lowest = λ n i j h e. with_lowest n i j h (is_false e);
  only_with_lowest = λ n i j oi oj e. only_with_lowest n i j oi oj (subst T (sym e) tt);
}
