-- The quotient rises or falls with its dividend, by the divisor's sign, and with its divisor, by the dividend's sign. So on two
-- intervals, the divisor's without 0, it lies between the least and the greatest over the ends.
use mathlib.Core.Path.{sym, ◌∙◌}
use mathlib.Core.Bool.{Bool, true, false, not, ◌&&◌}
use Prim.Native.Nat.{ℕ, zero, suc, ◌/◌, ◌≤◌, ◌<◌, suc-le-suc}
use native.Mathlib.Nat.{le_refl, le_of_suc-le-suc, lt_of_le_of_lt, lt_of_lt_of_le, mul-le-mul_left, div-lt_iff_lt-mul, div-zero, zero-lt-suc, le_of_eq}
use native.Mathlib.Omega.{arith}
use lib.Dec.{T, leb→le, le→leb, ltb→lt, lt→ltb, nleb→lt}
use lib.IntN.{ℤ, pos, negsuc, neg_ℤ}
use lib.Signed.{le_z, lt_z, ◌≤ℤ◌, ≤ℤ_refl, le_z_yes}
use Rattle.rules.specs.Interval.{Interval, ◌∈◌, floor_div, quotient, hull, holds_zero}
use Rattle.rules.proofs.Order.{neg-anti}
use Rattle.rules.proofs.Hull.{Way, up, down, Any, hull-holds}

-- ---- ℕ

div-up : (k : ℕ) {a b : ℕ} → a ≤ b → a / k ≤ b / k
div-up zero {a} {b} h = le_of_eq (div-zero a ∙ sym (div-zero b))
div-up (suc k) {a} {b} h =
    le_of_suc-le-suc ((div-lt_iff_lt-mul (zero-lt-suc k)).1 (lt_of_le_of_lt h ((div-lt_iff_lt-mul (zero-lt-suc k)).0 (le_refl (suc (b / suc k))))))

div-down : (a : ℕ) {k m : ℕ} → suc k ≤ m → a / m ≤ a / suc k
div-down a {k} {m = zero} h = absurd (omega arith)
div-down a {k} {m = suc m} h =
    le_of_suc-le-suc ((div-lt_iff_lt-mul (zero-lt-suc m)).1
    (lt_of_lt_of_le ((div-lt_iff_lt-mul (zero-lt-suc k)).0 (le_refl (suc (a / suc k)))) (mul-le-mul_left (suc (a / suc k)) h)))

-- ---- by a divisor above 0

floor-up : (n : ℕ) (a b : ℤ) → a ≤ℤ b → floor_div a n ≤ℤ floor_div b n
unfolding floor_div
floor-up n (pos a) (pos b) h = le_z_yes (le→leb (a / n) (b / n) (div-up n (leb→le a b h.le)))
floor-up n (pos a) (negsuc b) h = absurd h.le
floor-up n (negsuc a) (pos b) h = le_z_yes tt
floor-up n (negsuc a) (negsuc b) h = le_z_yes (le→leb (b / n) (a / n) (div-up n (leb→le b a h.le)))

-- a function of numbers above 0 that only falls or only rises
data Slope (f : ℕ → ℤ) : Type 0 where
  falls : ((k m : ℕ) → k ≤ m → f (suc m) ≤ℤ f (suc k)) → Slope f
  rises : ((k m : ℕ) → k ≤ m → f (suc k) ≤ℤ f (suc m)) → Slope f

floor-slope : (a : ℤ) → Slope (floor_div a)
unfolding floor_div
floor-slope (pos a) = falls (λ k m h. le_z_yes (le→leb (a / suc m) (a / suc k) (div-down a (suc-le-suc h))))
floor-slope (negsuc a) = rises (λ k m h. le_z_yes (le→leb (a / suc m) (a / suc k) (div-down a (suc-le-suc h))))

-- ---- with the dividend

by-dividend : (y : ℤ) → Way Any (λ x. quotient x y)
unfolding quotient
by-dividend (pos zero) = up (λ a b _ _ h. ≤ℤ_refl (pos 0))
by-dividend (pos (suc n)) = up (λ a b _ _ h. floor-up (suc n) a b h)
by-dividend (negsuc n) = down (λ a b _ _ h. floor-up (suc n) (neg_ℤ b) (neg_ℤ a) (le_z_yes (neg-anti a b h.le)))

-- ---- with the divisor, of one sign

IsPos : ℤ → Type 0
IsPos y = T (lt_z (pos 0) y)

IsNeg : ℤ → Type 0
IsNeg y = T (lt_z y (pos 0))

pos-pair : (P : ℤ → ℤ → Type 0) → ((k m : ℕ) → k ≤ m → P (pos (suc k)) (pos (suc m))) → (y z : ℤ) → IsPos y → IsPos z → y ≤ℤ z → P y z
unfolding IsPos
pos-pair P f (pos zero) z p q h = absurd (omega (arith, ltb→lt 0 0 p))
pos-pair P f (pos (suc k)) (pos zero) p q h = absurd (omega (arith, ltb→lt 0 0 q))
pos-pair P f (pos (suc k)) (pos (suc m)) p q h = f k m (le_of_suc-le-suc (leb→le (suc k) (suc m) h.le))
pos-pair P f (pos (suc k)) (negsuc m) p q h = absurd q
pos-pair P f (negsuc k) z p q h = absurd p

neg-pair : (P : ℤ → ℤ → Type 0) → ((k m : ℕ) → k ≤ m → P (negsuc m) (negsuc k)) → (y z : ℤ) → IsNeg y → IsNeg z → y ≤ℤ z → P y z
unfolding IsNeg
neg-pair P f (pos k) z p q h = absurd (omega (arith, ltb→lt k 0 p))
neg-pair P f (negsuc m) (pos k) p q h = absurd (omega (arith, ltb→lt k 0 q))
neg-pair P f (negsuc m) (negsuc k) p q h = f k m (leb→le k m h.le)

by-positive : (x : ℤ) → Way IsPos (quotient x)
unfolding quotient
by-positive x = go (floor-slope x)
  where
    go : Slope (floor_div x) → Way IsPos (quotient x)
    go (falls f) = down (pos-pair (λ y z. quotient x z ≤ℤ quotient x y) f)
    go (rises f) = up (pos-pair (λ y z. quotient x y ≤ℤ quotient x z) f)

by-negative : (x : ℤ) → Way IsNeg (quotient x)
unfolding quotient
by-negative x = go (floor-slope (neg_ℤ x))
  where
    go : Slope (floor_div (neg_ℤ x)) → Way IsNeg (quotient x)
    go (falls f) = up (neg-pair (λ y z. quotient x y ≤ℤ quotient x z) f)
    go (rises f) = down (neg-pair (λ y z. quotient x z ≤ℤ quotient x y) f)

-- ---- on two intervals

pos_of : (l y : ℤ) → T (not (le_z l (pos 0))) → l ≤ℤ y → IsPos y
unfolding IsPos
pos_of (pos a) (pos b) t h = let k : 0 < a = nleb→lt a 0 t in let m : a ≤ b = leb→le a b h.le in lt→ltb 0 b (omega arith)
pos_of (pos a) (negsuc b) t h = absurd h.le
pos_of (negsuc a) y t h = absurd t

neg_of : (u y : ℤ) → T (not (le_z (pos 0) u)) → y ≤ℤ u → IsNeg y
unfolding IsNeg
neg_of (pos a) y t h = absurd (omega (arith, nleb→lt 0 a t))
neg_of (negsuc a) (pos b) t h = absurd h.le
neg_of (negsuc a) (negsuc b) t h = tt

pub quotient-holds : (i j : Interval) → T (not (holds_zero j)) → (x y : ℤ) → x ∈ i → y ∈ j → quotient x y ∈ hull quotient i j
unfolding holds_zero
quotient-holds i j t = go (le_z j.low (pos 0)) (le_z (pos 0) j.high) (λ n. n) (λ n. n) t
  where
    go : (a b : Bool) → (T (not a) → T (not (le_z j.low (pos 0)))) → (T (not b) → T (not (le_z (pos 0) j.high))) → T (not (a && b))
        → (x y : ℤ) → x ∈ i → y ∈ j → quotient x y ∈ hull quotient i j
    go true true f g t = absurd t
    go true false f g t = hull-holds quotient IsNeg i j (λ y h. neg_of j.high y (g tt) h.high) (λ y _. by-dividend y) by-negative
    go false b f g t = hull-holds quotient IsPos i j (λ y h. pos_of j.low y (f tt) h.low) (λ y _. by-dividend y) by-positive
