-- Laws that the proofs of several functions cite: how large a sum, a difference and a product can be, and which numbers the
-- width holds. Assumes nothing.
use Prim.Native.Nat.{ℕ, zero, suc, ◌+◌, ◌*◌, ◌-◌, ◌^◌, ◌≤◌, ◌<◌, zero-le}
use mathlib.Core.Path.{◌≡◌, refl, sym, ap, subst, ◌∙◌}
use mathlib.Core.Bool.{Bool, true, false, cond}
use native.Mathlib.Nat.{le_refl, le_trans, le_of_lt, mul-le-mul}
use native.Mathlib.Omega.{arith}
use lib.Dec.{T, ltb}
use lib.IntN.{ℤ, pos, negsuc, neg_ℤ, pred_ℤ, ◌+ℤ◌, ◌-ℤ◌, ◌*ℤ◌, +ℤ-pred_ℤ, +ℤ_idr}
use lib.Signed.{mag, lt_z}
use mir.Syntax.{w32}
use mir.Val.{SFits}
use borrow.Author.Tests.{ltb-true, lt-ltb}
use Rattle.rules.specs.Interval.{in_range}
use Rattle.rules.proofs.Interval.{in-range-is}

-- ---- magnitudes
mag-cond : (b : Bool) (m n k : ℕ) → m ≤ k → n ≤ k → mag (cond b (negsuc m) (pos n)) ≤ k
mag-cond true m n k hm hn = hm
mag-cond false m n k hm hn = hn

pub mag-add : (x y : ℤ) → mag (x +ℤ y) ≤ suc (mag x + mag y)
mag-add (pos a) (pos b) = omega arith
mag-add (pos a) (negsuc b) = mag-cond (ltb a (suc b)) (suc b - suc a) (a - suc b) (suc (a + b)) (omega arith) (omega arith)
mag-add (negsuc a) (pos b) = mag-cond (ltb b (suc a)) (suc a - suc b) (b - suc a) (suc (a + b)) (omega arith) (omega arith)
mag-add (negsuc a) (negsuc b) = omega arith

pub mag-neg-pos : (m : ℕ) → mag (neg_ℤ (pos m)) ≤ m
mag-neg-pos zero = zero-le
mag-neg-pos (suc m) = omega arith

pub mag-neg : (x : ℤ) → mag (neg_ℤ x) ≤ suc (mag x)
mag-neg (pos m) = le_trans (mag-neg-pos m) (omega arith)
mag-neg (negsuc m) = le_refl (suc m)

pub mag-sub : (x y : ℤ) → mag (x -ℤ y) ≤ suc (suc (mag x + mag y))
mag-sub x y = omega (arith, mag-add x (neg_ℤ y), mag-neg y)

-- a product of two numbers of magnitude below n is of magnitude at most n * n
pub mag-mul : (n : ℕ) (x y : ℤ) → mag x < n → mag y < n → mag (x *ℤ y) ≤ n * n
mag-mul n (pos a) (pos b) h k = mul-le-mul (le_of_lt h) (le_of_lt k)
mag-mul n (pos a) (negsuc b) h k = le_trans (mag-neg-pos (a * suc b)) (mul-le-mul (le_of_lt h) k)
mag-mul n (negsuc a) (pos b) h k = le_trans (mag-neg-pos (suc a * b)) (mul-le-mul h (le_of_lt k))
mag-mul n (negsuc a) (negsuc b) h k = mul-le-mul h k

pub true-false {ℓ} : {X : Type ℓ} → true ≡ false → X
true-false e = absurd (subst T e tt)

pub in-fits : {z : ℤ} → in_range (2 ^ 31) z ≡ true → SFits w32 z
in-fits {z} e = record { sfits = ltb-true (mag z) (2 ^ 31) (sym (in-range-is (2 ^ 31) z) ∙ e) }

pub fits_in : {z : ℤ} → SFits w32 z → in_range (2 ^ 31) z ≡ true
fits_in {z} f = in-range-is (2 ^ 31) z ∙ lt-ltb (mag z) (2 ^ 31) f.sfits

-- ---- the magnitude of a value
never-below : (a : ℕ) (t : Bool) → ltb a 0 ≡ t → t ≡ false
never-below a true e = absurd (omega (arith, ltb-true a 0 e))
never-below a false e = refl

pub not_negative : (a : ℕ) → lt_z (pos a) (pos 0) ≡ false
not_negative a = never-below a (ltb a 0) refl

-- ---- one less
pub minus_one : (z : ℤ) → z -ℤ pos 1 ≡ pred_ℤ z
minus_one z = +ℤ-pred_ℤ z (pos 0) ∙ ap pred_ℤ (+ℤ_idr z)
