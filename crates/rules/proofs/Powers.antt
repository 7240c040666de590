-- The sum of the powers of a number from power 0 on.
use mathlib.Core.Path.{◌≡◌, subst}
use Prim.Native.Nat.{ℕ, zero, suc, ◌+◌, ◌*◌, ◌^◌, ◌≤◌}
use native.Mathlib.Nat.{le_trans, le_refl, not-suc-le-zero, pow-zero, pow-succ', mul-add}
use native.Mathlib.Decide.{ℕ_discrete}
use native.Mathlib.Omega.{arith}
use Rattle.rules.specs.Budget.{powers}

-- one more than b times the sum to the power before
pub powers-step : (b k : ℕ) → powers b (suc k) ≡ suc (b * powers b k)
unfolding powers
powers-step b zero =
    let p : b ^ 0 ≡ 1 = pow-zero b in
    let q : b ^ 1 ≡ b * b ^ 0 = pow-succ' b 0 in
    omega arith
powers-step b (suc k) =
    let h : powers b k + b ^ suc k ≡ suc (b * powers b k) = powers-step b k in
    let q : b ^ suc (suc k) ≡ b * b ^ suc k = pow-succ' b (suc k) in
    let m : b * (powers b k + b ^ suc k) ≡ b * powers b k + b * b ^ suc k = mul-add b (powers b k) (b ^ suc k) in
    omega arith

pub powers-up : (b j k : ℕ) → j ≤ k → powers b j ≤ powers b k
unfolding powers
powers-up b zero zero h = le_refl (b ^ 0)
powers-up b (suc j) zero h = absurd (not-suc-le-zero h)
powers-up b j (suc k) h = elim (ℕ_discrete j (suc k)) [
  | yes q ↦ subst (λ (i : ℕ). powers b j ≤ powers b i) q (le_refl (powers b j))
  | no q ↦ le_trans (powers-up b j k (omega arith)) (omega arith)
]

pub powers-some : (b k : ℕ) → 1 ≤ powers b k
unfolding powers
powers-some b zero = let p : b ^ 0 ≡ 1 = pow-zero b in omega arith
powers-some b (suc k) = le_trans (powers-some b k) (omega arith)
