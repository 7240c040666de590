-- Sums, products and factors by their level and depth.
use mathlib.Core.Path.{◌≡◌, refl, ◌∙◌}
use Prim.Native.Nat.{ℕ, zero, suc, ◌-◌}
use native.Mathlib.Omega.{arith}
use lib.ListN.{length}
use Rattle.rules.specs.Format.{Bytes}
use Rattle.rules.specs.Program.{Arith}
use Rattle.text.specs.Words.{Read, took, then_read, spaces}
use Rattle.text.specs.Notation.{chain, from_left, sum, product, operand, closed, too_deep, factor}
use Rattle.notation.specs.Forms.{arith_form, ops_at, arith_at}

-- a product or a sum: its first operand, and the chain
pub arith_from : (d level : ℕ) (t : Bytes) → (level ≡ 0 → ⊥) → arith_at d level t ≡ from_left (ops_at level) (arith_at d (level - 1)) t
unfolding arith_at
arith_from d zero t n = absurd (n refl)
arith_from d (suc l) t n = let e : suc l - 1 ≡ l = omega arith in rw e

pub arith-chain : (d level : ℕ) (t u : Bytes) (a : Arith) → (level ≡ 0 → ⊥) → arith_at d (level - 1) t ≡ took a u
    → arith_at d level t ≡ chain (ops_at level) (arith_at d (level - 1)) (length u) a u
unfolding from_left then_read
arith-chain d level t u a n h = arith_from d level t n ∙ rw h

pub factor-level : (d : ℕ) (t : Bytes) → factor d t ≡ arith_at d 0 t
unfolding arith_at
factor-level d t = refl

pub sum_level : (d : ℕ) (t : Bytes) → sum (factor d) t ≡ arith_at d 2 t
unfolding arith_at sum product ops_at
sum_level d t = refl

-- arithmetic is never a condition
pub never-logical : (a : Arith) → mathlib.Core.Bool.false ≡ arith_form.logical a
unfolding arith_form
never-logical a = refl

-- ---- a factor

-- what an opening parenthesis begins
unfoldable pub inside_of : ℕ → Bytes → Read Arith
inside_of zero r = too_deep r
inside_of (suc d) r = closed (sum (λ t. factor d t) r)

pub factor_is : (d : ℕ) (t : Bytes) → arith_at d 0 t ≡ operand (inside_of d) (spaces t)
unfolding arith_at factor inside_of
factor_is zero t = refl
factor_is (suc d) t = refl

pub inside_deep : (d : ℕ) (r : Bytes) → d ≡ 0 → inside_of d r ≡ too_deep r
unfolding inside_of
inside_deep zero r z = refl
inside_deep (suc d) r z = absurd (omega arith)

pub inside_is : (d : ℕ) (r : Bytes) → (d ≡ 0 → ⊥) → inside_of d r ≡ closed (arith_at (d - 1) 2 r)
unfolding inside_of arith_at sum product ops_at
inside_is zero r n = absurd (n refl)
inside_is (suc d) r n = let e : suc d - 1 ≡ d = omega arith in rw e

pub ruleset factors = (factor_is, inside_deep, inside_is)
