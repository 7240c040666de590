-- The sum of a number over a list's elements.
use mathlib.Core.Path.{◌≡◌}
use mathlib.Core.List.{List, [], ◌∷◌}
use Prim.Native.Nat.{ℕ, zero, suc, ◌+◌, ◌*◌, ◌≤◌, ◌<◌, zero-le}
use native.Mathlib.Nat.{not-suc-le-zero, le_of_suc-le-suc}
use native.Mathlib.Omega.{arith}
use lib.ListN.{length, get_or, set}

module _ {A : Type 0} (f : A → ℕ) where
  pub total : List A → ℕ
  total [] = 0
  total (x ∷ xs) = f x + total xs

  pub total-set : (d : A) (xs : List A) (n : ℕ) (y : A) → n < length xs → total (set xs n y) + f (get_or xs n d) ≡ total xs + f y
  unfolding total
  total-set d [] n y h = absurd (not-suc-le-zero h)
  total-set d (x ∷ xs) zero y h = omega arith
  total-set d (x ∷ xs) (suc n) y h = omega (arith, total-set d xs n y (le_of_suc-le-suc h))

  pub total-bound : (d : A) (l : ℕ) (xs : List A) → ((n : ℕ) → f (get_or xs n d) ≤ l) → total xs ≤ length xs * l
  unfolding total
  total-bound d l [] h = zero-le
  total-bound d l (x ∷ xs) h = more l (length xs) (f x) (total xs) (h 0) (total-bound d l xs (λ n. h (suc n)))
    where
      more : (l n c m : ℕ) → c ≤ l → m ≤ n * l → c + m ≤ suc n * l
      more l n c m h k = omega arith
