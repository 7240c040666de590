-- A list of one value.
use Rattle.std.proofs.Common.{◌≡◌, ℕ, ◌<◌, List, [], ◌∷◌, length, get_or, replicate, refl, ap₂, arith, suc}

-- where every element is this value
pub all_same : {A : Type 0} (v : A) (xs : List A) → ((k : ℕ) (d : A) → k < length xs → get_or xs k d ≡ v) → xs ≡ replicate (length xs) v
all_same v [] h = refl
all_same v (x ∷ xs) h = ap₂ (λ y ys. y ∷ ys) (h 0 v (omega arith)) (all_same v xs (λ k d l. h (suc k) d (omega arith)))
