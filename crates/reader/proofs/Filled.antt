-- A table that a loop fills: what f gives of each element that was read, from `base` on.
use mathlib.Core.Path.{◌≡◌, sym, ap, ◌∙◌}
use mathlib.Core.List.{List, [], ◌∷◌, ◌++◌, map}
use Prim.Native.Nat.{ℕ, suc, ◌+◌}
use native.Mathlib.Nat.{add-zero}
use native.Mathlib.Omega.{arith}
use lib.ListN.{length, set}
use Rattle.std.proofs.lemmas.List.{length-map, map-append}
use lib.Seq.{sets}

sets-snoc : {B : Type 0} (l : List B) (i : ℕ) (vs : List B) (v : B) → sets l i (vs ++ v ∷ []) ≡ set (sets l i vs) (i + length vs) v
sets-snoc l i [] v = ap (λ (k : ℕ). set l k v) (sym (add-zero i))
sets-snoc l i (u ∷ vs) v =
    sets-snoc (set l i u) (suc i) vs v
    ∙ ap (λ (k : ℕ). set (sets (set l i u) (suc i) vs) k v) (let e : suc i + length vs ≡ i + suc (length vs) = omega arith in e)

-- one more, stored behind those that are
pub table_more : {A B : Type 0} (f : A → B) (l m : List B) (base n : ℕ) (xs : List A) (x : A) (v : B) → length xs ≡ n → m ≡ sets l base (map f xs) → f x ≡ v
    → set m (base + n) v ≡ sets l base (map f (xs ++ x ∷ []))
table_more f l m base n xs x v len e h =
    (λ i. set (e i) (base + (sym (length-map xs f ∙ len)) i) (sym h i))
    ∙ sym (sets-snoc l base (map f xs) (f x))
    ∙ ap (sets l base) (sym (map-append f xs (x ∷ [])))
