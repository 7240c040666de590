-- Parts of a list that stand one behind another.
use mathlib.Core.Path.{◌≡◌, refl, sym, ap, ◌∙◌}
use mathlib.Core.List.{List, [], ◌∷◌, ◌++◌}
use Prim.Native.Nat.{ℕ, zero, suc, ◌≤◌}
use native.Mathlib.Nat.{not-suc-le-zero, le_of_suc-le-suc}
use lib.ListN.{take, drop, take-append-drop}
use lib.Seq.{slice, take-take}

module _ {A : Type 0} where
  -- a part and all that is behind it
  pub slice-drop : (p q : ℕ) (l : List A) → p ≤ q → slice p q l ++ drop q l ≡ drop p l
  slice-drop zero q l h = take-append-drop q l
  slice-drop (suc p) zero l h = absurd (not-suc-le-zero h)
  slice-drop (suc p) (suc q) [] h = refl
  slice-drop (suc p) (suc q) (x ∷ l) h = slice-drop p q l (le_of_suc-le-suc h)

  -- a part and the one behind it
  pub slice-slice : (p q r : ℕ) (l : List A) → p ≤ q → q ≤ r → slice p q l ++ slice q r l ≡ slice p r l
  slice-slice p q r l h k = ap (λ (m : List A). drop p m ++ slice q r l) (sym (take-take q r l k)) ∙ slice-drop p q (take r l) h
