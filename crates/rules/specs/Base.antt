-- Tests on all of several things, and what is common to promises.
use Rattle.std.specs.Prelude.{Bool, true, false, ◌&&◌, List, [], ◌∷◌, ◌++◌, ℕ, zero, suc, ltb, length, drop, if◌then◌else◌}

-- every element of a list passes the test
unfoldable pub all : {A : Type 0} → (A → Bool) → List A → Bool
all f [] = true
all f (x ∷ xs) = f x && all f xs

-- every number below n passes the test
unfoldable pub all_below : ℕ → (ℕ → Bool) → Bool
all_below zero f = true
all_below (suc n) f = all_below n f && f n

-- every element of a list has a property
infixr 20 ◌&◌
pub data Each {A : Type 0} (P : A → Type 0) : List A → Type 0 where
  nil : Each P []
  ◌&◌ : {x : A} {xs : List A} → P x → Each P xs → Each P (x ∷ xs)

-- what a call leaves in a lent array: its numbers at the front; an array that is too short for them is left as it is
abbrev pub at_front : List ℕ → List ℕ → List ℕ
at_front ns before = if ltb (length before) (length ns) then before else ns ++ drop (length ns) before

-- what the papers leave free: a promise names it so, and says nothing of it
abbrev pub Free : {A : Type 0} → A → Type 0
Free x = Unit {0}
