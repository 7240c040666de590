-- Operands joined from left to right: a chain is over where no sign follows.
use mathlib.Core.Path.{◌≡◌, refl}
use mathlib.Core.List.{List}
use Prim.Native.Nat.{ℕ, zero, suc}
use Rattle.rules.specs.Format.{Bytes}
use Rattle.text.specs.Words.{Read, took, spaces, Word}
use Rattle.text.specs.Notation.{none_here, link, on_link, chain}

-- what follows does not go on with one of these signs
abbrev pub NoLink : {M : Type 0} → List (Word M) → Bytes → Type 0
NoLink ws s = link ws (spaces s) ≡ none_here

module _ {A : Type 0} (ws : List (Word (A → A → A))) (operand : Bytes → Read A) where
  pub chain-over : (n : ℕ) (a : A) (s : Bytes) → NoLink ws s → chain ws operand n a s ≡ took a s
  unfolding chain on_link
  chain-over zero a s h = refl
  chain-over (suc n) a s h = rw h
