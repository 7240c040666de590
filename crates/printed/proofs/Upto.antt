-- Operands joined from left to right: reading the first operand and going on is going on from the whole that is read so far.
use mathlib.Core.Path.{◌≡◌, ◌∙◌}
use mathlib.Core.List.{List}
use Prim.Native.Nat.{ℕ, zero, suc, ◌≤◌, ◌<◌}
use native.Mathlib.Nat.{le_refl}
use native.Mathlib.Omega.{arith}
use lib.ListN.{length}
use Rattle.rules.specs.Format.{Bytes}
use Rattle.text.specs.Words.{Read, took, then_read, spaces, Word}
use Rattle.text.specs.Notation.{joined, link, on_link, chain, from_left}
use Rattle.text.proofs.Chain.{NoLink, chain-over}

module _ {A : Type 0} (ws : List (Word (A → A → A))) (operand : Bytes → Read A) where
  chain-step : (n : ℕ) (a b : A) (f : A → A → A) (s r t : Bytes) → link ws (spaces s) ≡ joined f r → operand r ≡ took b t
      → chain ws operand (suc n) a s ≡ chain ws operand n (f a b) t
  unfolding chain on_link then_read
  chain-step n a b f s r t h k = rw (h, k)

  -- a text is read as far as a value, and the chain goes on behind it with turns enough
  pub record Upto (s : Bytes) (a : A) (rest : Bytes) : Type 0 where
    pub turns : ℕ
    pub enough : length rest ≤ turns
    pub goes_on : from_left ws operand s ≡ chain ws operand turns a rest

  pub upto-first : (s : Bytes) (a : A) (rest : Bytes) → operand s ≡ took a rest → Upto s a rest
  unfolding from_left then_read
  upto-first s a rest h = record { turns = length rest; enough = le_refl (length rest); goes_on = rw h }

  more : (n : ℕ) (s : Bytes) (a b : A) (f : A → A → A) (u r t : Bytes) → length u ≤ n → from_left ws operand s ≡ chain ws operand n a u
      → link ws (spaces u) ≡ joined f r → operand r ≡ took b t → length t < length u → Upto s (f a b) t
  more zero s a b f u r t l g h k m = absurd (omega arith)
  more (suc n) s a b f u r t l g h k m = record { turns = n; enough = omega arith; goes_on = g ∙ chain-step n a b f u r t h k }

  -- one more operand
  pub upto_next : (s : Bytes) (a b : A) (f : A → A → A) (u r t : Bytes) → Upto s a u → link ws (spaces u) ≡ joined f r → operand r ≡ took b t
      → length t < length u → Upto s (f a b) t
  upto_next s a b f u r t x h k m = more x.turns s a b f u r t x.enough x.goes_on h k m

  pub upto-over : (s : Bytes) (a : A) (rest : Bytes) → Upto s a rest → NoLink ws rest → from_left ws operand s ≡ took a rest
  upto-over s a rest x h = x.goes_on ∙ chain-over ws operand x.turns a rest h
