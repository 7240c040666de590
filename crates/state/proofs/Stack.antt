-- The stack of states that the buffer holds: writing at the top is a push, and taking the top one changes no number.
use mathlib.Core.Path.{◌≡◌, refl, sym, ap, ◌∙◌}
use mathlib.Core.List.{List, ◌∷◌}
use Prim.Native.Nat.{ℕ, zero, suc, ◌+◌, ◌*◌, ◌-◌, ◌<◌, ◌≤◌}
use native.Mathlib.Omega.{arith}
use native.Mathlib.Nat.{le_refl}
use native.Mathlib.Numerals.{add-one}
use lib.IntN.{ℤ}
use lib.ListN.{length}
use Rattle.rules.specs.Constants.{numbers_per_state}
use Rattle.state.specs.declared.State.{State}
use Rattle.state.specs.Cells.{encode, decode, with_slot, stored, slot_of, Sound, stack_of}
use Rattle.state.specs.Shape.{Sizes, state_of, states_of}
use Rattle.state.proofs.Shape.{states-cons}
use Rattle.state.proofs.Writing.{encode-length}
use Rattle.state.proofs.Round.{decode-encode, slot_same, slot-below}

pub stack-length : (n : ℕ) (b : List ℤ) → length (stack_of n b) ≡ n
unfolding stack_of
stack-length zero b = refl
stack-length (suc n) b = ap suc (stack-length n b)

module _ (b : List ℤ) (k : ℕ) (cells : List ℤ) (full : length cells ≡ numbers_per_state) (room : k * numbers_per_state + numbers_per_state ≤ length b) where
  -- the slots below the one that is written are as they were
  stack-below : (n : ℕ) → n ≤ k → stack_of n (with_slot b k cells) ≡ stack_of n b
  unfolding stack_of
  stack-below zero h = refl
  stack-below (suc n) h = λ i. decode (slot-below b k cells full room n h i) ∷ stack-below n (omega arith) i

  -- numbers written at the top are a push
  pub push : stack_of (k + 1) (with_slot b k cells) ≡ decode cells ∷ stack_of k b
  unfolding stack_of
  push = rw add-one (λ i. decode (slot_same b k cells full room i) ∷ stack-below k (le_refl k) i)

pub top : (b : List ℤ) (n : ℕ) → 0 < n → stack_of n b ≡ decode (slot_of b (n - 1)) ∷ stack_of (n - 1) b
unfolding stack_of
top b zero h = absurd (omega arith)
top b (suc n) h = let e : suc n - 1 ≡ n = omega arith in rw e

-- ---- the same for the rules' states

pub push-states : (z : Sizes) (b : List ℤ) (k : ℕ) (s : State) → k * numbers_per_state + numbers_per_state ≤ length b → Sound s
    → states_of z (stack_of (k + 1) (stored b k s)) ≡ state_of z s ∷ states_of z (stack_of k b)
push-states z b k s room w =
    ap (states_of z) (push b k (encode s) (encode-length s) room ∙ ap (λ (x : State). x ∷ stack_of k b) (decode-encode s w)) ∙ states-cons z s (stack_of k b)

pub top-states : (z : Sizes) (b : List ℤ) (n : ℕ) (s : State) → 0 < n → s ≡ decode (slot_of b (n - 1)) → states_of z (stack_of n b) ≡ state_of z s ∷ states_of z (stack_of (n - 1) b)
top-states z b n s h e =
    ap (states_of z) (top b n h) ∙ states-cons z (decode (slot_of b (n - 1))) (stack_of (n - 1) b)
    ∙ ap (λ (x : State). state_of z x ∷ states_of z (stack_of (n - 1) b)) (sym e)
