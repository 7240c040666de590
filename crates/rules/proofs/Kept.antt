-- The five numbers under a larger budget and with a larger buffer, for any step that does not look at the budget and meets the
-- slots only to stop (`Loop.Keeps`).
use Rattle.std.specs.Prelude.{if◌then◌else◌}
use mathlib.Core.Path.{◌≡◌, refl, ap, subst}
use mathlib.Core.Bool.{Bool, true, false}
use Prim.Native.Nat.{ℕ, ◌/◌, ◌≤◌}
use native.Mathlib.Omega.{arith}
use lib.Dec.{T, eqb, eqb→eq}
use Rattle.rules.specs.Refusal.{Refusal, number, out_of_steps, out_of_room}
use Rattle.rules.specs.Constants.{numbers_per_state}
use Rattle.rules.specs.Program.{Program}
use Rattle.rules.specs.Format.{Bytes, Got, bad, got, read_sheet}
use Rattle.rules.specs.Search.{unseen, seen, Stepper, search_step, End, fails, finds, from_by, search_from, Answer, five, judge, answer_by, answer_with, answer}
use Rattle.rules.specs.Budget.{AnyBut, NotBy, rebudgeted, answer_of, KeptByBuffer, KeptOfProgram, AnswersAsProgram}
use Rattle.rules.proofs.Base.{if-ind, not-both}
use Rattle.rules.proofs.Loop.{Keeps, from-more-steps, from-more-slots, step_keeps}

-- where the answer is not refusal r, the search has not ended with it
not-by : (r : Refusal) (low high : ℕ) (e : End) → AnyBut r (judge low high e) → NotBy r e
unfolding judge
not-by r low high (fails q p n) k = k
not-by r low high (finds n unseen) k = tt
not-by r low high (finds n (seen a b)) k = tt

divided : (n m : ℕ) → n ≤ m → n / numbers_per_state ≤ m / numbers_per_state
divided n m h = omega arith

-- the answers of a search by its step
abbrev pub answers_by : (Program → ℕ → Stepper) → Bytes → ℕ → Answer
answers_by step s n = answer_by (from_by step) (n / numbers_per_state) (read_sheet s)

module _ (step : Program → ℕ → Stepper) (keeps : Keeps step) where
  -- ---- a larger budget

  pub program-kept : (g : Program) (e slots b : ℕ) → g.header.budget ≤ b → AnyBut out_of_steps (answer_by (from_by step) slots (got g e))
      → answer_by (from_by step) slots (got (rebudgeted b g) e) ≡ answer_by (from_by step) slots (got g e)
  unfolding answer_by
  program-kept g e slots b larger =
      let low = g.header.label_low in
      let high = g.header.label_high in
      by (eqb slots 0) (five (number out_of_room) 0 0 0 0) (judge low high (from_by step g slots)) (judge low high (from_by step (rebudgeted b g) slots))
      (λ h. ap (judge low high) (from-more-steps step keeps g b larger slots (not-by out_of_steps low high (from_by step g slots) h)))
    where
      by : (c : Bool) (x y z : Answer) → (AnyBut out_of_steps y → z ≡ y) → AnyBut out_of_steps (if c then x else y) → (if c then x else z) ≡ (if c then x else y)
      by true x y z f h = refl
      by false x y z f h = f h

  -- ---- a larger buffer

  slots_kept : (k l : ℕ) → k ≤ l → (x : Got Program) → AnyBut out_of_room (answer_by (from_by step) k x) → answer_by (from_by step) l x ≡ answer_by (from_by step) k x
  unfolding answer_by
  slots_kept k l h (bad r p) = λ n. refl
  slots_kept k l h (got g e) =
      let none = five (number out_of_room) 0 0 0 0 in
      let judged : End → Answer = judge g.header.label_low g.header.label_high in
      let one = judged (from_by step g k) in
      let two = judged (from_by step g l) in
      if-ind (eqb k 0) none one (λ a. AnyBut out_of_room a → (if eqb l 0 then none else two) ≡ a)
      (λ _ n. absurd (n refl))
      (λ z n. if-ind (eqb l 0) none two (λ a. a ≡ one)
      (λ t. absurd (not-both (eqb k 0) z (subst (λ (i : ℕ). T (eqb i 0)) (zero_is k l h (eqb→eq l 0 t)) tt)))
      (λ _. ap judged (from-more-slots step keeps g k l h (not-by out_of_room g.header.label_low g.header.label_high (from_by step g k) n))))
    where
      zero_is : (k l : ℕ) → k ≤ l → l ≡ 0 → 0 ≡ k
      zero_is k l h q = omega arith

  buffer-kept : KeptByBuffer (answers_by step)
  buffer-kept s n m h = slots_kept (n / numbers_per_state) (m / numbers_per_state) (divided n m h) (read_sheet s)

-- ---- the search of 01

pub larger_buffer : KeptByBuffer answer
unfolding answer answer_with search_from
larger_buffer = buffer-kept search_step step_keeps

pub larger_budget_of_program : KeptOfProgram
unfolding answer_of answer_with search_from
larger_budget_of_program g n b larger = program-kept search_step step_keeps g 0 (n / numbers_per_state) b larger

pub as_program : AnswersAsProgram
unfolding answer answer_of answer_with answer_by
as_program s n g end q = ap (answer_with (n / numbers_per_state)) q
