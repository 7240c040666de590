-- The answer by the label, and the answer to the search of a sheet.
use Rattle.std.specs.Prelude.{if◌then◌else◌}
use mathlib.Core.Path.{◌≡◌, refl, sym, ap, subst, ◌∙◌}
use mathlib.Core.Bool.{Bool, true, false}
use Prim.Native.Nat.{ℕ, ◌/◌}
use lib.Dec.{eqb}
use Rattle.rules.specs.Constants.{numbers_per_state}
use Rattle.rules.specs.Refusal as R
use Rattle.rules.specs.Refusal.{number, label_broken}
use Rattle.rules.specs.Program.{Program}
use Rattle.rules.specs.Format.{Bytes, Got, bad, got, read_sheet}
use Rattle.rules.specs.Search.{five, fails, judge, search_from, Answer, answer_with, answer}
use Rattle.rules.specs.Demands.{WindowInside, HoldsOfSheet}
use Rattle.rules.proofs.Demands.{accepted-inside, accepted_holds}
use Rattle.search.specs.Whole.{end_with, search_of}
use Rattle.label.specs.Shape.{answer_to}

-- ---- the search of a sheet

-- slots or none
by_slots : (t : Bool) (low high n : ℕ) (g : Program)
    → judge low high (if t then fails R.out_of_room 0 0 else search_from g n) ≡
    (if t then five (number R.out_of_room) 0 0 0 0 else judge low high (search_from g n))
unfolding judge
by_slots true low high n g = refl
by_slots false low high n g = refl

answers : (n : ℕ) (x : Got Program) → answer_to (search_of n x) ≡ answer_with n x
unfolding search_of answer_with end_with
answers n (bad r p) = refl
answers n (got g e) = by_slots (eqb n 0) g.header.label_low g.header.label_high n g

pub answer-is : (s : Bytes) (n : ℕ) → answer_to (search_of (n / numbers_per_state) (read_sheet s)) ≡ answer s n
unfolding answer
answer-is s n = answers (n / numbers_per_state) (read_sheet s)

-- of an accepted answer
module _ (s : Bytes) (n : ℕ) (a : Answer) (e : a ≡ answer s n) (z : a.refusal ≡ 0) where
  accepted-answer : (answer s n).refusal ≡ 0
  accepted-answer = sym (ap (λ (x : Answer). x.refusal) e) ∙ z

  pub window-of : WindowInside s (answer s n)
  window-of = accepted-inside s n accepted-answer

  pub window-inside : WindowInside s a
  window-inside = subst (WindowInside s) (sym e) window-of

  pub holds-of-sheet : HoldsOfSheet s
  holds-of-sheet = accepted_holds s n accepted-answer
