-- The numbers of a search: of a sheet that reads, the check gives 0 or one of 10 to 16. So it is for any step that stops with refusals of
-- a search only (`Given.StopsGiven`).
use mathlib.Core.Path.{refl, sym, subst}
use mathlib.Core.Bool.{◌&&◌}
use Prim.Native.Nat.{ℕ, ◌/◌}
use native.Mathlib.Omega.{arith}
use lib.Dec.{T, leb, leb→le, eqb}
use Rattle.rules.specs.Refusal.{Refusal, number, no_reading, stuck, past_limit, out_of_steps, out_of_room, label_broken, off_scale}
use Rattle.rules.specs.Constants.{numbers_per_state}
use Rattle.rules.specs.Program.{Program}
use Rattle.rules.specs.Format.{Got, got}
use Rattle.rules.specs.Search.{unseen, seen, Stepper, search_step, End, fails, finds, from_by, search_from, Answer, five, judge, answer_by, answer_with, answer}
use Rattle.rules.specs.Demands.{OfSearch, NoSheetFault}
use Rattle.rules.proofs.Base.{if-ind, and_left, and_right}
use Rattle.rules.proofs.Given.{zero_divisor, off_the_scale, unreadable, is_stuck, past_limit_lem, Given, of_turn, no_steps, no_room, StopsGiven, step_given, GivenEnd, from-given}

-- an answer with such a number
abbrev Numbered : Answer → Type 0
Numbered a = OfSearch a.refusal

-- a refusal by its number
by_number : (r : Refusal) → T (leb 10 (number r) && leb (number r) 16) → OfSearch (number r)
by_number r h =
    let n = number r in
    record {
      at_least = λ _. leb→le 10 n (and_left (leb 10 n) (leb n 16) h);
      at_most = leb→le n 16 (and_right (leb 10 n) (leb n 16) h);
    }

given-number : (r : Refusal) (p : ℕ) → Given r p → OfSearch (number r)
given-number r p (of_turn (unreadable zero_divisor q)) = by_number no_reading tt
given-number r p (of_turn (unreadable off_the_scale q)) = by_number off_scale tt
given-number r p (of_turn is_stuck) = by_number stuck tt
given-number r p (of_turn past_limit_lem) = by_number past_limit tt
given-number r p no_steps = by_number out_of_steps tt
given-number r p no_room = by_number out_of_room tt

judged-number : (low high : ℕ) (e : End) → GivenEnd e → Numbered (judge low high e)
unfolding judge
judged-number low high (fails r p n) h = given-number r p h
judged-number low high (finds n unseen) h = by_number label_broken tt
judged-number low high (finds n (seen a b)) h =
    if-ind (leb low a && leb b high) (five 0 0 n a b) (five (number label_broken) 0 n a b) Numbered
    (λ _. record { at_least = λ z. absurd (z refl); at_most = omega arith }) (λ _. by_number label_broken tt)

-- the answer of a program that was read, by any such step
pub numbers-of-search : (step : Program → ℕ → Stepper) (g : Program) (end slots : ℕ) → StopsGiven (step g slots)
    → OfSearch (answer_by (from_by step) slots (got g end)).refusal
unfolding answer_by
numbers-of-search step g end slots h =
    let low = g.header.label_low in
    let high = g.header.label_high in
    if-ind (eqb slots 0) (five (number out_of_room) 0 0 0 0) (judge low high (from_by step g slots)) Numbered
    (λ _. given-number out_of_room 0 no_room) (λ _. judged-number low high (from_by step g slots) (from-given step g slots h))

-- ---- the search of 01

pub no-sheet-fault : NoSheetFault
unfolding answer answer_with search_from
no-sheet-fault sheet n g end q =
    let slots = n / numbers_per_state in
    subst (λ (x : Got Program). Numbered (answer_with slots x)) (sym q) (numbers-of-search search_step g end slots (step_given g slots))
