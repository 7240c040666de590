-- Laws of the answer: the steps are the states taken and stay within the budget, and what the five numbers hold in each case.
use mathlib.Core.Path.{◌≡◌, refl, sym, subst}
use mathlib.Core.Bool.{not, ◌&&◌}
use mathlib.Core.List.{List, [], ◌∷◌}
use Prim.Native.Nat.{ℕ, zero, suc, ◌+◌, ◌≤◌, ◌/◌}
use native.Mathlib.Omega.{arith}
use lib.Dec.{T, leb, eqb}
use lib.ListN.{length}
use Rattle.rules.specs.Refusal.{Refusal, number, out_of_room, label_broken}
use Rattle.rules.specs.Constants.{numbers_per_state}
use Rattle.rules.specs.Program.{Program}
use Rattle.rules.specs.Format.{Bytes, Got, bad, got, read_sheet}
use Rattle.rules.specs.Search.{State, Window, unseen, seen, Step, stop, go_on, search_step, End, fails, finds, resume, search, resume_taking, takes, start, search_from, states_taken, Answer, five, judge, answer_with, answer}
use Rattle.rules.proofs.Base.{if-ind, not-both}
use Rattle.rules.proofs.Given.{zero_divisor, off_the_scale, unreadable, is_stuck, past_limit_lem, Given, of_turn, no_steps, no_room, GivenEnd, search-given}

-- ---- steps

abbrev pub steps_of : End → ℕ
steps_of (fails r p n) = n
steps_of (finds n w) = n

resume-steps : (n : ℕ) (k : List State → Window → End) (l : List State → Window → List State)
    → ((ys : List State) (w : Window) → steps_of (k ys w) ≡ n + length (l ys w)) → (t : Step) → steps_of (resume n k t) ≡ n + length (resume_taking l t)
unfolding resume resume_taking
resume-steps n k l f (stop r p) = omega arith
resume-steps n k l f (go_on ys w) = f ys w

-- the steps are those taken before, and the states that the search takes
pub steps-are-states : (left : ℕ) (g : Program) (slots : ℕ) (xs : List State) (w : Window) (n : ℕ)
    → steps_of (search left g slots xs w n) ≡ n + length (takes left g slots xs w)
unfolding search takes
steps-are-states zero g slots [] w n = omega arith
steps-are-states zero g slots (x ∷ xs) w n = omega arith
steps-are-states (suc left) g slots [] w n = omega arith
steps-are-states (suc left) g slots (x ∷ xs) w n =
    let l = resume_taking (λ ys w'. takes left g slots ys w') (search_step g slots x xs w) in
    let h : steps_of (search (suc left) g slots (x ∷ xs) w n) ≡ suc n + length l =
    resume-steps (suc n) (λ ys w'. search left g slots ys w' (suc n)) (λ ys w'. takes left g slots ys w')
    (λ ys w'. steps-are-states left g slots ys w' (suc n)) (search_step g slots x xs w) in
    omega arith

resume-few : (m : ℕ) (l : List State → Window → List State) → ((ys : List State) (w : Window) → length (l ys w) ≤ m) → (t : Step) → length (resume_taking l t) ≤ m
unfolding resume_taking
resume-few m l f (stop r p) = omega arith
resume-few m l f (go_on ys w) = f ys w

-- no more states are taken than the budget has left
pub takes-few : (left : ℕ) (g : Program) (slots : ℕ) (xs : List State) (w : Window) → length (takes left g slots xs w) ≤ left
unfolding takes
takes-few zero g slots xs w = omega arith
takes-few (suc left) g slots [] w = omega arith
takes-few (suc left) g slots (x ∷ xs) w =
    let l = resume_taking (λ ys w'. takes left g slots ys w') (search_step g slots x xs w) in
    let h : length l ≤ left = resume-few left (λ ys w'. takes left g slots ys w') (λ ys w'. takes-few left g slots ys w') (search_step g slots x xs w) in
    omega arith

-- ---- what the five numbers hold

-- of a sheet that does not read
pub record RefusedSheet (r p : ℕ) (a : Answer) : Type 0 where
  pub number_is : a.refusal ≡ r
  pub place_is : a.place ≡ p
  pub no_steps : a.steps ≡ 0
  pub no_low : a.low ≡ 0
  pub no_high : a.high ≡ 0

-- of a sheet that reads, with some slots
pub record SearchedSheet (g : Program) (slots : ℕ) (a : Answer) : Type 0 where
  pub steps_are_taken : a.steps ≡ length (states_taken g slots)
  pub steps_in_budget : a.steps ≤ g.header.budget
  pub window_only : (a.refusal ≡ 0 → ⊥) → (a.refusal ≡ 15 → ⊥) → (a.low ≡ 0) × (a.high ≡ 0)
  -- 11 to 15, and acceptance, have place 0
  pub place_only : (a.refusal ≡ 10 → ⊥) → (a.refusal ≡ 16 → ⊥) → a.place ≡ 0

pub unread-sheet : (sheet : Bytes) (n : ℕ) (r : Refusal) (p : ℕ) → read_sheet sheet ≡ bad r p → RefusedSheet (number r) p (answer sheet n)
unfolding answer
unread-sheet sheet n r p q = subst (λ (x : Got Program). RefusedSheet (number r) p (answer_with (n / numbers_per_state) x)) (sym q) (unfold answer_with in record {
  number_is = refl;
  place_is = refl;
  no_steps = refl;
  no_low = refl;
  no_high = refl;
})

-- the steps of an answer: as many as a list of states, no more than the budget
pub record StepsAre (g : Program) (taken : List State) (n : ℕ) : Type 0 where
  pub count : n ≡ length taken
  pub few : n ≤ g.header.budget

module _ (g : Program) (slots : ℕ) where
  refused-with : (r p n : ℕ) → StepsAre g (states_taken g slots) n → ((r ≡ 10 → ⊥) → (r ≡ 16 → ⊥) → p ≡ 0) → SearchedSheet g slots (five r p n 0 0)
  refused-with r p n h z = record {
    steps_are_taken = h.count;
    steps_in_budget = h.few;
    window_only = λ _ _. (refl, refl);
    place_only = z;
  }

  failed : (r : Refusal) (p n : ℕ) → Given r p → StepsAre g (states_taken g slots) n → SearchedSheet g slots (five (number r) p n 0 0)
  failed r p n (of_turn (unreadable zero_divisor q)) h = refused-with 10 p n h (λ k _. absurd (k refl))
  failed r p n (of_turn (unreadable off_the_scale q)) h = refused-with 16 p n h (λ _ k. absurd (k refl))
  failed r p n (of_turn is_stuck) h = refused-with 11 0 n h (λ _ _. refl)
  failed r p n (of_turn past_limit_lem) h = refused-with 12 0 n h (λ _ _. refl)
  failed r p n no_steps h = refused-with 13 0 n h (λ _ _. refl)
  failed r p n no_room h = refused-with 14 0 n h (λ _ _. refl)

  accepted : (n a b : ℕ) → StepsAre g (states_taken g slots) n → SearchedSheet g slots (five 0 0 n a b)
  accepted n a b h = record {
    steps_are_taken = h.count;
    steps_in_budget = h.few;
    window_only = λ z _. absurd (z refl);
    place_only = λ _ _. refl;
  }

  broken : (n a b : ℕ) → StepsAre g (states_taken g slots) n → SearchedSheet g slots (five 15 0 n a b)
  broken n a b h = record {
    steps_are_taken = h.count;
    steps_in_budget = h.few;
    window_only = λ _ z. absurd (z refl);
    place_only = λ _ _. refl;
  }

  judged : (e : End) → GivenEnd e → StepsAre g (states_taken g slots) (steps_of e) → SearchedSheet g slots (judge g.header.label_low g.header.label_high e)
  unfolding judge
  judged (fails r p n) k h = failed r p n k h
  judged (finds n unseen) k h = broken n 0 0 h
  judged (finds n (seen a b)) k h =
      if-ind (leb g.header.label_low a && leb b g.header.label_high) (five 0 0 n a b) (five (number label_broken) 0 n a b) (SearchedSheet g slots)
      (λ _. accepted n a b h) (λ _. broken n a b h)

  no-slots : T (eqb slots 0) → StepsAre g (states_taken g slots) 0
  unfolding states_taken
  no-slots t = if-ind (eqb slots 0) [] _ (λ xs. StepsAre g xs 0) (λ _. record { count = refl; few = omega arith }) (λ n. absurd (not-both (eqb slots 0) n t))

  some-slots : T (not (eqb slots 0)) → StepsAre g (states_taken g slots) (steps_of (search_from g slots))
  unfolding states_taken search_from
  some-slots n =
      let b = g.header.budget in
      let xs = start g ∷ [] in
      if-ind (eqb slots 0) [] (takes b g slots xs unseen) (λ ys. StepsAre g ys (steps_of (search b g slots xs unseen 0)))
      (λ t. absurd (not-both (eqb slots 0) n t))
      (λ _. record { count = omega (arith, steps-are-states b g slots xs unseen 0); few = omega (arith, steps-are-states b g slots xs unseen 0, takes-few b g slots xs unseen) })

  searched : (e : ℕ) → SearchedSheet g slots (answer_with slots (got g e))
  unfolding answer_with
  searched e =
      if-ind (eqb slots 0) (five (number out_of_room) 0 0 0 0) (judge g.header.label_low g.header.label_high (search_from g slots)) (SearchedSheet g slots)
      (λ t. failed out_of_room 0 0 no_room (no-slots t))
      (λ n. judged (search_from g slots) (search-given g slots) (some-slots n))

pub searched-sheet : (sheet : Bytes) (n : ℕ) (g : Program) (e : ℕ) → read_sheet sheet ≡ got g e → SearchedSheet g (n / numbers_per_state) (answer sheet n)
unfolding answer
searched-sheet sheet n g e q =
    subst (λ (x : Got Program). SearchedSheet g (n / numbers_per_state) (answer_with (n / numbers_per_state) x)) (sym q) (searched g (n / numbers_per_state) e)
