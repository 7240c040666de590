-- Laws of a search's loop, for any step: a larger budget, another budget in the program and more slots leave its end as it was,
-- where it was not for want of steps or room. And that the step of 01 is one of which they speak.
use Rattle.std.specs.Prelude.{if◌then◌else◌}
use mathlib.Core.Path.{◌≡◌, refl, sym, ap, ◌∙◌, subst}
use mathlib.Core.List.{List, [], ◌∷◌, ◌++◌}
use Prim.Native.Nat.{ℕ, zero, suc, ◌+◌, ◌≤◌}
use native.Mathlib.Nat.{le_trans, le_of_suc-le-suc, not-suc-le-zero}
use lib.Dec.{leb, leb→le, le→leb}
use lib.ListN.{length}
use Rattle.rules.specs.Refusal.{Refusal, number, out_of_steps, out_of_room}
use Rattle.rules.specs.Program.{Program}
use Rattle.rules.specs.Search.{State, Live, Turn, refused, ended, follow, turn_of, turn, live_from, Window, unseen, Step, stop, go_on, after_turn, Stepper, search_step, End, resume, search_by, start, from_by}
use Rattle.rules.specs.Budget.{NotBy, rebudgeted}
use Rattle.rules.proofs.Base.{if-ind, not-both}

-- a step that does not stop with refusal r
abbrev pub NotStop : Refusal → Step → Type 0
NotStop r (stop q p) = number q ≡ number r → ⊥
NotStop r (go_on xs w) = Unit {0}

resume-keeps : (r : Refusal) (n : ℕ) (k l : List State → Window → End) → ((ys : List State) (w : Window) → NotBy r (k ys w) → l ys w ≡ k ys w)
    → (t : Step) → NotBy r (resume n k t) → resume n l t ≡ resume n k t
unfolding resume
resume-keeps r n k l f (stop q p) h = refl
resume-keeps r n k l f (go_on ys w) h = f ys w h

-- a larger budget
more-steps : (step : Stepper) (b c : ℕ) → b ≤ c → (xs : List State) (w : Window) (n : ℕ) → NotBy out_of_steps (search_by step b xs w n)
    → search_by step c xs w n ≡ search_by step b xs w n
unfolding search_by
more-steps step zero zero l [] w n h = refl
more-steps step zero (suc c) l [] w n h = refl
more-steps step zero zero l (x ∷ xs) w n h = refl
more-steps step zero (suc c) l (x ∷ xs) w n h = absurd (h refl)
more-steps step (suc b) zero l xs w n h = absurd (not-suc-le-zero l)
more-steps step (suc b) (suc c) l [] w n h = refl
more-steps step (suc b) (suc c) l (x ∷ xs) w n h =
    resume-keeps out_of_steps (suc n) (λ ys v. search_by step b ys v (suc n)) (λ ys v. search_by step c ys v (suc n))
    (λ ys v k. more-steps step b c (le_of_suc-le-suc l) ys v (suc n) k) (step x xs w) h

-- two steps that are the same unless the first stops with r
same-steps : (r : Refusal) (one two : Stepper) → ((x : State) (xs : List State) (w : Window) → NotStop r (one x xs w) → two x xs w ≡ one x xs w)
    → (b : ℕ) (xs : List State) (w : Window) (n : ℕ) → NotBy r (search_by one b xs w n) → search_by two b xs w n ≡ search_by one b xs w n
unfolding search_by
same-steps r one two f zero [] w n h = refl
same-steps r one two f zero (x ∷ xs) w n h = refl
same-steps r one two f (suc b) [] w n h = refl
same-steps r one two f (suc b) (x ∷ xs) w n h =
    ap (resume (suc n) (λ ys v. search_by two b ys v (suc n))) (f x xs w (stops (one x xs w) h))
    ∙ resume-keeps r (suc n) (λ ys v. search_by one b ys v (suc n)) (λ ys v. search_by two b ys v (suc n))
    (λ ys v k. same-steps r one two f b ys v (suc n) k) (one x xs w) h
  where
    stops : (t : Step) → NotBy r (resume (suc n) (λ ys v. search_by one b ys v (suc n)) t) → NotStop r t
    stops (stop q p) h = unfold resume in h
    stops (go_on ys v) h = tt

-- ---- the search of a program, by its step with some slots

-- a step that does not look at the budget, and that meets the slots only to stop for want of room
pub record Keeps (step : Program → ℕ → Stepper) : Type 0 where
  pub any_budget : (b : ℕ) (g : Program) (slots : ℕ) (x : State) (xs : List State) (w : Window) → step (rebudgeted b g) slots x xs w ≡ step g slots x xs w
  pub more_slots : (g : Program) (k l : ℕ) → k ≤ l → (x : State) (xs : List State) (w : Window) → NotStop out_of_room (step g k x xs w) → step g l x xs w ≡ step g k x xs w

module _ (step : Program → ℕ → Stepper) (keeps : Keeps step) (g : Program) where
  pub from-more-steps : (b : ℕ) → g.header.budget ≤ b → (slots : ℕ) → NotBy out_of_steps (from_by step g slots) → from_by step (rebudgeted b g) slots ≡ from_by step g slots
  unfolding from_by start
  from-more-steps b larger slots h =
      let more = more-steps (step g slots) g.header.budget b larger (start g ∷ []) unseen 0 h in
      same-steps out_of_steps (step g slots) (step (rebudgeted b g) slots) (λ x xs w _. keeps.any_budget b g slots x xs w) b (start g ∷ []) unseen 0
      (subst (NotBy out_of_steps) (sym more) h)
      ∙ more

  pub from-more-slots : (k l : ℕ) → k ≤ l → NotBy out_of_room (from_by step g k) → from_by step g l ≡ from_by step g k
  unfolding from_by
  from-more-slots k l h = same-steps out_of_room (step g k) (step g l) (keeps.more_slots g k l h) g.header.budget (start g ∷ []) unseen 0

-- ---- the step of 01

same_turn : (b : ℕ) (g : Program) (x : State) (vs : List Live) → turn_of (rebudgeted b g) x vs ≡ turn_of g x vs
unfolding turn_of
same_turn b g x [] = refl
same_turn b g x (v ∷ vs) = refl

room-if : (m k l : ℕ) → k ≤ l → (ys : List State) (w : Window) → NotStop out_of_room (if leb m k then go_on ys w else stop out_of_room 0)
    → (if leb m l then go_on ys w else stop out_of_room 0) ≡ (if leb m k then go_on ys w else stop out_of_room 0)
room-if m k l h ys w =
    if-ind (leb m k) (go_on ys w) (stop out_of_room 0) (λ t. NotStop out_of_room t → (if leb m l then go_on ys w else stop out_of_room 0) ≡ t)
    (λ t _. if-ind (leb m l) (go_on ys w) (stop out_of_room 0) (λ u. u ≡ go_on ys w) (λ _. refl)
    (λ n. absurd (not-both (leb m l) n (le→leb m l (le_trans (leb→le m k t) h)))))
    (λ _ n. absurd (n refl))

more_room : (k l : ℕ) → k ≤ l → (xs : List State) (w : Window) (t : Turn) → NotStop out_of_room (after_turn k xs w t) → after_turn l xs w t ≡ after_turn k xs w t
unfolding after_turn
more_room k l h xs w (refused r p) n = refl
more_room k l h xs w (ended a b) n = refl
more_room k l h xs w (follow new) n = room-if (length xs + length new) k l h (new ++ xs) w n

pub step_keeps : Keeps search_step
unfolding search_step turn
step_keeps = record {
  any_budget = λ b g slots x xs w. ap (after_turn slots xs w) (same_turn b g x (live_from 0 g.threads x.threads));
  more_slots = λ g k l h x xs w. more_room k l h xs w (turn g x);
}
