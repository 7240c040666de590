-- Laws of the loop: what a step of the rules' search comes to, by what the code's turn gave, and what holds at the loop's head.
use Rattle.std.specs.Prelude.{Option, Some, None, Result, Ok, Err}
use mathlib.Core.Path.{◌≡◌, refl, sym, ap, ◌∙◌}
use mathlib.Core.List.{List, [], ◌∷◌, ◌++◌}
use Prim.Native.Nat.{ℕ, zero, suc, ◌+◌, ◌-◌, ◌*◌, ◌≤◌, ◌<◌}
use native.Mathlib.Omega.{arith}
use native.Mathlib.Numerals.{add-one}
use borrow.Author.Tests.{le-leb, lt-leb}
use lib.IntN.{ℤ}
use lib.ListN.{length}
use Rattle.rules.specs.Constants.{numbers_per_state}
use Rattle.rules.specs.Refusal as R
use Rattle.rules.specs.Program.{Program}
use Rattle.rules.specs.Search as S
use Rattle.rules.specs.Search.{Turn, refused, ended, follow, turn, Window, unseen, widen, fails, finds, after_turn, search_step, resume, search}
use Rattle.refusal.specs.Shape.{rule_of, fault_at}
use Rattle.refusal.specs.declared.Fault.{Fault}
use Rattle.refusal.proofs.Laws.{rule-of-refusal}
use Rattle.state.specs.declared.State.{State}
use Rattle.state.specs.Shape.{Sizes, sizes_of, state_of, states_of}
use Rattle.state.specs.Cells.{encode, decode, slot_of, stored, Sound, stack_of}
use Rattle.state.proofs.Shape.{states-nil, states-length}
use Rattle.state.proofs.Round.{with-slot-length}
use Rattle.state.proofs.Writing.{encode-length}
use Rattle.state.proofs.Stack.{stack-length, push-states, top-states}
use Rattle.search.specs.Turn.{Turned}
use Rattle.event.specs.Stack.{SameStack}
use Rattle.event.specs.declared.stack.Stack.{Stack}
use Rattle.search.specs.declared.run.Window as code
use Rattle.field.specs.Ticks.{tick}

-- the state x on the stack xs, with so much of the budget left after this step
module _ (left : ℕ) (g : Program) (slots : ℕ) (x : S.State) (xs : List S.State) (w : Window) (n : ℕ) where
  abbrev from-here : S.End
  from-here = search (suc left) g slots (x ∷ xs) w n

  by_turn : (t : Turn) → turn g x ≡ t → from-here ≡ resume (suc n) (λ ys v. search left g slots ys v (suc n)) (after_turn slots xs w t)
  unfolding search search_step
  by_turn t q = ap (λ (u : Turn). resume (suc n) (λ ys v. search left g slots ys v (suc n)) (after_turn slots xs w u)) q

  step-refused : (r : R.Refusal) (p : ℕ) → turn g x ≡ refused r p → from-here ≡ fails r p (suc n)
  unfolding after_turn resume
  step-refused r p q = by_turn (refused r p) q

  step-ended : (a b : ℕ) → turn g x ≡ ended a b → from-here ≡ search left g slots xs (widen w a b) (suc n)
  unfolding after_turn resume
  step-ended a b q = by_turn (ended a b) q

  step-follow : (new : List S.State) → turn g x ≡ follow new → length xs + length new ≤ slots → from-here ≡ search left g slots
      (new ++ xs) w (suc n)
  unfolding after_turn resume
  step-follow new q h = by_turn (follow new) q ∙ rw (le-leb (length xs + length new) slots h)

  step-full : (new : List S.State) → turn g x ≡ follow new → slots < length xs + length new → from-here ≡ fails R.out_of_room 0 (suc n)
  unfolding after_turn resume
  step-full new q h = by_turn (follow new) q ∙ rw (lt-leb (length xs + length new) slots h)

-- by what the code's turn gave, from the buffer b and the height h to the buffer c and the height k
module _ (left : ℕ) (g : Program) (z : Sizes) (slots : ℕ) (x : S.State) (b c : List ℤ) (h k : ℕ) (low : h ≤ slots) (w : Window) (n : ℕ) where
  abbrev below : List S.State
  below = states_of z (stack_of h b)

  below_length : length below ≡ h
  below_length = states-length z (stack_of h b) ∙ stack-length h b

  pub turned-refused : (t : Turn) → turn g x ≡ t → (f : Fault) → Turned z slots b c h k (Err f) t
      → search (suc left) g slots (x ∷ below) w n ≡ fails (rule_of f.refusal) f.place (suc n)
  turned-refused (refused r o) e f m =
      let q : fault_at r o ≡ f = cc m.0 in
      rw (← q) (step-refused left g slots x below w n r o e ∙ ap (λ (u : R.Refusal). fails u o (suc n)) (sym (rule-of-refusal r)))
  turned-refused (ended y v) e f m = absurd (cc m.0)
  turned-refused (follow new) e f m = absurd (cc m.0)

  pub turned-ended : (t : Turn) → turn g x ≡ t → (found : code.Window) → Turned z slots b c h k (Ok (Some found)) t
      → (search (suc left) g slots (x ∷ below) w n
      ≡ search left g slots (states_of z (stack_of k c)) (widen w found.low.0 found.high.0) (suc n))
      × ((length c ≡ length b) × (k ≤ slots))
  turned-ended (refused r o) e found m = absurd (cc m.0)
  turned-ended (ended y v) e found m =
      let q : record { low = tick y; high = tick v } ≡ found = cc m.0 in
      rw (← q, m.1.0, m.1.1) (step-ended left g slots x below w n y v e, (refl, low))
  turned-ended (follow new) e found m = absurd (cc m.0)

  pub turned-on : (t : Turn) → turn g x ≡ t → k ≤ slots → Turned z slots b c h k (Ok None) t
      → (search (suc left) g slots (x ∷ below) w n ≡ search left g slots (states_of z (stack_of k c)) w (suc n)) × (length c ≡ length b)
  turned-on (refused r o) e l m = absurd (cc m.0)
  turned-on (ended y v) e l m = absurd (cc m.0)
  turned-on (follow new) e l m =
      let count = m.1.count in
      let room : length below + length new ≤ slots = omega (arith, below_length) in
      rw (m.1.stack l) (step-follow left g slots x below w n new e room, m.1.same_length)

  pub turned-full : (t : Turn) → turn g x ≡ t → slots < k → Turned z slots b c h k (Ok None) t
      → search (suc left) g slots (x ∷ below) w n ≡ fails R.out_of_room 0 (suc n)
  turned-full (refused r o) e l m = absurd (cc m.0)
  turned-full (ended y v) e l m = absurd (cc m.0)
  turned-full (follow new) e l m =
      let count = m.1.count in
      step-full left g slots x below w n new e (omega (arith, below_length))

turned-size : (z : Sizes) (slots : ℕ) (b c : List ℤ) (h k : ℕ) (m : Result (Option code.Window) Fault) (t : Turn) → Turned z slots b c h k m t
    → length c ≡ length b
turned-size z slots b c h k m (refused r o) w = w.1
turned-size z slots b c h k m (ended y v) w = ap length w.1.0
turned-size z slots b c h k m (follow new) w = w.1.same_length

-- ---- the loop

-- at the loop's head, so many steps taken: the whole search goes on from the stack s, which was `first`, and this window
pub record Goes (whole : S.End) (g : Program) (budget : ℕ) (first s : Stack) (steps : ℕ) (w : Window) : Type 0 where
  pub same : SameStack first s
  pub in_budget : steps ≤ budget
  pub in_slots : s.height ≤ s.slots
  pub sized : length s.work.now ≡ length first.work.now
  pub goes : whole ≡ search (budget - steps) g s.slots (states_of (sizes_of g) (stack_of s.height s.work.now)) w steps

search-none : (left : ℕ) (g : Program) (slots : ℕ) (w : Window) (n : ℕ) → search left g slots [] w n ≡ finds n w
unfolding search
search-none zero g slots w n = refl
search-none (suc left) g slots w n = refl

search-out : (g : Program) (slots : ℕ) (x : S.State) (xs : List S.State) (w : Window) (n : ℕ) → search 0 g slots
    (x ∷ xs) w n ≡ fails R.out_of_steps 0 n
unfolding search
search-out g slots x xs w n = refl

module _ {whole : S.End} {g : Program} {budget : ℕ} {first s : Stack} {steps : ℕ} {w : Window} (at : Goes whole g budget first s steps w) where
  -- the stack is empty
  pub goes-out : s.height ≡ 0 → whole ≡ finds steps w
  unfolding stack_of
  goes-out e =
      at.goes
      ∙ ap (λ (k : ℕ). search (budget - steps) g s.slots (states_of (sizes_of g) (stack_of k s.work.now)) w steps) e
      ∙ ap (λ (xs : List S.State). search (budget - steps) g s.slots xs w steps) (states-nil (sizes_of g))
      ∙ search-none (budget - steps) g s.slots w steps

  -- the budget is spent
  pub goes-short : 0 < s.height → steps ≡ budget → whole ≡ fails R.out_of_steps 0 steps
  goes-short h e =
      let z = sizes_of g in
      let x = decode (slot_of s.work.now (s.height - 1)) in
      let d : budget - steps ≡ 0 = omega arith in
      at.goes
      ∙ ap (λ (k : ℕ). search k g s.slots (states_of z (stack_of s.height s.work.now)) w steps) d
      ∙ ap (λ (xs : List S.State). search 0 g s.slots xs w steps) (top-states z s.work.now s.height x h refl)
      ∙ search-out g s.slots (state_of z x) (states_of z (stack_of (s.height - 1) s.work.now)) w steps

-- at the loop's head a state is taken from the top of the stack s, and its turn makes m and the stack b
pub record Turning (whole : S.End) (g : Program) (budget : ℕ) (first s : Stack) (steps : ℕ) (w : Window) (b : Stack)
    (m : Result (Option code.Window) Fault) : Type 0 where
  pub at : Goes whole g budget first s steps w
  pub some : 0 < s.height
  pub more : steps < budget
  pub state : State
  pub top : state ≡ decode (slot_of s.work.now (s.height - 1))
  pub same : SameStack s b
  pub made : Turned (sizes_of g) s.slots s.work.now b.work.now (s.height - 1) b.height m (turn g (state_of (sizes_of g) state))

module _ {whole : S.End} {g : Program} {budget : ℕ} {first s : Stack} {steps : ℕ} {w : Window} {b : Stack} where
  module _ {m : Result (Option code.Window) Fault} (t : Turning whole g budget first s steps w b m) where
    low : s.height - 1 ≤ s.slots
    low = let i = t.at.in_slots in omega arith

    here : whole ≡ search (suc (budget - suc steps)) g s.slots
        (state_of (sizes_of g) t.state ∷ states_of (sizes_of g) (stack_of (s.height - 1) s.work.now)) w steps
    here =
        let more = t.more in
        let d : budget - steps ≡ suc (budget - suc steps) = omega arith in
        t.at.goes
        ∙ ap (λ (k : ℕ). search k g s.slots (states_of (sizes_of g) (stack_of s.height s.work.now)) w steps) d
        ∙ ap (λ (xs : List S.State). search (suc (budget - suc steps)) g s.slots xs w steps)
        (top-states (sizes_of g) s.work.now s.height t.state t.some t.top)

    pub same-stack : SameStack first b
    same-stack = (t.same.0 ∙ t.at.same.0, t.same.1 ∙ t.at.same.1)

    pub same-size : length b.work.now ≡ length first.work.now
    same-size = turned-size (sizes_of g) s.slots s.work.now b.work.now (s.height - 1) b.height m (turn g (state_of (sizes_of g) t.state)) t.made ∙ t.at.sized

  pub goes-refused : {f : Fault} → Turning whole g budget first s steps w b (Err f) → whole ≡ fails (rule_of f.refusal) f.place (steps + 1)
  goes-refused {f} t =
      rw add-one (here t ∙ turned-refused (budget - suc steps) g (sizes_of g) s.slots (state_of (sizes_of g) t.state) s.work.now b.work.now
      (s.height - 1) b.height (low t) w steps (turn g (state_of (sizes_of g) t.state)) refl f t.made)

  pub goes-full : Turning whole g budget first s steps w b (Ok None) → b.slots < b.height → whole ≡ fails R.out_of_room 0 (steps + 1)
  goes-full t l =
      rw add-one (here t ∙ turned-full (budget - suc steps) g (sizes_of g) s.slots (state_of (sizes_of g) t.state) s.work.now b.work.now
      (s.height - 1) b.height (low t) w steps (turn g (state_of (sizes_of g) t.state)) refl (rw t.same.1 at l) t.made)

  pub goes-ended : {v : code.Window} {x : Window} → Turning whole g budget first s steps w b (Ok (Some v)) → x ≡ widen w v.low.0 v.high.0
      → Goes whole g budget first b (steps + 1) x
  goes-ended {v} {x} t e =
      let more = t.more in
      let found = turned-ended (budget - suc steps) g (sizes_of g) s.slots (state_of (sizes_of g) t.state) s.work.now b.work.now
      (s.height - 1) b.height (low t) w steps (turn g (state_of (sizes_of g) t.state)) refl v t.made in
      record {
        same = same-stack t;
        in_budget = omega arith;
        in_slots = rw t.same.1 found.1.1;
        sized = same-size t;
        goes = rw (e, add-one, t.same.1) (here t ∙ found.0);
      }

  pub goes_on : Turning whole g budget first s steps w b (Ok None) → b.height ≤ b.slots → Goes whole g budget first b (steps + 1) w
  goes_on t l =
      let more = t.more in
      let found = turned-on (budget - suc steps) g (sizes_of g) s.slots (state_of (sizes_of g) t.state) s.work.now b.work.now
      (s.height - 1) b.height (low t) w steps (turn g (state_of (sizes_of g) t.state)) refl (rw t.same.1 at l) t.made in
      record {
        same = same-stack t;
        in_budget = omega arith;
        in_slots = l;
        sized = same-size t;
        goes = rw (add-one, t.same.1) (here t ∙ found.0);
      }

-- the loop begins, with the first state in the slot at the bottom
pub goes-start : (g : Program) (budget : ℕ) (first s : Stack) (x : State) → Sound x → SameStack first s → s.work.now ≡ stored first.work.now 0 x
    → s.height ≡ 1
    → Goes (search budget g first.slots (state_of (sizes_of g) x ∷ []) unseen 0) g budget first s 0 unseen
unfolding stack_of
goes-start g budget first s x sound same e h =
    let d : budget - 0 ≡ budget = omega arith in
    let z = sizes_of g in
    let b = first.work.now in
    let bottom : states_of z (stack_of 1 s.work.now) ≡ state_of z x ∷ [] =
    ap (λ (l : List ℤ). states_of z (stack_of 1 l)) e ∙ push-states z b 0 x (omega (arith, first.room.0, first.room.1)) sound ∙ ap
    (λ (xs : List S.State). state_of z x ∷ xs) (states-nil z) in
    record {
      same = same;
      in_budget = omega arith;
      in_slots = omega (arith, h, same.1, first.room.1);
      sized = ap length e ∙ with-slot-length b 0 (encode x) (encode-length x) (omega (arith, first.room.0, first.room.1));
      goes = rw (h, same.1, bottom, d);
    }
