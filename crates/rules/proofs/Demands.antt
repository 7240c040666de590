-- An accepted window lies inside the label and holds every finish. Demand 3, proved: an accepted label holds for every run. The start of an accepted sheet is good, and so is every state that
-- a run from it leaves; each event takes a clock up, and no clock passes the limit.
use mathlib.Core.Path.{◌≡◌, refl, sym, ap, subst, ◌∙◌}
use mathlib.Core.Logic.{◌⊎◌, inl, inr}
use mathlib.Core.Bool.{not, ◌&&◌}
use mathlib.Core.List.{List, [], ◌∷◌}
use Prim.Native.Nat.{ℕ, suc, ◌+◌, ◌*◌, ◌/◌, ◌≤◌}
use native.Mathlib.Omega.{arith}
use lib.Dec.{T, leb, eqb, leb→le}
use lib.ListN.{length}
use Rattle.rules.specs.Base.{◌&◌}
use Rattle.rules.specs.Refusal.{number, out_of_room, label_broken}
use Rattle.rules.specs.Constants.{numbers_per_state}
use Rattle.rules.specs.Program.{Header, Program}
use Rattle.rules.specs.Format.{Bytes, Got, bad, got, read_sheet}
use Rattle.rules.specs.Run.{RunState, Event, Outcome, not_event, no_result, next, step, continue, play, Happens, IsRun, no_run_thread, thread_of, CanGoOn, finished, greatest_clock, Starts}
use Rattle.rules.specs.Search.{Window, unseen, seen, End, fails, finds, search_from, Answer, five, judge, answer_with, answer}
use Rattle.rules.specs.Demands.{HoldsOfRun, AcceptedInside, AcceptedHolds}
use Rattle.rules.proofs.Base.{if-ind, and_left, and_right, not-both, not-intro}
use Rattle.rules.proofs.Refusal.{positive}
use Rattle.rules.proofs.Total.{total, total-bound}
use Rattle.rules.proofs.Format.{ProgramSays, program-says}
use Rattle.rules.proofs.Event.{event-ends, StepSays, step-says}
use Rattle.rules.proofs.Progress.{clock_of, Ready, finished-or-goes-on, finished_stops, event-advances, start-ready}
use Rattle.rules.proofs.SearchGood.{Inside, Good, good, start-good, low-start, low-start-starts}

-- ---- the list of events

-- what a run from s leaves, where `o` is what its list of events comes to
record Leaves (g : Program) (w : Window) (s : RunState) (n : ℕ) (o : Outcome) : Type 0 where
  pub state : RunState
  pub has_result : o ≡ next state
  pub is_good : Good g w state
  pub is_ready : Ready g state
  pub clocks_up : n + total clock_of s.threads ≤ total clock_of state.threads

module _ (g : Program) (says : ProgramSays g) (w : Window) where
  run-leaves : (es : List Event) (s : RunState) → Good g w s → Ready g s → IsRun g s es → Leaves g w s (length es) (play g s es)
  unfolding play
  run-leaves [] s h r i = record { state = s; has_result = refl; is_good = h; is_ready = r; clocks_up = omega arith }
  run-leaves (v ∷ es) x (good s f l z n) r i =
      by (step g s v.thread v.tick) (step-says g s v.thread v.tick) i (λ s' h r' i'. run-leaves es s' h r' i')
    where
      by : (o : Outcome) → StepSays g s v.thread v.tick o → Happens (continue o es (λ s'. play g s' es))
          → ((s' : RunState) → Good g w s' → Ready g s' → IsRun g s' es → Leaves g w s' (length es) (play g s' es))
          → Leaves g w s (suc (length es)) (continue o es (λ s'. play g s' es))
      by not_event k i ih = absurd (unfold continue in i)
      by (no_result q) k i ih = absurd (z v.thread v.tick q (event-ends g s v.thread v.tick k.0) k.1)
      by (next s') k i ih =
          let h = event-ends g s v.thread v.tick k.0 in
          let a = event-advances g says.threads_say s s' v.thread v.tick r h (l v.thread v.tick h) k.1 in
          let rest = ih s' (n v.thread v.tick s' h k.1) a.ready (unfold continue in i) in
          record {
            state = rest.state;
            has_result = unfold continue in rest.has_result;
            is_good = rest.is_good;
            is_ready = rest.is_ready;
            clocks_up = omega (arith, rest.clocks_up, a.clock_up);
          }

-- a state at which a run may be finished inside the window
ends-in-window : {g : Program} {w : Window} {x : RunState} → Good g w x → T (finished g x) → Inside w (greatest_clock x.threads)
ends-in-window (good x f l z n) h = f h

-- a run that finishes does so inside the window
finishes-inside : (g : Program) (says : ProgramSays g) (w : Window) (s : RunState) → Starts g s → Good g w s → (es : List Event) (x : RunState)
    → play g s es ≡ next x → T (finished g x) → Inside w (greatest_clock x.threads)
finishes-inside g says w s starts is_good es x q f =
    let k = run-leaves g says w es s is_good (start-ready g s starts) (subst Happens (sym q) tt) in
    let e : x ≡ k.state = cc (sym q ∙ k.has_result) in
    subst (λ (y : RunState). Inside w (greatest_clock y.threads)) (sym e) (ends-in-window k.is_good (subst (λ (y : RunState). T (finished g y)) e f))

-- ---- the label

-- the window lies inside the label
pub record InLabel (h : Header) (w : Window) : Type 0 where
  pub from_label_lem : (e : ℕ) → Inside w e → h.label_low ≤ e
  pub to_label : (e : ℕ) → Inside w e → e ≤ h.label_high

module _ (g : Program) (says : ProgramSays g) (w : Window) (inside : InLabel g.header w) (s : RunState) (starts : Starts g s) (is_good : Good g w s) where
  run_holds : (es : List Event) → IsRun g s es → HoldsOfRun g s es
  run_holds es i =
      let k = run-leaves g says w es s is_good (start-ready g s starts) i in
      let x = k.state in
      record {
        state = x;
        has_result = k.has_result;
        unfinished_goes_on = λ n. goes_on x (finished-or-goes-on g says.threads_say x k.is_ready) n;
        finished_stops = λ v. not-intro (finished g x) (λ f. finished_stops g x f v);
        above_label_low = λ f. inside.from_label_lem (greatest_clock x.threads) (ends-in-window k.is_good f);
        below_label_high = λ f. inside.to_label (greatest_clock x.threads) (ends-in-window k.is_good f);
        few_events = few k.is_ready k.clocks_up;
      }
    where
      goes_on : (x : RunState) → T (finished g x) ⊎ CanGoOn g x → T (not (finished g x)) → CanGoOn g x
      goes_on x (inl f) n = absurd (not-both (finished g x) n f)
      goes_on x (inr v) n = v

      few : {x : RunState} → Ready g x → length es + total clock_of s.threads ≤ total clock_of x.threads → length es ≤ length g.threads * g.header.limit
      few {x} r h =
          let b : total clock_of x.threads ≤ length x.threads * g.header.limit = total-bound clock_of no_run_thread g.header.limit x.threads (unfold thread_of in r.in_limit) in
          let c : length x.threads * g.header.limit ≡ length g.threads * g.header.limit = ap (λ (n : ℕ). n * g.header.limit) r.size in
          omega arith

-- ---- the answer

-- an accepted sheet: how its search ended, and its window inside the label
pub record Accepted (g : Program) (slots : ℕ) (a : Answer) : Type 0 where
  pub found : search_from g slots ≡ finds a.steps (seen a.low a.high)
  pub above_label_low : g.header.label_low ≤ a.low
  pub below_label_high : a.high ≤ g.header.label_high

judged : (g : Program) (slots : ℕ) (r : End) → search_from g slots ≡ r → (judge g.header.label_low g.header.label_high r).refusal ≡ 0 → Accepted g slots (judge g.header.label_low g.header.label_high r)
unfolding judge
judged g slots (fails r p n) q = λ e. absurd (positive r e)
judged g slots (finds n unseen) q = λ e. absurd (positive label_broken e)
judged g slots (finds n (seen a b)) q =
    let l = leb g.header.label_low a in
    let h = leb b g.header.label_high in
    if-ind (l && h) (five 0 0 n a b) (five (number label_broken) 0 n a b) (λ x. x.refusal ≡ 0 → Accepted g slots x)
    (λ t _. record { found = q; above_label_low = leb→le g.header.label_low a (and_left l h t); below_label_high = leb→le b g.header.label_high (and_right l h t) })
    (λ _ e. absurd (positive label_broken e))

pub accepted : (sheet : Bytes) (n : ℕ) → (answer sheet n).refusal ≡ 0
    → (g : Program) × (end : ℕ) × (read_sheet sheet ≡ got g end) × Accepted g (n / numbers_per_state) (answer sheet n)
unfolding answer
accepted sheet n = by (read_sheet sheet) refl
  where
    by : (x : Got Program) → read_sheet sheet ≡ x → (answer_with (n / numbers_per_state) x).refusal ≡ 0
        → (g : Program) × (end : ℕ) × (x ≡ got g end) × Accepted g (n / numbers_per_state) (answer_with (n / numbers_per_state) x)
    by (bad r p) q = λ e. absurd (positive r (unfold answer_with in e))
    by (got g end) q =
        let slots = n / numbers_per_state in
        unfold answer_with in
        if-ind (eqb slots 0) (five (number out_of_room) 0 0 0 0) (judge g.header.label_low g.header.label_high (search_from g slots))
        (λ a. a.refusal ≡ 0 → (g' : Program) × (end' : ℕ) × (got g end ≡ got g' end') × Accepted g' slots a)
        (λ _ e. absurd (positive out_of_room e))
        (λ _ e. (g, end, refl, judged g slots (search_from g slots) refl e))

-- ---- demand 2: the window of an accepted sheet

pub accepted-inside : AcceptedInside
accepted-inside sheet n e =
    let (g, end, q, a) = accepted sheet n e in
    let says = program-says sheet g end q in
    let x = answer sheet n in
    let w = seen x.low x.high in
    record {
      program = g;
      end = end;
      reads = q;
      from_label_lem = a.above_label_low;
      to_label = a.below_label_high;
      holds_finishes = λ s h es y p f. finishes-inside g says w s h (start-good g (n / numbers_per_state) x.steps w a.found s h) es y p f;
    }

-- ---- demand 3

seen-in-label : (h : Header) (a b : ℕ) → h.label_low ≤ a → b ≤ h.label_high → InLabel h (seen a b)
seen-in-label h a b l u = record { from_label_lem = λ e k. omega arith; to_label = λ e k. omega arith }

pub accepted_holds : AcceptedHolds
accepted_holds sheet n e =
    let (g, end, q, a) = accepted sheet n e in
    let says = program-says sheet g end q in
    let x = answer sheet n in
    let w = seen x.low x.high in
    let inside = seen-in-label g.header x.low x.high a.above_label_low a.below_label_high in
    record {
      program = g;
      end = end;
      reads = q;
      some_start = low-start g;
      starts = low-start-starts g says;
      every_run = λ s h es i. run_holds g says w inside s h (start-good g (n / numbers_per_state) x.steps w a.found s h) es i;
    }
