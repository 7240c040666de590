-- The greatest clock of a run's state is the tick of its last event. The next event is not before it, and at most 65,535 ticks later:
-- the mover's clock is at most that tick, and its greatest time stands in two bytes.
use mathlib.Core.Path.{◌≡◌, refl, ap, ◌∙◌, subst}
use mathlib.Core.List.{List, [], ◌∷◌}
use Prim.Native.Nat.{ℕ, zero, suc, ◌+◌, ◌≤◌, ◌<◌, zero-le}
use native.Mathlib.Nat.{not-suc-le-zero, le_of_suc-le-suc}
use native.Mathlib.Omega.{arith}
use lib.ListN.{length, get_or, set, length-set}
use Rattle.rules.specs.Base.{Each, nil}
use Rattle.rules.specs.Refusal.{value}
use Rattle.rules.specs.Program.{Statement, Thread, Program, no_statement, no_thread}
use Rattle.rules.specs.Run.{RunThread, RunState, no_run_thread, thread_of, statement_of, live, greatest_clock, ThreadsStart, no_more, one_more, Starts}
use Rattle.rules.specs.Fits.{ThreadFits}
use Rattle.rules.proofs.Base.{each_at, each_map}
use Rattle.rules.proofs.Event.{Ends, live-there, acted, Stands, act-stands}
use Rattle.rules.proofs.Progress.{start-ready}

-- the greatest time of the statement that a thread and a number name
statement-brief : {vars locks : ℕ} (ts : List Thread) → Each (ThreadFits vars locks) ts → (t k : ℕ) → (get_or (get_or ts t no_thread).statements k no_statement).greatest ≤ 65535
statement-brief ts h t k =
    each_at (get_or ts t no_thread).statements no_statement zero-le
    (each_at {P = λ x. Each (λ (y : Statement). y.greatest ≤ 65535) x.statements} ts no_thread nil (each_map (λ x f. each_map (λ y w. w.two_bytes) f.statements) h) t) k

-- ---- the greatest clock

clock-at-most : (xs : List RunThread) (u : ℕ) → (get_or xs u no_run_thread).clock ≤ greatest_clock xs
unfolding greatest_clock
clock-at-most [] u = zero-le
clock-at-most (x ∷ xs) zero = omega arith
clock-at-most (x ∷ xs) (suc u) = omega (arith, clock-at-most xs u)

greatest-at-most : (xs : List RunThread) (e : ℕ) → ((u : ℕ) → u < length xs → (get_or xs u no_run_thread).clock ≤ e) → greatest_clock xs ≤ e
unfolding greatest_clock
greatest-at-most [] e h = zero-le
greatest-at-most (x ∷ xs) e h = omega (arith, h 0 (omega arith), greatest-at-most xs e (λ u k. h (suc u) (omega arith)))

greatest-set : (xs : List RunThread) (t : ℕ) (y : RunThread) → t < length xs → greatest_clock xs ≤ y.clock → greatest_clock (set xs t y) ≡ y.clock
unfolding greatest_clock
greatest-set [] t y k h = absurd (not-suc-le-zero k)
greatest-set (x ∷ xs) zero y k h = omega arith
greatest-set (x ∷ xs) (suc t) y k h = omega (arith, greatest-set xs t y (le_of_suc-le-suc k) (omega arith))

-- ---- a state of a run whose last event was at tick c, or which has had none where c is 0

pub record Latest (g : Program) (s : RunState) (c : ℕ) : Type 0 where
  pub size : length s.threads ≡ length g.threads
  pub latest : greatest_clock s.threads ≡ c

start-clocks : {ts : List Thread} {xs : List RunThread} → ThreadsStart ts xs → greatest_clock xs ≡ 0
unfolding greatest_clock
start-clocks no_more = refl
start-clocks (one_more h r) = omega (arith, start-clocks r)

pub start-latest : (g : Program) (s : RunState) → Starts g s → Latest g s 0
start-latest g s h = record { size = (start-ready g s h).size; latest = start-clocks h.threads_start }

module _ (g : Program) (s : RunState) (t e c : ℕ) (before : Latest g s c) (h : Ends g s t e) where
  -- the tick of an event is at least that of the event before it
  pub event-after : c ≤ e
  unfolding thread_of
  event-after =
      let n : length s.threads ≡ length g.threads = before.size in
      let m : greatest_clock s.threads ≤ e = greatest-at-most s.threads e (λ u k. h.behind u (omega arith)) in
      omega (arith, before.latest)

  -- and at most 65,535 more
  pub event-soon : {vars locks : ℕ} → Each (ThreadFits vars locks) g.threads → e ≤ c + 65535
  unfolding thread_of statement_of
  event-soon brief =
      omega (arith, h.soon, before.latest, clock-at-most s.threads t, statement-brief g.threads brief t (get_or s.threads t no_run_thread).at)

  -- and the greatest clock of the state that it leaves
  pub event-latest : (s' : RunState) → acted g s t e ≡ value s' → Latest g s' e
  unfolding live
  event-latest s' q =
      let p = subst (Stands s t e) q (act-stands s t (thread_of s t) e (statement_of g s t).action h.lives) in
      let y : RunThread = record { at = p.0; clock = e; regs = p.1 } in
      let n : length s.threads ≡ length g.threads = before.size in
      let a = live-there g s t h.lives in
      record {
        size = ap length p.2 ∙ length-set s.threads t y ∙ n;
        latest = ap greatest_clock p.2 ∙ greatest-set s.threads t y (omega arith) (omega (arith, before.latest, event-after));
      }
