-- Laws of whole runs: an unfinished run can go on, a finished one cannot, and every event takes a clock up.
use mathlib.Core.Path.{◌≡◌, refl, sym, ap, ◌∙◌, subst}
use mathlib.Core.Logic.{◌≢◌, ◌⊎◌, inl, inr}
use mathlib.Core.Bool.{Bool, true, false, not}
use mathlib.Core.List.{List}
use Prim.Native.Nat.{ℕ, zero, suc, ◌+◌, ◌≤◌, ◌<◌, zero-le}
use native.Mathlib.Nat.{le_trans, le_refl, le_of_eq, le_of_lt, lt_of_not-le, not-suc-le-zero}
use native.Mathlib.Decide.{dec_le, dec_lt, ℕ_discrete}
use native.Mathlib.Omega.{arith}
use lib.Dec.{T}
use lib.ListN.{length, get_or, set, length-set, get_or-eq_default}
use lib.Seq.{get_or-set_same, get_or-set_other}
use Rattle.rules.specs.Base.{all_below, Each}
use Rattle.rules.specs.Refusal.{value}
use Rattle.rules.specs.Program.{is_halt, Statement, Thread, Program, no_statement, no_thread}
use Rattle.rules.specs.Run.{RunThread, RunState, no_run_thread, thread_of, statement_of, live, finished, CanGoOn, ThreadsStart, no_more, one_more, Starts}
use Rattle.rules.proofs.Base.{not-both, below_suc, all-below-elim, all-below-intro}
use Rattle.rules.proofs.Total.{total, total-set}
use Rattle.rules.proofs.Format.{ThreadSays, statement-timed}
use Rattle.rules.proofs.Event.{Ends, event-ends, ends-event, live-there, acted, Stands, act-stands}

-- ---- the sum of the clocks

abbrev pub clock_of : RunThread → ℕ
clock_of x = x.clock

-- ---- what holds of every state that a run leaves

pub record Ready (g : Program) (s : RunState) : Type 0 where
  pub size : length s.threads ≡ length g.threads
  -- no clock has passed what a live thread may still take
  pub ahead : (u v : ℕ) → T (live g s v) → (thread_of s u).clock ≤ (thread_of s v).clock + (statement_of g s v).greatest
  pub in_limit : (u : ℕ) → (thread_of s u).clock ≤ g.header.limit

-- a thread that is not there has clock 0
no-clock : (g : Program) (s : RunState) → Ready g s → (u e : ℕ) → (u < length g.threads → (thread_of s u).clock ≤ e) → (thread_of s u).clock ≤ e
unfolding thread_of
no-clock g s r u e h = elim (dec_lt u (length g.threads)) [
  | yes k ↦ h k
  | no k ↦
      let z : length s.threads ≡ length g.threads = r.size in
      let q : get_or s.threads u no_run_thread ≡ no_run_thread = get_or-eq_default s.threads no_run_thread (omega arith) in
      le_trans (le_of_eq (ap (λ (x : RunThread). x.clock) q)) zero-le
]

-- ---- an unfinished run can go on: the live thread that must end first may end at its last tick

abbrev due : Program → RunState → ℕ → ℕ
due g s t = (thread_of s t).clock + (statement_of g s t).greatest

data First (g : Program) (s : RunState) (n : ℕ) : Type 0 where
  nobody : ((u : ℕ) → u < n → T (not (live g s u))) → First g s n
  thread : (t : ℕ) → T (live g s t) → ((u : ℕ) → u < n → T (live g s u) → due g s t ≤ due g s u) → First g s n

first : (g : Program) (s : RunState) (n : ℕ) → First g s n
first g s zero = nobody (λ u h. absurd (not-suc-le-zero h))
first g s (suc n) = by (live g s n) (λ t. t) (λ t. t) (first g s n)
  where
    sooner : (t : ℕ) → T (live g s t) → ((u : ℕ) → u < n → T (live g s u) → due g s t ≤ due g s u) → T (live g s n) → Dec (due g s t ≤ due g s n) → First g s (suc n)
    sooner t l h k (yes d) = thread t l (below_suc {P = λ u. T (live g s u) → due g s t ≤ due g s u} n (λ _. d) h)
    sooner t l h k (no d) =
        thread n k (below_suc {P = λ u. T (live g s u) → due g s n ≤ due g s u} n (λ _. le_refl (due g s n))
        (λ u a b. le_trans (le_of_lt (lt_of_not-le d)) (h u a b)))

    by : (b : Bool) → (T b → T (live g s n)) → (T (not b) → T (not (live g s n))) → First g s n → First g s (suc n)
    by true f k (nobody h) =
        thread n (f tt) (below_suc {P = λ u. T (live g s u) → due g s n ≤ due g s u} n (λ _. le_refl (due g s n)) (λ u a b. absurd (not-both (live g s u) (h u a) b)))
    by true f k (thread t l h) = sooner t l h (f tt) (dec_le (due g s t) (due g s n))
    by false f k (nobody h) = nobody (below_suc {P = λ u. T (not (live g s u))} n (k tt) h)
    by false f k (thread t l h) = thread t l (below_suc {P = λ u. T (live g s u) → due g s t ≤ due g s u} n (λ b. absurd (not-both (live g s n) (k tt) b)) h)

module _ (g : Program) (timed : Each ThreadSays g.threads) (s : RunState) (ready : Ready g s) where
  in_order : (t : ℕ) → (statement_of g s t).least ≤ (statement_of g s t).greatest
  unfolding statement_of
  in_order t = (statement-timed g.threads timed t (thread_of s t).at).in_order

  pub finished-or-goes-on : T (finished g s) ⊎ CanGoOn g s
  unfolding finished
  finished-or-goes-on = by (first g s (length g.threads))
    where
      by : First g s (length g.threads) → T (all_below (length g.threads) (λ t. not (live g s t))) ⊎ CanGoOn g s
      by (nobody h) = inl (all-below-intro (length g.threads) (λ t. not (live g s t)) h)
      by (thread t l h) = inr (
        t,
        due g s t,
        ends-event g s t (due g s t) (record {
          lives = l;
          late = omega (arith, in_order t);
          soon = le_refl (due g s t);
          behind = λ u _. ready.ahead u t l;
          waited = λ u k l'. h u k l';
        }),
      )

-- a finished run cannot go on
pub finished_stops : (g : Program) (s : RunState) → T (finished g s) → CanGoOn g s → ⊥
unfolding finished
finished_stops g s f v =
    let h = event-ends g s v.0 v.1 v.2 in
    not-both (live g s v.0) (all-below-elim (length g.threads) (λ t. not (live g s t)) f v.0 (live-there g s v.0 h.lives)) h.lives

-- ---- an event keeps it so, and takes a clock up

module _ (g : Program) (timed : Each ThreadSays g.threads) (s s' : RunState) (t e : ℕ) (ready : Ready g s) (h : Ends g s t e) (limited : e ≤ g.header.limit)
    (y : RunThread) (at_tick : y.clock ≡ e) (q : s'.threads ≡ set s.threads t y) where
  there : t < length s.threads
  there = let a = live-there g s t h.lives in let b = ready.size in omega arith

  mover : thread_of s' t ≡ y
  unfolding thread_of
  mover = rw q (get_or-set_same s.threads t y no_run_thread there)

  other : (u : ℕ) → u ≢ t → thread_of s' u ≡ thread_of s u
  unfolding thread_of
  other u n = rw q (get_or-set_other s.threads t u y no_run_thread n)

  clock-of-mover : (u : ℕ) → u ≡ t → (thread_of s' u).clock ≡ e
  clock-of-mover u p = ap (λ (k : ℕ). (thread_of s' k).clock) p ∙ ap (λ (z : RunThread). z.clock) mover ∙ at_tick

  clocks : (u : ℕ) → (thread_of s' u).clock ≤ e
  clocks u = elim (ℕ_discrete u t) [
    | yes p ↦ le_of_eq (clock-of-mover u p)
    | no p ↦ le_trans (le_of_eq (ap (λ (z : RunThread). z.clock) (other u p))) (no-clock g s ready u e (h.behind u))
  ]

  abbrev stands : ℕ → RunThread → Statement
  stands u z = get_or (get_or g.threads u no_thread).statements z.at no_statement

  still : (u : ℕ) → T (live g s' u) → e ≤ (thread_of s' u).clock + (statement_of g s' u).greatest
  unfolding live statement_of
  still u l = elim (ℕ_discrete u t) [
    | yes p ↦ let z : (thread_of s' u).clock ≡ e = clock-of-mover u p in omega arith
    | no p ↦
        let l' : T (live g s u) = subst (λ (z : RunThread). T (not (is_halt (stands u z).action))) (other u p) l in
        subst (λ (z : RunThread). e ≤ z.clock + (stands u z).greatest) (sym (other u p)) (h.waited u (live-there g s u l') l')
  ]

  stays-ready : Ready g s'
  stays-ready = record {
    size = ap length q ∙ length-set s.threads t y ∙ ready.size;
    ahead = λ u w l. le_trans (clocks u) (still w l);
    in_limit = λ u. le_trans (clocks u) limited;
  }

  takes_time : 1 ≤ (statement_of g s t).least
  unfolding statement_of live
  takes_time = (statement-timed g.threads timed t (thread_of s t).at).takes_time h.lives

  clock_up : suc (total clock_of s.threads) ≤ total clock_of s'.threads
  unfolding thread_of
  clock_up =
      let a = total-set clock_of no_run_thread s.threads t y there in
      let b : total clock_of s'.threads ≡ total clock_of (set s.threads t y) = ap (total clock_of) q in
      omega (arith, takes_time, h.late)

-- what an event whose statement has a result leaves
pub record Advances (g : Program) (s s' : RunState) : Type 0 where
  pub ready : Ready g s'
  pub clock_up : suc (total clock_of s.threads) ≤ total clock_of s'.threads

pub event-advances : (g : Program) → Each ThreadSays g.threads → (s s' : RunState) (t e : ℕ) → Ready g s → Ends g s t e → e ≤ g.header.limit
    → acted g s t e ≡ value s' → Advances g s s'
unfolding live
event-advances g timed s s' t e r h l q =
    let p = subst (Stands s t e) q (act-stands s t (thread_of s t) e (statement_of g s t).action h.lives) in
    let y : RunThread = record { at = p.0; clock = e; regs = p.1 } in
    record { ready = stays-ready g timed s s' t e r h l y refl p.2; clock_up = clock_up g timed s s' t e r h l y refl p.2 }

-- ---- a start

start-size : {ts : List Thread} {xs : List RunThread} → ThreadsStart ts xs → length xs ≡ length ts
start-size no_more = refl
start-size (one_more h r) = ap suc (start-size r)

start-clock : {ts : List Thread} {xs : List RunThread} → ThreadsStart ts xs → (u : ℕ) → (get_or xs u no_run_thread).clock ≡ 0
start-clock no_more u = refl
start-clock (one_more h r) zero = refl
start-clock (one_more h r) (suc u) = start-clock r u

pub start-ready : (g : Program) (s : RunState) → Starts g s → Ready g s
unfolding thread_of
start-ready g s h = record {
  size = start-size h.threads_start;
  ahead = λ u v l. let z = start-clock h.threads_start u in omega arith;
  in_limit = λ u. let z = start-clock h.threads_start u in omega arith;
}
