-- An event of a record is one of the rule for runs, and its effect is the rule's. Assumes nothing.
use Rattle.std.specs.Prelude.{Result}
use Rattle.std.proofs.Common.{◌≡◌, ℕ, ◌+◌, ◌<◌, ◌≤◌, Bool, true, false, not, ◌&&◌, ◌||◌, T, leb, length, get_or, sym, refl, ap, ◌∙◌, arith, le→leb, leb→le, le-ltb, lt-ltb}
use Rattle.rules.specs.Base.{all_below}
use Rattle.rules.specs.Constants.{most_threads}
use Rattle.rules.specs.Refusal as Ref
use Rattle.rules.specs.Refusal.{value, fault, on_value, not_run, no_such_name}
use Rattle.refusal.specs.declared.Refusal.{Refusal}
use Rattle.rules.specs.Program.{Statement, Program, is_halt}
use Rattle.rules.specs.Run as R
use Rattle.rules.specs.Run.{RunThread, RunState, no_run_thread, statement_of, live, is_event, outcome, step}
use Rattle.rules.specs.Format.{Bytes}
use Rattle.event.specs.Fetch.{names_of, Fetches}
use Rattle.event.specs.declared.fetch.Fetched.{Fetched}
use Rattle.recorded.specs.Follow as F
use Rattle.recorded.specs.Follow.{gap, tick_after, replayed}
use Rattle.rules.proofs.Base.{and_left, and_right, and_both, or_elim, or-intro, all-below-elim, all-below-intro, same_test}
use Rattle.rules.proofs.IfAt.{is_true}
use Rattle.rules.proofs.Event.{event-ends, ends-event}
use Rattle.field.specs.Decoded.{halts}
use Rattle.field.proofs.Halts.{halts-same}
use Rattle.reader.specs.Facts.{program_in, statement_in}
use Rattle.state.specs.Shape.{sizes_of}
use Rattle.state.proofs.Shape.{sizes-threads}
use Rattle.record.specs.Replay.{thread_at, thread_of, state_of, replayed_of}
use Rattle.record.specs.Act.{at_tick, Acts}
use Rattle.record.specs.Step.{allows, is_due, allows_at, due_at}
use Rattle.record.specs.declared.replay.Replay.{Replay}
use Rattle.record.specs.declared.act.Event.{Event}
use Rattle.record.proofs.replay.Laws.{threads-get}

-- ---- when an event may end

module _ (g : Program) (s : RunState) (t e : ℕ) where
  abbrev n : ℕ
  n = length g.threads

  pub event-is : t < n → is_event g s t e ≡ (due_at g s e t && all_below n (allows_at g s e))
  unfolding allows_at
  event-is there = same_test (is_event g s t e) (due_at g s e t && all_below n (allows_at g s e)) forth back
    where
      forth : T (is_event g s t e) → T (due_at g s e t && all_below n (allows_at g s e))
      forth h =
          let k = event-ends g s t e h in
          and_both (due_at g s e t) (all_below n (allows_at g s e))
          (and_both (live g s t) (leb ((R.thread_of s t).clock + (statement_of g s t).least) e) k.lives (le→leb _ e k.late))
          (all-below-intro n (allows_at g s e) (λ u b.
          and_both (leb (R.thread_of s u).clock e) (not (live g s u) || leb e ((R.thread_of s u).clock + (statement_of g s u).greatest)) (le→leb _ e (k.behind u b))
          (or-intro (live g s u) (leb e ((R.thread_of s u).clock + (statement_of g s u).greatest)) (λ l. le→leb e _ (k.waited u b l)))))

      back : T (due_at g s e t && all_below n (allows_at g s e)) → T (is_event g s t e)
      back h =
          let d = and_left (due_at g s e t) (all_below n (allows_at g s e)) h in
          let a = all-below-elim n (allows_at g s e) (and_right (due_at g s e t) (all_below n (allows_at g s e)) h) in
          let lives = and_left (live g s t) (leb ((R.thread_of s t).clock + (statement_of g s t).least) e) d in
          let waited : (u : ℕ) → u < n → T (live g s u) → e ≤ (R.thread_of s u).clock + (statement_of g s u).greatest =
          λ u b l. leb→le e _ (or_elim (live g s u) (leb e ((R.thread_of s u).clock + (statement_of g s u).greatest))
          (and_right (leb (R.thread_of s u).clock e) (not (live g s u) || leb e ((R.thread_of s u).clock + (statement_of g s u).greatest)) (a u b)) l) in
          ends-event g s t e (record {
            lives = lives;
            late = leb→le _ e (and_right (live g s t) (leb ((R.thread_of s t).clock + (statement_of g s t).least) e) d);
            soon = waited t there lives;
            behind = λ u b. leb→le _ e (and_left (leb (R.thread_of s u).clock e) (not (live g s u) || leb e ((R.thread_of s u).clock + (statement_of g s u).greatest)) (a u b));
            waited = waited;
          })

  pub not-event : is_event g s t e ≡ false → fault not_run ≡ replayed e (step g s t e)
  unfolding step replayed
  not-event q = rw q

module _ (g : Program) (s : RunState) (t e : ℕ) (there : t < length g.threads) where
  pub not-due : due_at g s e t ≡ false → fault not_run ≡ replayed e (step g s t e)
  not-due d = not-event g s t e (event-is g s t e there ∙ rw d)

  pub not-allowed : due_at g s e t ≡ true → all_below (length g.threads) (allows_at g s e) ≡ false → fault not_run ≡ replayed e (step g s t e)
  not-allowed d a = not-event g s t e (event-is g s t e there ∙ rw (d, a))

tick-outcome : (e : ℕ) (y : Ref.Result RunState) → at_tick e y ≡ replayed e (outcome y)
unfolding on_value outcome replayed
tick-outcome e (value s) = refl
tick-outcome e (fault r) = refl

-- ---- the threads of a replay state

not_not : (b : Bool) → b ≡ not (not b)
not_not true = refl
not_not false = refl

by-due : (h l : Bool) → (not h && l) ≡ true → h ≡ false
by-due true l d = sym d
by-due false l d = refl

module _ (s : Bytes) (x : Replay) (four : length x.threads ≡ most_threads) (few : length (program_in s).threads ≤ most_threads) where
  abbrev g : Program
  g = program_in s

  abbrev st : RunState
  st = state_of (sizes_of g) x

  module _ (u : ℕ) (b : u < length g.threads) where
    pub thread_is : R.thread_of st u ≡ thread_of (get_or (sizes_of g).regs u 0) (thread_at x u)
    unfolding R.thread_of state_of
    thread_is = threads-get (sizes_of g).regs x.threads u no_run_thread (omega (arith, sizes-threads g)) (omega (arith, sizes-threads g))

    module _ (f : Fetched) (w : Fetches s (names_of g u) (thread_at x u).at (statement_in g u (thread_at x u).at) f) where
      statement-is : statement_of g st u ≡ statement_in g u (thread_at x u).at
      unfolding statement_of
      statement-is = ap (λ (y : RunThread). statement_in g u y.at) thread_is

      halts-is : halts f.statement.action ≡ is_halt (statement_in g u (thread_at x u).at).action
      halts-is = ap halts w.action ∙ halts-same _ _ (statement_in g u (thread_at x u).at).action

      pub due_is : (e : ℕ) → is_due (thread_at x u).clock.0 (halts f.statement.action) f.statement.least.0 e ≡ due_at g st e u
      unfolding live
      due_is e = rw (thread_is, statement-is, halts-is, w.least)

      pub allows-is : (e : ℕ) → allows (thread_at x u).clock.0 (halts f.statement.action) f.statement.greatest.0 e ≡ allows_at g st e u
      unfolding live allows_at
      allows-is e = rw (thread_is, statement-is, halts-is, w.greatest, sym (not_not (is_halt (statement_in g u (thread_at x u).at).action)))

      pub halted-is : halts f.statement.action ≡ not (live g st u)
      unfolding live
      halted-is = rw (halts-is, statement-is, sym (not_not (is_halt (statement_in g u (thread_at x u).at).action)))

      live_is : (e : ℕ) → is_due (thread_at x u).clock.0 (halts f.statement.action) f.statement.least.0 e ≡ true → is_halt (statement_in g u (thread_at x u).at).action ≡ false
      live_is e d = sym halts-is ∙ by-due (halts f.statement.action) (leb ((thread_at x u).clock.0 + f.statement.least.0) e) d

      module _ (e : ℕ) where
        pub too_early : false ≡ is_due (thread_at x u).clock.0 (halts f.statement.action) f.statement.least.0 e → fault not_run ≡ replayed e (step g st u e)
        too_early d = not-due g st u e b (sym (d ∙ due_is e))

        pub held_back : true ≡ is_due (thread_at x u).clock.0 (halts f.statement.action) f.statement.least.0 e → false ≡ all_below (length g.threads) (allows_at g st e)
            → fault not_run ≡ replayed e (step g st u e)
        held_back d a = not-allowed g st u e b (sym (d ∙ due_is e)) (sym a)

      pub an-event : (v : Event) → v.thread ≡ u → v.registers ≡ get_or (sizes_of g).regs u 0
          → true ≡ is_due (thread_at x u).clock.0 (halts f.statement.action) f.statement.least.0 v.tick.0 → true ≡ all_below (length g.threads) (allows_at g st v.tick.0)
          → (r : Result Replay Refusal)
          → ((y : Statement) → Fetches s (names_of g u) (thread_at x u).at y f → is_halt y.action ≡ false → Acts (sizes_of g) x v y.action r)
          → replayed_of (sizes_of g) r ≡ replayed v.tick.0 (step g st u v.tick.0)
      unfolding step
      an-event v q k d a r acts =
          let e = v.tick.0 in
          let i : is_event g st u e ≡ true = event-is g st u e b ∙ rw (sym (d ∙ due_is e), sym a) in
          acts _ w (live_is e (sym d)) ∙ rw (i, q, k, statement-is, thread_is) (tick-outcome e _)

-- ---- all threads

told : (b : Bool) → T b → b ≡ true
told true t = refl
told false t = absurd t

-- a test that holds exactly where it holds of each of the m below n
pub all-is : (n m : ℕ) (f : ℕ → Bool) (b : Bool) → m ≡ n → (b ≡ true → (u : ℕ) → u < m → f u ≡ true) → (((u : ℕ) → u < m → f u ≡ true) → b ≡ true) → b ≡ all_below n f
all-is n m f b e h k =
    same_test b (all_below n f)
    (λ t. all-below-intro n f (λ u i. is_true (f u) (h (told b t) u (omega arith))))
    (λ t. is_true b (k (λ u i. told (f u) (all-below-elim n f t u (omega arith)))))

-- ---- an event of a record

module _ (g : Program) (x : F.Replay) (t clock : ℕ) where
  pub no_thread_lem : length g.threads ≤ t → fault no_such_name ≡ F.replay g x t clock
  unfolding F.replay
  no_thread_lem h = rw (le-ltb t (length g.threads) h)

  pub a-thread : t < length g.threads → (e : ℕ) → e ≡ tick_after x.tick clock → replayed e (step g x.state t e) ≡ F.replay g x t clock
  unfolding F.replay
  a-thread h e q = rw (lt-ltb t (length g.threads) h, q)
