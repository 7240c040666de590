-- One more thread in a survey: what the code adds for it is what the rules take of it.
use Rattle.std.specs.Prelude.{if◌then◌else◌, Option, Some, None}
use mathlib.Core.Path.{◌≡◌, refl, sym, ap, subst, ◌∙◌}
use mathlib.Core.Bool.{Bool, true, false, ◌&&◌, not}
use mathlib.Core.Option.{none}
use mathlib.Core.List.{List, [], ◌∷◌}
use Prim.Native.Nat.{ℕ, zero, suc, ◌+◌, ◌≤◌, ◌<◌, max}
use native.Mathlib.Omega.{arith}
use lib.ListN.{length, get_or, set, drop, drop_of_length-le}
use lib.Seq.{drop-cons, get_or-set_same, get_or-set_other}
use Rattle.rules.specs.Base.{all}
use Rattle.rules.specs.Constants.{most_threads, most_locks}
use Rattle.rules.specs.Lock.{Owner, may_take}
use Rattle.rules.specs.Program as R
use Rattle.rules.specs.Program.{is_halt, Program, no_thread}
use Rattle.rules.specs.Format.{Bytes, Names}
use Rattle.rules.specs.Search.{ThreadState, Live, statement_at, live_from, greatest_low, greatest_high, turn_bound, waits}
use Rattle.field.specs.Decoded.{halts, body_end, action_of}
use Rattle.field.specs.declared.decoding.Action.{Action}
use Rattle.field.specs.declared.ticks.Time.{Time}
use Rattle.field.specs.Ticks.{tick}
use Rattle.field.proofs.Halts.{halts-same}
use Rattle.reader.specs.Facts.{thread_in, statement_in, Named}
use Rattle.state.specs.declared.Clock.{Clock}
use Rattle.state.specs.Shape.{owner_of, thread_of, sizes_of, state_of}
use Rattle.state.specs.Access.{thread_at, owner_at}
use Rattle.state.specs.Cells.{Sound, decode}
use Rattle.state.proofs.Slot.{decode-sound}
use Rattle.state.proofs.Shape.{threads-length, sizes-threads, state-thread, state-owner}
use Rattle.event.specs.declared.fetch.Fetched.{Fetched}
use Rattle.event.specs.Fetch.{names_of, Fetches}
use Rattle.search.specs.declared.survey.Survey.{Survey}
use Rattle.search.specs.Survey.{bound_of, Surveys, SurveysFrom, LockThere, waits_at, sooner, add_live, add_clock, add_thread, earliest_of, earliest_at, EarliestFrom}
use Rattle.search.specs.Taken.{IsReady, program_of, sizes_in, rules_state, live_in}
use Rattle.search.specs.declared.taken.Taken.{Taken}

-- ---- a thread that waits for a lock

lock-there : (ns : Names) (at e : ℕ) (o : R.Action) → ns.locks ≤ most_locks → Named ns o → LockThere (action_of at e o)
unfolding action_of
lock-there ns at e R.halt h n = tt
lock-there ns at e R.skip h n = tt
lock-there ns at e (R.assign r a) h n = tt
lock-there ns at e (R.branch t c) h n = tt
lock-there ns at e (R.store r v) h n = tt
lock-there ns at e (R.load r v) h n = tt
lock-there ns at e (R.unlock l) h n = tt
lock-there ns at e (R.lock l) h n = omega arith

pub fetched-lock : {s : Bytes} {ns : Names} {at : ℕ} {x : R.Statement} {f : Fetched} → ns.locks ≤ most_locks → Fetches s ns at x f
    → LockThere f.statement.action
fetched-lock {s} {ns} {at} {x} {f} h w = subst LockThere (sym w.action)
    (lock-there ns (x.place + 9) (body_end s x.place) x.action h w.named)

waits-same : (os : List Owner) (cells : List ℕ) (ns : Names) → ((l : ℕ) → l < ns.locks → get_or os l none ≡ owner_of (get_or cells l 0))
    → (t at e : ℕ) (y : ThreadState) (place least greatest : ℕ) (o : R.Action) → Named ns o
    → waits_at t (action_of at e o) cells ≡ waits os (record {
      thread = t;
      here = y;
      statement = record { place = place; least = least; greatest = greatest; action = o };
    })
unfolding action_of waits
waits-same os cells ns w t at e y p a b R.halt n = refl
waits-same os cells ns w t at e y p a b R.skip n = refl
waits-same os cells ns w t at e y p a b (R.assign r x) n = refl
waits-same os cells ns w t at e y p a b (R.branch k c) n = refl
waits-same os cells ns w t at e y p a b (R.store r v) n = refl
waits-same os cells ns w t at e y p a b (R.load r v) n = refl
waits-same os cells ns w t at e y p a b (R.unlock l) n = refl
waits-same os cells ns w t at e y p a b (R.lock l) n = ap (λ (q : Owner). not (may_take t q)) (sym (w l n))

-- ---- one more thread, which halts or is live

bound-more : (v : Live) (vs : List Live) (bound : Option Time) (due : ℕ) → bound ≡ bound_of vs → due ≡ v.here.high + v.statement.greatest
    → Some (sooner (tick due) bound) ≡ bound_of (v ∷ vs)
unfolding turn_bound
bound-more v [] bound due b d = rw (b, d)
bound-more v (w ∷ ws) bound due b d = rw (b, d)

abbrev clock_of : ThreadState → Clock
clock_of x = record { low = tick x.low; high = tick x.high }

thread-more : (os : List Owner) (v : Live) (vs : List Live) (ys : List ThreadState) (a : Survey) (h w : Bool) (due : ℕ) → Surveys os vs ys a
    → w ≡ waits os v → due ≡ v.here.high + v.statement.greatest
    → Surveys os (if h then vs else v ∷ vs) (v.here ∷ ys) (if h then add_clock a (clock_of v.here) else add_live
    (add_clock a (clock_of v.here)) (tick due) w)
unfolding all greatest_low greatest_high
thread-more os v vs ys a true w due i e d = record {
  waiting_is = i.waiting_is;
  bound_is = i.bound_is;
  low_is = ap (max v.here.low) i.low_is;
  high_is = ap (max v.here.high) i.high_is;
}
thread-more os v vs ys a false w due i e d = record {
  waiting_is = λ j. e j && i.waiting_is j;
  bound_is = bound-more v vs a.bound due i.bound_is d;
  low_is = ap (max v.here.low) i.low_is;
  high_is = ap (max v.here.high) i.high_is;
}

-- ---- the threads of a state, from the last to the first

-- of no threads
abbrev pub nothing_surveyed : Survey
nothing_surveyed = record { waiting = true; bound = None; low = tick 0; high = tick 0 }

module _ (x : Taken) (ready : IsReady x) where
  sound : Sound (decode x.cells.now)
  sound = decode-sound x.cells.now

  few-sizes : length (sizes_in x).regs ≤ most_threads
  few-sizes = let a = sizes-threads (program_of x) in let b = ready.facts.threads_few in omega arith

  state-threads : length (rules_state x).threads ≡ length (program_of x).threads
  unfolding state_of
  state-threads = threads-length (sizes_in x).regs (decode x.cells.now).threads (let a = sound.four in let b = few-sizes in omega arith)
      ∙ sizes-threads (program_of x)

  owner-there : (l : ℕ) → l < (program_of x).locks → get_or (rules_state x).owners l none ≡ owner_of (owner_at (decode x.cells.now) l)
  unfolding sizes_of
  owner-there l h = state-owner (sizes_in x) (decode x.cells.now) l h

  pub survey-start : (t : ℕ) → length (program_of x).threads ≤ t → SurveysFrom x t nothing_surveyed
  unfolding live_from all greatest_low greatest_high
  survey-start t h =
      let end : length (rules_state x).threads ≤ t = omega (arith, state-threads) in
      rw (drop_of_length-le (program_of x).threads h, drop_of_length-le (rules_state x).threads end)
      (record { waiting_is = refl; bound_is = refl; low_is = refl; high_is = refl })

  -- one thread more
  pub survey-more : (t : ℕ) → t < length (program_of x).threads → (f : Fetched) (a : Survey)
      → Fetches x.sheet.now (names_of (program_of x) t) (thread_at (decode x.cells.now) t).at
      (statement_in (program_of x) t (thread_at (decode x.cells.now) t).at) f
      → SurveysFrom x (suc t) a → SurveysFrom x t (add_thread a t (thread_at (decode x.cells.now) t).clock f.statement (decode x.cells.now).owners)
  unfolding live_from statement_at add_thread
  survey-more t h f a w i =
      let g = program_of x in
      let xs = (rules_state x).threads in
      let os = (rules_state x).owners in
      let s = decode x.cells.now in
      let thread = thread_at s t in
      let y = thread_of (get_or (sizes_in x).regs t 0) thread in
      let st = statement_in g t thread.at in
      let rest = drop (suc t) xs in
      let vs = live_in x (suc t) in
      let v : Live = record { thread = t; here = y; statement = st } in
      let b = add_thread a t thread.clock f.statement s.owners in
      let sizes = sizes-threads g in
      let in-xs : t < length xs = omega (arith, state-threads) in
      let in-sizes : t < length (sizes_in x).regs = omega arith in
      let state-is : drop t xs ≡ y ∷ rest = drop-cons xs t y in-xs ∙ ap (λ (u : ThreadState). u ∷ rest)
      (state-thread (sizes_in x) s t y in-sizes few-sizes sound.four) in
      let code_is : drop t g.threads ≡ thread_in g t ∷ drop (suc t) g.threads = drop-cons g.threads t no_thread h in
      let halts-is : halts f.statement.action ≡ is_halt st.action =
      ap halts w.action ∙ halts-same (st.place + 9) (body_end x.sheet.now st.place) st.action in
      let waits-is : waits_at t f.statement.action s.owners ≡ waits os v =
      ap (λ (k : Action). waits_at t k s.owners) w.action
      ∙ waits-same os s.owners (names_of g t) owner-there t (st.place + 9)
      (body_end x.sheet.now st.place) y st.place st.least st.greatest st.action w.named in
      let due_is : thread.clock.high.0 + f.statement.greatest.0 ≡ y.high + st.greatest = ap (λ (k : ℕ). thread.clock.high.0 + k) w.greatest in
      let made : Surveys os (if halts f.statement.action then vs else v ∷ vs) (y ∷ rest) b =
      thread-more os v vs rest a (halts f.statement.action) (waits_at t f.statement.action s.owners) (thread.clock.high.0 + f.statement.greatest.0) i waits-is due_is in
      subst (λ (l : List ThreadState). Surveys os (live_from t (drop t g.threads) l) l b) (sym state-is)
      (subst (λ (l : List R.Thread). Surveys os (live_from t l (y ∷ rest)) (y ∷ rest) b) (sym code_is)
      (subst (λ (k : Bool). Surveys os (if k then vs else v ∷ vs) (y ∷ rest) b) halts-is made))

-- ---- the earliest ticks

-- a number from t on is that one, or from the next one on
at-or-above : {P : Type 0} (k t : ℕ) → t ≤ k → (k ≡ t → P) → (suc t ≤ k → P) → P
at-or-above zero zero l f g = f refl
at-or-above (suc k) zero l f g = g (omega arith)
at-or-above zero (suc t) l f g = absurd (omega arith)
at-or-above (suc k) (suc t) l f g = at-or-above k t (omega arith) (λ e. f (omega arith)) (λ q. g (omega arith))

earliest-same : {sheet : Bytes} {ns : Names} {at : ℕ} {x : R.Statement} {f : Fetched} (low : ℕ) → Fetches sheet ns at x f
    → earliest_of (halts f.statement.action) low f.statement.least.0 ≡ earliest_of (is_halt x.action) low x.least
earliest-same {sheet} {ns} {at} {x} low w =
    λ i. earliest_of ((ap halts w.action ∙ halts-same (x.place + 9) (body_end sheet x.place) x.action) i) low (w.least i)

pub earliest-start : (x : Taken) (t : ℕ) (ticks : List (Option Time)) → length (program_of x).threads ≤ t → EarliestFrom x t ticks
earliest-start x t ticks h k l r = absurd (omega arith)

-- one thread more, in front
pub earliest-more : (x : Taken) (t : ℕ) (ticks : List (Option Time)) {f : Fetched} (e : Option Time) → t < length ticks
    → Fetches x.sheet.now (names_of (program_of x) t) (thread_at (decode x.cells.now) t).at
    (statement_in (program_of x) t (thread_at (decode x.cells.now) t).at) f
    → e ≡ earliest_of (halts f.statement.action) (thread_at (decode x.cells.now) t).clock.low.0 f.statement.least.0 → EarliestFrom x (suc t) ticks
    → EarliestFrom x t (set ticks t e)
earliest-more x t ticks e room w ex later k l r =
    at-or-above k t l
    (λ q. ap (λ (i : ℕ). get_or (set ticks t e) i None) q ∙ get_or-set_same ticks t e None room ∙ ex ∙ earliest-same
    (thread_at (decode x.cells.now) t).clock.low.0 w ∙ ap (earliest_at x) (sym q))
    (λ q. get_or-set_other ticks t k e None (λ i. omega arith) ∙ later k q r)
