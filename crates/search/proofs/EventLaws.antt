-- What the events from thread t on are, by the statement that the code fetched for it.
use Rattle.std.specs.Prelude.{if◌then◌else◌, Some, None, Result}
use mathlib.Core.Path.{◌≡◌, refl, sym, ap, subst, ◌∙◌}
use mathlib.Core.Bool.{Bool, true, false}
use mathlib.Core.List.{List, ◌∷◌}
use Prim.Native.Nat.{ℕ, suc, ◌+◌, ◌≤◌, ◌<◌, max}
use native.Mathlib.Omega.{arith}
use borrow.Author.Tests.{le-leb, lt-leb}
use lib.ListN.{length, get_or}
use Rattle.rules.specs.Constants.{half32, most_threads}
use Rattle.rules.specs.Program.{is_halt, Statement}
use Rattle.rules.specs.Search as S
use Rattle.rules.specs.Search.{ThreadState, Live, unread, states, before, effect, events}
use Rattle.reader.specs.Facts.{thread_in, statement_in}
use Rattle.reader.specs.Index.{no_entry}
use Rattle.field.specs.declared.ticks.Time.{Time}
use Rattle.field.specs.Ticks.{tick}
use Rattle.refusal.specs.declared.Refusal.{Refusal}
use Rattle.refusal.specs.declared.Fault.{Fault}
use Rattle.state.specs.Access.{thread_at}
use Rattle.state.specs.Shape.{thread_of}
use Rattle.state.specs.Cells.{decode}
use Rattle.state.specs.declared.Thread.{Thread}
use Rattle.state.proofs.Slot.{decode-sound}
use Rattle.state.proofs.Shape.{state-thread, state-threads-length, sizes-threads, sizes-regs}
use Rattle.event.specs.Fetch.{names_of, Fetches, OfProgram}
use Rattle.event.proofs.fetch.Asks.{of-program}
use Rattle.event.specs.Act.{Ticks}
use Rattle.event.specs.Stack.{Leaves}
use Rattle.event.specs.declared.stack.Stack.{Stack}
use Rattle.event.specs.declared.act.Event.{Event}
use Rattle.event.specs.declared.fetch.Fetched.{Fetched}
use Rattle.search.specs.Survey.{earliest_of, earliest_at}
use Rattle.search.specs.Taken.{IsReady, program_of, sizes_in, rules_state, live_in}
use Rattle.search.specs.Turn.{MakesMore, over_of, event_of, events_in}
use Rattle.search.specs.declared.taken.Taken.{Taken}
use Rattle.search.proofs.TurnLaws.{live-step, events-halted, events-passed, events-before, over-makes}

-- a thread that halts has no earliest tick; another's is its clock's low end and its statement's least time
halts_at : (h : Bool) (low least : ℕ) → earliest_of h low least ≡ None → h ≡ true
halts_at true low least e = refl
halts_at false low least e = absurd (cc e)

lives_at : (h : Bool) (low least : ℕ) (x : Time) → earliest_of h low least ≡ Some x → (h ≡ false) × (x.0 ≡ low + least)
lives_at true low least x e = absurd (cc e)
lives_at false low least x e = let f : tick (low + least) ≡ x = cc e in (refl, ap (λ (y : Time). y.0) (sym f))

-- thread t of the state x
module _ (x : Taken) (t : ℕ) (ready : IsReady x) (there : t < length (program_of x).threads) where
  abbrev thread : Thread
  thread = thread_at (decode x.cells.now) t

  abbrev stands : ThreadState
  stands = thread_of (length (thread_in (program_of x) t).regs) thread

  abbrev statement : Statement
  statement = statement_in (program_of x) t thread.at

  abbrev halted : Bool
  halted = is_halt statement.action

  abbrev live_here : Live
  live_here = record { thread = t; here = stands; statement = statement }

  in-sizes : t < length (sizes_in x).regs
  in-sizes = let a = sizes-threads (program_of x) in omega arith

  few-sizes : length (sizes_in x).regs ≤ most_threads
  few-sizes = let a = sizes-threads (program_of x) in let b = ready.facts.threads_few in omega arith

  four : length (decode x.cells.now).threads ≡ most_threads
  four = (decode-sound x.cells.now).four

  thread-here : get_or (rules_state x).threads t stands ≡ stands
  thread-here = state-thread (sizes_in x) (decode x.cells.now) t stands in-sizes few-sizes four ∙ ap (λ (n : ℕ). thread_of n thread)
      (sizes-regs (program_of x) t)

  in-state : t < length (rules_state x).threads
  in-state =
      let a = state-threads-length (sizes_in x) (decode x.cells.now) few-sizes four in
      let b = sizes-threads (program_of x) in
      omega arith

  live_at : live_in x t ≡ (if halted then live_in x (suc t) else live_here ∷ live_in x (suc t))
  live_at =
      subst (λ (y : ThreadState). live_in x t ≡ (if is_halt (statement_in (program_of x) t y.at).action then live_in x (suc t)
      else record { thread = t; here = y; statement = statement_in (program_of x) t y.at } ∷ live_in x (suc t)))
      thread-here (live-step (program_of x) (rules_state x) t stands there in-state)

  module _ (latest bound : ℕ) where
    abbrev from : ℕ
    from = max latest (thread.clock.low.0 + statement.least)

    -- one that halts, or may not move in time, has no event
    pub none-halted : earliest_at x t ≡ None → events_in x latest bound t ≡ events_in x latest bound (suc t)
    none-halted e =
        ap (events (rules_state x) latest bound) live_at
        ∙ events-halted (rules_state x) latest bound halted live_here (live_in x (suc t))
        (halts_at halted thread.clock.low.0 statement.least e)

    pub none-late : (earliest : Time) → earliest_at x t ≡ Some earliest → bound < max latest earliest.0
        → events_in x latest bound t ≡ events_in x latest bound (suc t)
    none-late earliest e l =
        let lives = lives_at halted thread.clock.low.0 statement.least earliest e in
        ap (events (rules_state x) latest bound) live_at
        ∙ events-passed (rules_state x) latest bound halted live_here (live_in x (suc t)) lives.0
        (lt-leb from bound (subst (λ (n : ℕ). bound < max latest n) lives.1 l))

    event-before : halted ≡ false → from ≤ bound
        → events_in x latest bound t ≡ before statement.place (effect (rules_state x) t stands from bound statement.action)
        (events_in x latest bound (suc t))
    event-before h l =
        ap (events (rules_state x) latest bound) live_at
        ∙ events-before (rules_state x) latest bound halted live_here (live_in x (suc t)) h (le-leb from bound l)

  -- ---- what the code asks of its event, and what it makes of it

  module _ {f : Fetched} (fetched : Fetches x.sheet.now (names_of (program_of x) t) thread.at statement f) (start end : ℕ) where
    abbrev its-event : Event
    its-event = event_of (get_or x.plan.entries t no_entry).registers t start end

    -- the event v is to be one of the program, for the statement that was fetched
    abbrev pub Due : Event → Type 0
    Due v =
        OfProgram (program_of x) v.thread v.registers
        × ((st : Statement) × Fetches x.sheet.now (names_of (program_of x) v.thread) (thread_at (decode x.cells.now) v.thread).at st f)

    pub act-asks : {v : Event} → v ≡ its-event → start ≤ end → end < half32 → Ticks v × Due v
    act-asks {v} q l u =
        subst (λ (w : Event). Ticks w × Due w) (sym q) (
          record { thread = let a = ready.facts.threads_few in omega arith; from_small = omega arith; to_small = u },
          (of-program x.sheet.now (program_of x) x.plan x.places.now ready t there, (statement, fetched)),
        )

    -- what is fetched for the event
    pub fetched-for : {v : Event} → v ≡ its-event
        → Fetches x.sheet.now (names_of (program_of x) v.thread) (thread_at (decode x.cells.now) v.thread).at statement f
    fetched-for q = subst (λ (w : Event). Fetches x.sheet.now (names_of (program_of x) w.thread)
        (thread_at (decode x.cells.now) w.thread).at statement f) (sym q) fetched

    -- what the rules make of an event for the statement
    abbrev pub effect_of : Event → S.Next
    effect_of v = effect (rules_state x) v.thread (thread_of v.registers
        (thread_at (decode x.cells.now) v.thread)) v.from.0 v.to.0 statement.action

    effect-is : {v : Event} → v ≡ its-event → effect_of v ≡ effect (rules_state x) t stands start end statement.action
    effect-is {v} q =
        ap effect_of q
        ∙ ap (λ (n : ℕ). effect (rules_state x) t (thread_of n thread) start end statement.action)
        (of-program x.sheet.now (program_of x) x.plan x.places.now ready t there).registers

    pub event-makes : {v : Event} → v ≡ its-event → (latest : ℕ) (earliest : Time) → earliest_at x t ≡ Some earliest
        → start ≡ max latest earliest.0 → start ≤ end
        → (b c : Stack) (later : Result (Unit {0}) Fault) (acted : Result (Unit {0}) Refusal) → Leaves (sizes_in x) b c acted (effect_of v)
        → MakesMore x latest end t b c later (over_of later acted f.place)
    event-makes {v} q latest earliest lives at_start l b c later acted leaves = λ a stack makes.
        let live = lives_at halted thread.clock.low.0 statement.least earliest lives in
        let from-is : start ≡ from latest end = at_start ∙ ap (max latest) live.1 in
        let same : events_in x latest end t ≡ before f.place (effect_of v) (events_in x latest end (suc t)) =
        event-before latest end live.0 (subst (λ (n : ℕ). n ≤ end) from-is l)
        ∙ (λ i. before (sym fetched.place i) (effect (rules_state x) t stands (sym from-is i) end statement.action)
        (events_in x latest end (suc t)))
        ∙ ap (λ (n : S.Next). before f.place n (events_in x latest end (suc t))) (sym (effect-is q)) in
        rw same (over-makes (sizes_in x) a b c (sym stack.1) later (events_in x latest end (suc t)) f.place acted (effect_of v) makes leaves)
