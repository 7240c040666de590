-- What the threads of a state come to at the beginning of a turn.
use Rattle.std.specs.Prelude.{◌≡◌, Bool, false, ◌&&◌, not, List, [], ◌∷◌, ℕ, ◌+◌, ◌≤◌, ◌<◌, min, max, length, get_or, drop, if◌then◌else◌, Option, Some, None}
use Rattle.rules.specs.Constants.{most_locks}
use Rattle.rules.specs.Base.{all}
use Rattle.rules.specs.Lock.{Owner, may_take}
use Rattle.rules.specs.Program.{is_halt}
use Rattle.rules.specs.Search.{ThreadState, Live, greatest_low, greatest_high, turn_bound, waits}
use Rattle.field.specs.declared.decoding.Action.{Action}
use Rattle.field.specs.declared.decoding.Action.TheVariants.{Halt, Skip, Assign, Branch, Store, Load, Unlock, Lock}
use Rattle.field.specs.declared.decoding.Statement.{Statement}
use Rattle.field.specs.declared.ticks.Time.{Time}
use Rattle.field.specs.Ticks.{tick}
use Rattle.field.specs.Decoded.{halts}
use Rattle.reader.specs.Facts.{statement_in}
use Rattle.state.specs.declared.Clock.{Clock}
use Rattle.state.specs.Cells.{decode}
use Rattle.state.specs.Access.{thread_at}
use Rattle.state.specs.Shape.{owner_of}
use Rattle.search.specs.declared.taken.Taken.{Taken}
use Rattle.search.specs.declared.survey.Survey.{Survey}
use Rattle.search.specs.Taken.{program_of, rules_state, live_in}

-- the turn's bound, where some thread is live
abbrev pub bound_of : List Live → Option Time
bound_of [] = None
bound_of (v ∷ vs) = Some (tick (turn_bound v vs))

-- of the live threads vs among the threads xs
pub record Surveys (os : List Owner) (vs : List Live) (xs : List ThreadState) (a : Survey) : Type 0 where
  pub waiting_is : a.waiting ≡ all (waits os) vs
  pub bound_is : a.bound ≡ bound_of vs
  pub low_is : a.low.0 ≡ greatest_low xs
  pub high_is : a.high.0 ≡ greatest_high xs

-- of a state's threads from number t on
abbrev pub SurveysFrom : Taken → ℕ → Survey → Type 0
SurveysFrom x t a = Surveys (rules_state x).owners (live_in x t) (drop t (rules_state x).threads) a

-- ---- what the code adds for one thread

-- a lock that an action names is one of the code's eight
abbrev pub LockThere : Action → Type 0
LockThere Halt = Unit {0}
LockThere Skip = Unit {0}
LockThere (Assign r at e) = Unit {0}
LockThere (Branch t at e) = Unit {0}
LockThere (Store r v) = Unit {0}
LockThere (Load r v) = Unit {0}
LockThere (Unlock l) = Unit {0}
LockThere (Lock l) = l < most_locks

-- thread t stands at a lock that another owns
abbrev pub waits_at : ℕ → Action → List ℕ → Bool
waits_at t Halt os = false
waits_at t Skip os = false
waits_at t (Assign r at e) os = false
waits_at t (Branch k at e) os = false
waits_at t (Store r v) os = false
waits_at t (Load r v) os = false
waits_at t (Unlock l) os = false
waits_at t (Lock l) os = not (may_take t (owner_of (get_or os l 0)))

-- the earlier of a thread's last tick and the bound of the others, if there are any
abbrev pub sooner : Time → Option Time → Time
sooner due None = due
sooner due (Some b) = tick (min due.0 b.0)

abbrev pub add_live : Survey → Time → Bool → Survey
add_live a due waits = record { waiting = waits && a.waiting; bound = Some (sooner due a.bound); low = a.low; high = a.high }

abbrev pub add_clock : Survey → Clock → Survey
add_clock a x = record { waiting = a.waiting; bound = a.bound; low = tick (max x.low.0 a.low.0); high = tick (max x.high.0 a.high.0) }

unfoldable pub add_thread : Survey → ℕ → Clock → Statement → List ℕ → Survey
add_thread a t x st os =
    let b = add_clock a x in
    if halts st.action then b else add_live b (tick (x.high.0 + st.greatest.0)) (waits_at t st.action os)

-- ---- the earliest tick of a thread's event: none for one that halts

-- by whether it halts, its clock's low end and its statement's least time
abbrev pub earliest_of : Bool → ℕ → ℕ → Option Time
earliest_of halted low least = if halted then None else Some (tick (low + least))

abbrev pub earliest_at : Taken → ℕ → Option Time
earliest_at x t =
    let thread = thread_at (decode x.cells.now) t in
    let st = statement_in (program_of x) t thread.at in
    earliest_of (is_halt st.action) thread.clock.low.0 st.least

-- what a row of four ticks says of the threads from number t on
abbrev pub EarliestFrom : Taken → ℕ → List (Option Time) → Type 0
EarliestFrom x t ticks = (k : ℕ) → t ≤ k → k < length (program_of x).threads → get_or ticks k None ≡ earliest_at x k
