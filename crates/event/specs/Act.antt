-- What the event of one thread gives.
use Rattle.std.specs.Prelude.{◌≡◌, List, ℕ, ◌<◌, get_or, ℤ, Result, Ok, Err}
use Rattle.rules.specs.Constants.{half32, most_threads}
use Rattle.rules.specs.Search as S
use Rattle.rules.specs.Program.{Action, Statement}
use Rattle.rules.specs.Format.{Bytes}
use Rattle.rules.specs.Search.{unread, states, moved, effect}
use Rattle.rules.specs.Expression.{Regs}
use Rattle.rules.specs.Interval.{Interval}
use Rattle.rules.specs.Lock.{Owner}
use Rattle.expression.specs.Evaluation.{regs_of}
use Rattle.refusal.specs.declared.Refusal.{Refusal}
use Rattle.refusal.specs.Shape.{refusal_of}
use Rattle.state.specs.Shape.{Sizes, thread_of, state_of}
use Rattle.state.specs.declared.Thread.{Thread}
use Rattle.state.specs.declared.State.{State}
use Rattle.state.specs.declared.moves.Move.{Move}
use Rattle.state.specs.Access.{thread_at}
use Rattle.reader.specs.Facts.{program_in}
use Rattle.event.specs.Fetch.{names_of, Fetches}
use Rattle.event.specs.Push.{Pushed}
use Rattle.event.specs.declared.fetch.Fetched.{Fetched}
use Rattle.event.specs.declared.act.Event.{Event}

-- an event of a thread of the code's four, whose ticks a cell holds
pub record Ticks (v : Event) : Type 0 where
  pub thread : v.thread < most_threads
  pub from_small : v.from.0 < half32
  pub to_small : v.to.0 < half32

-- a refusal, and the buffer and the height as they were, or the states on the stack, which is k high now
abbrev pub Acts : Sizes → ℕ → List ℤ → List ℤ → ℕ → ℕ → Result (Unit {0}) Refusal → S.Next → Type 0
Acts z slots b c h k r (unread q) = (r ≡ Err (refusal_of q)) × ((c ≡ b) × (k ≡ h))
Acts z slots b c h k r (states xs) = (r ≡ Ok tt) × Pushed z slots b c h k xs

-- the event's thread comes to a statement
abbrev pub move_to : Event → ℕ → Move
move_to v at = record { thread = v.thread; at = at; clock = record { low = v.from; high = v.to } }

-- the rules' state in which the mover stands there, with these registers
abbrev pub moved_by : Sizes → State → Event → ℕ → Regs → S.State
moved_by z s v at rs = moved (state_of z s) v.thread at v.from.0 v.to.0 rs (state_of z s).vars (state_of z s).owners

-- the same with the registers as they were, and with these variables and owners
abbrev pub moved_with : Sizes → State → Event → ℕ → List Interval → List Owner → S.State
moved_with z s v at vs os = moved (state_of z s) v.thread at v.from.0 v.to.0 (regs_of (get_or z.regs v.thread 0) (thread_at s v.thread).regs) vs os

-- the thread of the event, and what the rules make of it at a statement of this action, where the thread has n registers
abbrev pub mover : State → Event → Thread
mover s v = thread_at s v.thread

abbrev pub effect_of : Sizes → State → Event → ℕ → Action → S.Next
effect_of z s v n x = effect (state_of z s) v.thread (thread_of n (mover s v)) v.from.0 v.to.0 x

-- f is the statement x, at which the event's thread stands
abbrev pub FetchedBy : Bytes → State → Event → Statement → Fetched → Type 0
FetchedBy sheet s v x f = Fetches sheet (names_of (program_in sheet) v.thread) (mover s v).at x f
