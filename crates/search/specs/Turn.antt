-- What the events of some threads, and a whole turn, give.
use Rattle.std.specs.Prelude.{◌≡◌, List, ℕ, suc, length, ℤ, Option, Some, None, Result, Ok, Err}
use Rattle.rules.specs.Search as S
use Rattle.rules.specs.Search.{refused, ended, follow, events}
use Rattle.refusal.specs.Shape.{fault_at}
use Rattle.refusal.specs.declared.Refusal.{Refusal}
use Rattle.refusal.specs.declared.Fault.{Fault}
use Rattle.state.specs.Shape.{Sizes}
use Rattle.event.specs.Push.{Pushed}
use Rattle.event.specs.Stack.{SameStack, Grows}
use Rattle.event.specs.declared.stack.Stack.{Stack}
use Rattle.field.specs.Ticks.{tick}
use Rattle.event.specs.declared.act.Event.{Event}
use Rattle.search.specs.Taken.{sizes_in, rules_state, live_in}
use Rattle.search.specs.declared.taken.Taken.{Taken}
use Rattle.search.specs.declared.run.Window.{Window}

-- from the stack a at the beginning of the turn to the stack b: a fault, or the states on top
abbrev pub Makes : Sizes → Stack → Stack → Result (Unit {0}) Fault → S.Turn → Type 0
Makes z a b m (refused r p) = (m ≡ Err (fault_at r p)) × (length b.work.now ≡ length a.work.now)
Makes z a b m (ended x y) = ⊥
Makes z a b m (follow xs) = (m ≡ Ok tt) × Grows z a b xs

-- from the buffer b and the height h to the buffer c and the height k: a fault, the window of a state whose threads have all halted, or
-- the states that follow on the stack
abbrev pub Turned : Sizes → ℕ → List ℤ → List ℤ → ℕ → ℕ → Result (Option Window) Fault → S.Turn → Type 0
Turned z slots b c h k m (refused r p) = (m ≡ Err (fault_at r p)) × (length c ≡ length b)
Turned z slots b c h k m (ended x y) = (m ≡ Ok (Some (record { low = tick x; high = tick y }))) × ((c ≡ b) × (k ≡ h))
Turned z slots b c h k m (follow xs) = (m ≡ Ok None) × Pushed z slots b c h k xs

abbrev pub Turns : Sizes → Stack → Stack → Result (Option Window) Fault → S.Turn → Type 0
Turns z a b m t = Turned z a.slots a.work.now b.work.now a.height b.height m t

-- what the event of a thread at a place makes of what the later threads made
abbrev pub over_of : Result (Unit {0}) Fault → Result (Unit {0}) Refusal → ℕ → Result (Unit {0}) Fault
over_of later (Err q) p = Err (record { refusal = q; place = p })
over_of later (Ok u) p = later

abbrev pub event_of : ℕ → ℕ → ℕ → ℕ → Event
event_of n t from to = record { thread = t; registers = n; from = record { 0 = from }; to = record { 0 = to } }

-- what the events of the threads from number t on come to, from the greatest clock low and up to the turn's bound
abbrev pub events_in : Taken → ℕ → ℕ → ℕ → S.Turn
events_in x latest bound t = events (rules_state x) latest bound (live_in x t)

-- whatever the stack was at the beginning of the turn: where the threads behind t have made the stack b and `later` of it, the stack c
-- and m are what the threads from t on make
abbrev pub MakesMore : Taken → ℕ → ℕ → ℕ → Stack → Stack → Result (Unit {0}) Fault → Result (Unit {0}) Fault → Type 0
MakesMore x latest bound t b c later m =
    (a : Stack) → SameStack a b → Makes (sizes_in x) a b later (events_in x latest bound (suc t)) → Makes (sizes_in x) a c m (events_in x latest bound t)
