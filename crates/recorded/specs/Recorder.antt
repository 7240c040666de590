-- What the recorder writes of a run (02, ticket 9): its starting values and its events; and the tick of the last of them.
use Rattle.std.specs.Prelude.{List, [], ◌∷◌, ◌++◌, ℕ, ℤ}
use Rattle.rules.specs.Format.{Bytes}
use Rattle.rules.specs.Encoding.{two, field, encode_value}
use Rattle.rules.specs.Run.{RunThread, RunState, Event}
use Rattle.recorded.specs.Follow.{clock_at}

-- "Starting values are tag 32, length 4"
abbrev pub value_field : ℤ → Bytes
value_field z = field 32 (encode_value z)

-- "one field for each event (tag 33, length 3: thread, clock)"
abbrev pub event_field : Event → Bytes
event_field v = field 33 (v.thread ∷ two (clock_at v.tick))

unfoldable pub record_values : List ℤ → Bytes
record_values [] = []
record_values (z ∷ zs) = value_field z ++ record_values zs

unfoldable pub record_registers : List RunThread → Bytes
record_registers [] = []
record_registers (x ∷ xs) = record_values x.regs ++ record_registers xs

unfoldable pub record_events : List Event → Bytes
record_events [] = []
record_events (v ∷ es) = event_field v ++ record_events es

-- "starting values of variables and of each thread's registers, then one field for each event"
unfoldable pub record_of : RunState → List Event → Bytes
record_of s es = record_values s.vars ++ (record_registers s.threads ++ record_events es)

-- the tick of the last event, and c where there is none
abbrev pub last_tick : ℕ → List Event → ℕ
last_tick c [] = c
last_tick c (v ∷ es) = last_tick v.tick es
