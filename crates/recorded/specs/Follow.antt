-- Follow what the machine recorded (02, ticket 9): a record has starting values, then a field for each event. It is followed field by
-- field with the rule for runs, and each event's full tick is recovered from the recorder's clock of sixteen bits.
use Rattle.std.specs.Prelude.{Bool, true, false, List, [], ◌∷◌, ◌++◌, ℕ, zero, suc, ◌+◌, ◌-◌, ◌%◌, leb, ltb, ℤ, length, replicate, if◌then◌else◌}
use Rattle.std.proofs.Math.Option.{none}
use Rattle.rules.specs.Refusal.{Refusal, number, no_such_name, too_long, not_run, Result, value, fault}
use Rattle.rules.specs.Interval.{Interval}
use Rattle.rules.specs.Program.{Thread, Program}
use Rattle.rules.specs.Format.{Bytes, Got, bad, got, and_then, need, byte, num16, int32, due, sized, read_sheet}
use Rattle.rules.specs.Run.{RunThread, RunState, Outcome, not_event, no_result, next, step, finished}
use Rattle.interval.specs.Bounds.{holds}

-- "9, place 0, for a record over 65,536 bytes"
abbrev pub longest_record : ℕ
longest_record = 65536

-- ---- "Starting values are tag 32, length 4, in sheet order."

-- "4 for a starting value outside its range"
unfoldable pub start_value : Interval → Bytes → ℕ → Got ℤ
start_value range r at =
    let z = int32 r (at + 3) in
    due 32 r at (sized r at 4 (holds range z) z)

-- a value for each of the ranges, behind those that were read
unfoldable pub start_values : List Interval → List ℤ → Bytes → ℕ → Got (List ℤ)
start_values [] zs r at = got zs at
start_values (i ∷ is) zs r at = and_then (start_value i r at) (λ z q. start_values is (zs ++ z ∷ []) r q)

-- a thread before its first event
abbrev pub at_start : List ℤ → RunThread
at_start zs = record { at = 0; clock = 0; regs = zs }

unfoldable pub start_threads : List Thread → List RunThread → Bytes → ℕ → Got (List RunThread)
start_threads [] xs r at = got xs at
start_threads (t ∷ ts) xs r at = and_then (start_values t.regs [] r at) (λ zs q. start_threads ts (xs ++ at_start zs ∷ []) r q)

-- "In it one replay state is updated at each event": the state of the run, and the tick of its last event, 0 before the first
pub record Replay : Type 0 where
  pub state : RunState
  pub tick : ℕ

-- "starting values of variables and of each thread's registers"
unfoldable pub start_replay : Program → Bytes → Got Replay
start_replay g r =
    and_then (start_values g.vars [] r 0) (λ vs p.
    and_then (start_threads g.threads [] r p) (λ xs q.
    got (record { state = record { threads = xs; vars = vs; owners = replicate g.locks none }; tick = 0 }) q))

-- ---- "the recorder's clock has sixteen bits and starts over at zero"

-- after so many ticks
abbrev pub clock_turn : ℕ
clock_turn = 65536

-- what it shows at a tick
abbrev pub clock_at : ℕ → ℕ
clock_at tick = tick % clock_turn

-- from one clock to a later one: 01's "Wrapping subtraction of successive u16 clocks recovers each gap"
unfoldable pub gap : ℕ → ℕ → ℕ
gap before after = (after + clock_turn - before) % clock_turn

-- "and so recover the full tick": of an event, from the tick before it and the clock recorded with it
unfoldable pub tick_after : ℕ → ℕ → ℕ
tick_after tick clock = tick + gap (clock_at tick) clock

-- ---- "then one field for each event (tag 33, length 3: thread, clock)"

-- what the rule for runs makes of an event at a tick: "21 not a run, 10 or 16 for arithmetic without a result"
unfoldable pub replayed : ℕ → Outcome → Result Replay
replayed tick not_event = fault not_run
replayed tick (no_result r) = fault r
replayed tick (next s) = value (record { state = s; tick = tick })

-- the replay state that an event leaves, by its thread and clock: "5 for no such thread", then the rule for runs
unfoldable pub replay : Program → Replay → ℕ → ℕ → Result Replay
replay g x thread clock =
    let e = tick_after x.tick clock in
    if ltb thread (length g.threads) then replayed e (step g x.state thread e) else fault no_such_name

-- a refusal is at its field; else the place is behind it
unfoldable pub at_field : {A : Type 0} → ℕ → ℕ → Result A → Got A
at_field at behind (fault r) = bad r at
at_field at behind (value a) = got a behind

unfoldable pub follow_event : Program → Bytes → ℕ → Replay → Got Replay
follow_event g r at x =
    and_then {A = ℕ} (due 33 r at (sized r at 3 true 3)) (λ _ q. at_field at q (replay g x (byte r (at + 3)) (num16 r (at + 4))))

-- event after event to the record's end; k is at least the number of events that are left
unfoldable pub follow_events : ℕ → Program → Bytes → ℕ → Replay → Got Replay
follow_events zero g r at x = got x at
follow_events (suc k) g r at x =
    if leb (length r) at then got x at
    else and_then (follow_event g r at x) (λ y q. follow_events k g r q y)

-- from a place on, no more events are left than bytes
unfoldable pub follow_from : Program → Bytes → ℕ → Replay → Got Replay
follow_from g r at x = follow_events (length r - at) g r at x

-- "then 9, place 0, for a record over 65,536 bytes; then, field by field with its place"
unfoldable pub follow_record : Program → Bytes → Got Replay
follow_record g r = need (leb (length r) longest_record) too_long 0 (and_then (start_replay g r) (λ x q. follow_from g r q x))

-- ---- "The follower says whether the record is a run of the sheet that leaves a state, finished or not, with the last tick."

-- "naming sheet or record"
pub data File : Type 0 where
  the_sheet : File
  the_record : File

-- refusal 0: the record is a run of the sheet that leaves a state
pub record Answer : Type 0 where
  pub refusal : ℕ
  pub file : File
  pub place : ℕ
  pub finished : Bool
  pub tick : ℕ

-- nothing is refused: the file is the sheet and the place 0
abbrev pub leaves : Bool → ℕ → Answer
leaves done tick = record { refusal = 0; file = the_sheet; place = 0; finished = done; tick = tick }

-- "Refused, naming sheet or record, unfinished at tick 0"
abbrev pub refused : File → Refusal → ℕ → Answer
refused f r p = record { refusal = number r; file = f; place = p; finished = false; tick = 0 }

unfoldable pub answer_of : Program → Got Replay → Answer
answer_of g (bad r p) = refused the_record r p
answer_of g (got x q) = leaves (finished g x.state) x.tick

-- "the sheet's own number first"
unfoldable pub follow_with : Bytes → Got Program → Answer
follow_with r (bad n p) = refused the_sheet n p
follow_with r (got g e) = answer_of g (follow_record g r)

unfoldable pub follow : Bytes → Bytes → Answer
follow sheet r = follow_with r (read_sheet sheet)

-- ---- the answer in five numbers, in the order in which they are printed

-- 0 the sheet, 1 the record
abbrev pub file_number : File → ℕ
file_number the_sheet = 0
file_number the_record = 1

-- 0 for false, 1 for true
abbrev pub bit : Bool → ℕ
bit false = 0
bit true = 1

abbrev pub listed : Answer → List ℕ
listed a = a.refusal ∷ file_number a.file ∷ a.place ∷ bit a.finished ∷ a.tick ∷ []
