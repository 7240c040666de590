-- What is claimed of the follower as a whole (02, ticket 9), stated over the rule for runs. Nothing here is proved:
-- `proofs/Claims.antt` proves the whole, `FollowClaims`.
use Rattle.std.specs.Prelude.{◌≡◌, false, ◌||◌, List, [], ◌∷◌, ◌++◌, ℕ, ◌+◌, ◌≤◌, ◌<◌, T, leb, eqb, length}
use Rattle.rules.specs.Refusal.{Refusal, no_such_name, too_long, not_run}
use Rattle.rules.specs.Program.{Program}
use Rattle.rules.specs.Format.{Bytes, AreBytes, got, bad, read_sheet}
use Rattle.rules.specs.Run.{RunState, Event, not_event, no_result, next, step, play, IsRun, finished, greatest_clock, Starts}
use Rattle.rules.specs.Search.{answer}
use Rattle.rules.specs.Demands.{HoldsOfSheet}
use Rattle.recorded.specs.Follow.{longest_record, follow_record, clock_at, tick_after, the_sheet, the_record, Answer, leaves, refused, follow}
use Rattle.recorded.specs.Recorder.{event_field, record_of, last_tick}
use Rattle.recorded.specs.Worked.{RowsHold}

-- ---- "Two successive events are never more than 65,535 ticks apart, by the rule for runs"

-- each event at most 65,535 ticks after its forerunner, the first after tick c
abbrev pub Gaps : ℕ → List Event → Type 0
Gaps c [] = Unit {0}
Gaps c (v ∷ es) = (c ≤ v.tick) × (v.tick ≤ c + 65535) × Gaps v.tick es

-- a sheet of bytes, the program it reads as, and a start of one of its runs
pub record RunOf (sheet : Bytes) (g : Program) (s : RunState) : Type 0 where
  pub are_bytes : AreBytes sheet
  pub end : ℕ
  pub reads : read_sheet sheet ≡ got g end
  pub starts : Starts g s

-- ---- "5 for no such thread, 21 not a run, 10 or 16 for arithmetic without a result"

-- why an event is refused in the state x of a run
pub data Refuses (g : Program) (x : RunState) (v : Event) : Refusal → Type 0 where
  no_thread_lem : length g.threads ≤ v.thread → Refuses g x v no_such_name
  no_event : v.thread < length g.threads → step g x v.thread v.tick ≡ not_event → Refuses g x v not_run
  no_result_lem : (q : Refusal) → step g x v.thread v.tick ≡ no_result q → Refuses g x v q

-- ---- what refusal 0 says: "the record is a run of the sheet that leaves a state, finished or not, with the last tick"

pub record IsRunOf (sheet r : Bytes) (a : Answer) : Type 0 where
  pub program : Program
  pub end : ℕ
  pub reads : read_sheet sheet ≡ got program end
  pub start : RunState
  pub starts : Starts program start
  pub events : List Event
  pub state : RunState
  pub plays : play program start events ≡ next state
  -- the record is what the recorder writes of them
  pub recorded : AreBytes r → r ≡ record_of start events
  pub short_enough : length r ≤ longest_record
  -- the answer is that of the state, and the last tick is its greatest clock
  pub answers : a ≡ leaves (finished program state) (last_tick 0 events)
  pub latest : a.tick ≡ greatest_clock state.threads

-- ---- "A finished record of an accepted sheet ends inside its label."

pub record InLabel (sheet : Bytes) (tick : ℕ) : Type 0 where
  pub program : Program
  pub end : ℕ
  pub reads : read_sheet sheet ≡ got program end
  pub from_label_lem : program.header.label_low ≤ tick
  pub to_label : tick ≤ program.header.label_high

-- of any sheet of which demand 3 holds, by whichever acceptance
abbrev pub EndsInLabel : Bytes → Answer → Type 0
EndsInLabel sheet a = HoldsOfSheet sheet → T a.finished → InLabel sheet a.tick

-- ---- the claims, of every sheet and every record

pub record FollowClaims : Type 0 where
  -- the rows worked out by hand
  pub rows_hold : RowsHold
  -- "never more than 65,535 ticks apart"
  pub gaps : (sheet : Bytes) (g : Program) (s : RunState) → RunOf sheet g s → (es : List Event) → IsRun g s es → Gaps 0 es
  -- "and so recover the full tick"
  pub tick_recovered : (c e : ℕ) → c ≤ e → e ≤ c + 65535 → tick_after c (clock_at e) ≡ e
  -- of a run that leaves a state, what the recorder writes is followed to that very state and the run's own last tick
  pub run_replayed : (sheet : Bytes) (g : Program) (s : RunState) → RunOf sheet g s → (es : List Event) (x : RunState) → play g s es ≡ next x
      → length (record_of s es) ≤ longest_record → (q : ℕ) × (follow_record g (record_of s es) ≡ got (record { state = x; tick = last_tick 0 es }) q)
  pub run_followed : (sheet : Bytes) (g : Program) (s : RunState) → RunOf sheet g s → (es : List Event) (x : RunState) → play g s es ≡ next x
      → length (record_of s es) ≤ longest_record → follow sheet (record_of s es) ≡ leaves (finished g x) (last_tick 0 es)
  -- of a run whose last event lacks a result, it is refused at that event with that number
  pub fault_followed : (sheet : Bytes) (g : Program) (s : RunState) → RunOf sheet g s → (es : List Event) (v : Event) (q : Refusal)
      → play g s (es ++ v ∷ []) ≡ no_result q → length (record_of s (es ++ v ∷ [])) ≤ longest_record
      → follow sheet (record_of s (es ++ v ∷ [])) ≡ refused the_record q (length (record_of s es))
  -- an event that is refused behind a run is so at its field, whatever stands behind it; its tick is one that its clock can show
  pub event_refused : (sheet : Bytes) (g : Program) (s : RunState) → RunOf sheet g s → (es : List Event) (x : RunState) → play g s es ≡ next x
      → (v : Event) → last_tick 0 es ≤ v.tick → v.tick ≤ last_tick 0 es + 65535 → (q : Refusal) → Refuses g x v q
      → (rest : Bytes) → let r = record_of s es ++ (event_field v ++ rest) in length r ≤ longest_record
      → follow sheet r ≡ refused the_record q (length (record_of s es))
  -- "then 9, place 0, for a record over 65,536 bytes"
  pub too_long_lem : (sheet r : Bytes) (g : Program) (end : ℕ) → read_sheet sheet ≡ got g end → longest_record < length r → follow sheet r ≡ refused the_record too_long 0
  -- and nothing but the record of a run that leaves a state has refusal 0
  pub followed_run : (sheet r : Bytes) → (follow sheet r).refusal ≡ 0 → IsRunOf sheet r (follow sheet r)
  -- "A finished record of an accepted sheet ends inside its label."
  pub in_label : (sheet r : Bytes) → EndsInLabel sheet (follow sheet r)
  pub accepted_in_label : (sheet r : Bytes) (n : ℕ) → (answer sheet n).refusal ≡ 0 → T (follow sheet r).finished → InLabel sheet (follow sheet r).tick
  -- "the sheet's own number first", with its own place
  pub sheet_first : (sheet r : Bytes) (q : Refusal) (p : ℕ) → read_sheet sheet ≡ bad q p → follow sheet r ≡ refused the_sheet q p
  -- "Refused, naming sheet or record, unfinished at tick 0"; and where nothing is refused, the file is the sheet and the place 0
  pub refused_unfinished : (sheet r : Bytes) → ((follow sheet r).refusal ≡ 0 → ⊥) → ((follow sheet r).finished ≡ false) × ((follow sheet r).tick ≡ 0)
  pub run_file_and_place : (sheet r : Bytes) → (follow sheet r).refusal ≡ 0 → ((follow sheet r).file ≡ the_sheet) × ((follow sheet r).place ≡ 0)
  -- no other numbers are given: beside 0 of the sheet 1 to 9, of the record 1 to 5, 9, 10, 16 and 21
  pub sheet_numbers : (sheet r : Bytes) → (follow sheet r).file ≡ the_sheet → T (leb (follow sheet r).refusal 9)
  pub record_numbers : (sheet r : Bytes) → (follow sheet r).file ≡ the_record
      → let n = (follow sheet r).refusal in T (leb n 5 || (eqb n 9 || (eqb n 10 || (eqb n 16 || eqb n 21))))
