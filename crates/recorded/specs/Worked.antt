-- Records worked out by hand from the sentences of 02, ticket 9. All stand in one table, which carries one claim about the rule.
use Rattle.std.specs.Prelude.{◌≡◌, Bool, true, false, List, [], ◌∷◌, ◌++◌, ℕ, pos, negsuc, take, replicate}
use Rattle.rules.specs.Base.{Each}
use Rattle.rules.specs.Refusal.{Refusal, short, out_of_turn, bad_length, off_range, no_such_name, too_long, no_reading, off_scale, not_run}
use Rattle.rules.specs.Format.{Bytes}
use Rattle.rules.specs.Encoding.{two, field}
use Rattle.rules.specs.Sheets.{header, locks, variable, thread, register, halt, skip, assign, branch, load, constant, reg, plus, divide, less, store}
use Rattle.rules.specs.Worked.{A, B, B_with, C, D, E, F}
use Rattle.rules.specs.Edges.{with_register, lowest}
use Rattle.rules.specs.Runs.{divides, relocks}
use Rattle.recorded.specs.Follow.{the_sheet, the_record, Answer, leaves, refused, follow}
use Rattle.recorded.specs.Recorder.{value_field, event_field}

-- a sheet, a record and the answer
pub record Row : Type 0 where
  pub sheet : Bytes
  pub recorded : Bytes
  pub answer : Answer

abbrev pub Holds : Row → Type 0
Holds x = follow x.sheet x.recorded ≡ x.answer

-- an event's field, by thread and full tick; and by thread and the recorder's clock
abbrev pub at_tick : ℕ → ℕ → Bytes
at_tick t e = event_field (record { thread = t; tick = e })

abbrev pub clocked : ℕ → ℕ → Bytes
clocked t c = field 33 (t ∷ two c)

-- the field of a starting value, 0 or above
abbrev pub from : ℕ → Bytes
from n = value_field (pos n)

-- a run, finished or not, with its last tick; or a refusal in the record, or in the sheet, at a place
abbrev pub is_run : Bytes → Bytes → Bool → ℕ → Row
is_run s r done e = record { sheet = s; recorded = r; answer = leaves done e }

abbrev pub gives : Bytes → Bytes → Refusal → ℕ → Row
gives s r q p = record { sheet = s; recorded = r; answer = refused the_record q p }

abbrev pub sheet_gives : Bytes → Bytes → Refusal → ℕ → Row
sheet_gives s r q p = record { sheet = s; recorded = r; answer = refused the_sheet q p }

-- ---- sheets besides 01's

-- three statements of up to 65,535 ticks
abbrev pub long : Bytes
long = header 1000000 100 0 1000000 ++ locks 0 ++ thread 0 ++ skip 1 65535 ++ skip 1 65535 ++ skip 1 65535 ++ halt

-- two variables, a register of thread 0 and two of thread 1, no two ranges alike
abbrev pub ranges : Bytes
ranges =
    header 10 100 0 10 ++ locks 0 ++ variable 0 9 ++ variable 10 19
    ++ thread 1 ++ register 20 29 ++ skip 1 1 ++ halt
    ++ thread 2 ++ register 30 39 ++ register 40 49 ++ skip 1 1 ++ halt

-- F with the value that is compared loaded from a variable
abbrev pub loads : Bytes
loads = header 12 100 0 12 ++ locks 0 ++ variable 0 9 ++ thread 1 ++ register 0 0 ++ load 1 1 0 0 ++ branch 1 1 3 (less (reg 0) (constant 5)) ++ skip 10 10 ++ halt

-- thread 0 stores its 5, thread 1 loads it behind that and compares as F does
abbrev pub stores : Bytes
stores =
    header 20 100 0 20 ++ locks 0 ++ variable 0 9
    ++ thread 1 ++ register 5 5 ++ store 1 1 0 0 ++ halt
    ++ thread 1 ++ register 0 0 ++ load 2 2 0 0 ++ branch 1 1 3 (less (reg 0) (constant 5)) ++ skip 10 10 ++ halt

-- two threads, each with two statements of up to 65,535 ticks
abbrev pub long_beside : Bytes
long_beside = header 1000000 100 0 1000000 ++ locks 0 ++ thread 0 ++ skip 1 65535 ++ skip 1 65535 ++ halt ++ thread 0 ++ skip 1 65535 ++ skip 1 65535 ++ halt

-- the highest value plus register 0; the lowest value by register 0; an if on the highest value plus 1
abbrev pub adds : Bytes
adds = with_register 0 1 (assign 1 1 0 (plus (constant 2147483647) (reg 0)) ++ halt)

abbrev pub by_register : Bytes
by_register = with_register lowest 2147483647 (assign 1 1 0 (divide (constant lowest) (reg 0)) ++ halt)

abbrev pub compares : Bytes
compares = with_register 0 0 (branch 1 1 1 (less (plus (constant 2147483647) (constant 1)) (divide (constant 1) (constant 0))) ++ halt)

unfoldable pub rows : List Row
rows =
    -- no event: "The empty list is a run", finished where all stand at halt, at tick 0
    is_run B [] false 0
    ∷ is_run A [] true 0
    -- B's one statement takes 2 or 3 ticks
    ∷ is_run B (at_tick 0 2) true 2
    ∷ is_run B (at_tick 0 3) true 3
    ∷ gives B (at_tick 0 1) not_run 0
    ∷ gives B (at_tick 0 4) not_run 0
    -- an event after the finish, at its place; what stands behind a refused event is not looked at
    ∷ gives B (at_tick 0 2 ++ at_tick 0 4) not_run 6
    ∷ gives A (at_tick 0 1) not_run 0
    ∷ gives B (at_tick 0 1 ++ 0 ∷ []) not_run 0
    -- no such thread, also at a tick at which no thread has an event
    ∷ gives B (at_tick 1 2) no_such_name 0
    ∷ gives B (at_tick 255 9) no_such_name 0
    ∷ gives B (at_tick 0 2 ++ at_tick 1 9) no_such_name 6
    -- C: two ends at one tick come in either order; 4 is reached once the other has halted; before both have ended it is unfinished
    ∷ is_run C (at_tick 0 3 ++ at_tick 1 3) true 3
    ∷ is_run C (at_tick 1 3 ++ at_tick 0 3) true 3
    ∷ is_run C (at_tick 1 2 ++ at_tick 0 4) true 4
    ∷ is_run C (at_tick 1 3) false 3
    -- a live thread is left behind; a clock goes back, which is a gap of 65,535; a thread that has halted, while the other lives
    ∷ gives C (at_tick 0 4) not_run 0
    ∷ gives C (at_tick 1 3 ++ at_tick 0 2) not_run 6
    ∷ gives C (at_tick 1 3 ++ at_tick 1 4) not_run 6
    -- D: at tick 2 the lock is freed, then taken; or tried first, which fails and is an event of its own; E: locks that never come free
    ∷ is_run D (at_tick 0 1 ++ at_tick 1 1 ++ at_tick 0 2 ++ at_tick 1 2 ++ at_tick 1 3) true 3
    ∷ is_run D (at_tick 0 1 ++ at_tick 1 1 ++ at_tick 1 2 ++ at_tick 0 2 ++ at_tick 1 3 ++ at_tick 1 4) true 4
    ∷ gives D (at_tick 0 1 ++ at_tick 1 1 ++ at_tick 1 2 ++ at_tick 0 2 ++ at_tick 1 3 ++ at_tick 1 3) not_run 30
    ∷ is_run E (at_tick 0 1 ++ at_tick 1 1 ++ at_tick 0 2 ++ at_tick 1 2) false 2
    -- a lock taken twice by its owner and freed once; between, another thread's unlock of it only moves on
    ∷ is_run relocks (at_tick 0 1 ++ at_tick 1 1 ++ at_tick 0 2 ++ at_tick 0 3) true 3
    -- the recorder's clock starts over twice: ticks 60000, 120000 and 185535, the last two 65,535 apart; and always 65,535 apart
    ∷ is_run long (at_tick 0 60000 ++ at_tick 0 120000 ++ at_tick 0 185535) true 185535
    ∷ is_run long (clocked 0 60000 ++ clocked 0 54464 ++ clocked 0 54463) true 185535
    ∷ is_run long (clocked 0 65535 ++ clocked 0 65534 ++ clocked 0 65533) true 196605
    -- it starts over between the events of two threads
    ∷ is_run long_beside (at_tick 0 60000 ++ at_tick 1 65000 ++ at_tick 0 66000 ++ at_tick 1 130000) true 130000
    -- the clock at 0 is tick 65536; the same clock again is the same tick, at which the thread has no event
    ∷ is_run long (clocked 0 60000 ++ clocked 0 0) false 65536
    ∷ gives long (clocked 0 0) not_run 0
    ∷ gives long (clocked 0 60000 ++ clocked 0 60000) not_run 6
    -- F: below 5 the if jumps to halt, else ten ticks more
    ∷ is_run F (from 0 ++ at_tick 0 1) true 1
    ∷ is_run F (from 4 ++ at_tick 0 1) true 1
    ∷ is_run F (from 5 ++ at_tick 0 1) false 1
    ∷ is_run F (from 5 ++ at_tick 0 1 ++ at_tick 0 11) true 11
    ∷ is_run F (from 9 ++ at_tick 0 1 ++ at_tick 0 11) true 11
    ∷ is_run F (from 9) false 0
    ∷ gives F (from 4 ++ at_tick 0 1 ++ at_tick 0 11) not_run 13
    -- a starting value outside its range
    ∷ gives F (value_field (negsuc 0) ++ at_tick 0 1) off_range 0
    ∷ gives F (from 10 ++ at_tick 0 1) off_range 0
    -- a starting value is missing; an event stands where a value is due, and a value where an event is; or no value is due at all
    ∷ gives F [] short 0
    ∷ gives F (at_tick 0 1) out_of_turn 0
    ∷ gives F (from 4 ++ at_tick 0 1 ++ from 4) out_of_turn 13
    ∷ gives F (from 4 ++ from 4) out_of_turn 7
    ∷ gives B (from 0) out_of_turn 0
    -- "in sheet order": variables, then thread 0's registers, then thread 1's, each in its own range
    ∷ is_run ranges (from 0 ++ from 10 ++ from 20 ++ from 30 ++ from 40) false 0
    ∷ is_run ranges (from 9 ++ from 19 ++ from 29 ++ from 39 ++ from 49 ++ at_tick 1 1 ++ at_tick 0 1) true 1
    ∷ gives ranges (from 10 ++ from 0 ++ from 20 ++ from 30 ++ from 40) off_range 0
    ∷ gives ranges (from 0 ++ from 20 ++ from 10 ++ from 30 ++ from 40) off_range 7
    ∷ gives ranges (from 0 ++ from 10 ++ from 30 ++ from 20 ++ from 40) off_range 14
    ∷ gives ranges (from 0 ++ from 10 ++ from 20 ++ from 40 ++ from 30) off_range 21
    ∷ gives ranges (from 0) short 7
    ∷ gives ranges (from 0 ++ from 10 ++ from 20) short 21
    ∷ gives ranges (from 0 ++ from 10 ++ from 20 ++ from 30 ++ at_tick 0 1) out_of_turn 28
    -- a variable's starting value is the variable's
    ∷ is_run loads (from 4 ++ from 0 ++ at_tick 0 1 ++ at_tick 0 2) true 2
    ∷ is_run loads (from 5 ++ from 0 ++ at_tick 0 1 ++ at_tick 0 2 ++ at_tick 0 12) true 12
    -- and what a thread stores the other loads; below 5 it would have jumped to halt
    ∷ is_run stores (from 0 ++ from 5 ++ from 0 ++ at_tick 0 1 ++ at_tick 1 2 ++ at_tick 1 3) false 3
    ∷ is_run stores (from 0 ++ from 5 ++ from 0 ++ at_tick 0 1 ++ at_tick 1 2 ++ at_tick 1 3 ++ at_tick 1 13) true 13
    -- "10 or 16 for arithmetic without a result", at the event, whatever stands behind it
    ∷ gives divides (from 0 ++ at_tick 0 1) no_reading 7
    ∷ gives divides (from 0 ++ at_tick 0 1 ++ at_tick 0 2) no_reading 7
    ∷ is_run divides (from 4 ++ at_tick 0 1) true 1
    ∷ gives adds (from 1 ++ at_tick 0 1) off_scale 7
    ∷ is_run adds (from 0 ++ at_tick 0 1) true 1
    ∷ gives by_register (value_field (negsuc 0) ++ at_tick 0 1) off_scale 7
    ∷ gives by_register (from 0 ++ at_tick 0 1) no_reading 7
    ∷ is_run by_register (value_field (negsuc 2147483647) ++ at_tick 0 1) true 1
    ∷ gives compares (from 0 ++ at_tick 0 1) off_scale 7
    -- 21 comes before 10 and 16, and 5 before 21
    ∷ gives divides (from 0 ++ at_tick 0 2) not_run 7
    ∷ gives adds (from 1 ++ at_tick 0 2) not_run 7
    ∷ gives divides (from 0 ++ at_tick 1 2) no_such_name 7
    -- 1, 2 and 3 as in 01: the header is short, then the tag, then the body is short, then the length; of events
    ∷ gives B (0 ∷ 0 ∷ []) short 0
    ∷ gives B (at_tick 0 2 ++ 33 ∷ []) short 6
    ∷ gives B (32 ∷ 0 ∷ 9 ∷ []) out_of_turn 0
    ∷ gives B (33 ∷ 0 ∷ 4 ∷ 0 ∷ 0 ∷ 2 ∷ []) short 0
    ∷ gives B (33 ∷ 3 ∷ 0 ∷ 0 ∷ 0 ∷ 2 ∷ []) short 0
    ∷ gives B (field 33 (0 ∷ 2 ∷ [])) bad_length 0
    ∷ gives B (field 33 (0 ∷ 0 ∷ 2 ∷ 0 ∷ [])) bad_length 0
    -- and of starting values, the length before the range
    ∷ gives F (0 ∷ 0 ∷ []) short 0
    ∷ gives F (33 ∷ 0 ∷ 9 ∷ []) out_of_turn 0
    ∷ gives F (32 ∷ 0 ∷ 5 ∷ 0 ∷ 0 ∷ 0 ∷ 4 ∷ []) short 0
    ∷ gives F (field 32 (255 ∷ 255 ∷ 255 ∷ [])) bad_length 0
    ∷ gives F (field 32 (0 ∷ 0 ∷ 0 ∷ 0 ∷ 4 ∷ [])) bad_length 0
    -- "the sheet's own number first", whatever the record, also one that is too long
    ∷ sheet_gives (take 42 B) (at_tick 0 2) short 35
    ∷ sheet_gives (take 42 B) (0 ∷ []) short 35
    ∷ sheet_gives (take 42 B) (replicate 65537 0) short 35
    ∷ sheet_gives [] [] short 0
    -- "then 9, place 0, for a record over 65,536 bytes"
    ∷ gives B (replicate 65537 33) too_long 0
    ∷ gives F (from 10 ++ replicate 65530 0) too_long 0
    ∷ gives B (at_tick 0 2 ++ replicate 65530 0) out_of_turn 6
    -- the limit, the budget and the label are no rules of runs
    ∷ is_run (B_with 2 1 0 2) (at_tick 0 3) true 3
    ∷ []

-- the claim: each of them holds
abbrev pub RowsHold : Type 0
RowsHold = Each Holds rows
