-- Changes and previews worked out by hand from the sentences of 02, ticket 7. All stand in one table, which carries one claim about the
-- rule.
use Rattle.std.specs.Prelude.{◌≡◌, List, [], ◌∷◌, ◌++◌, ℕ, ℤ, pos, take, drop, replicate}
use Rattle.rules.specs.Refusal.{Refusal, number, short, off_range, no_such_name, no_halt, too_long}
use Rattle.rules.specs.Format.{Bytes}
use Rattle.rules.specs.Search.{Answer, five}
use Rattle.rules.specs.Sheets.{header, locks, variable, thread, register, halt, skip, assign, branch, load, constant, reg, divide, always}
use Rattle.rules.specs.Worked.{A, B, B_with, C, E, F}
use Rattle.rules.specs.Edges.{routine, with_register, minus_1, lowest}
use Rattle.rules.specs.Runs.{divides}
use Rattle.retimed.specs.Retime.{from_to, no_change, change, preview_answer, Previewed, preview}

-- new times on a statement: thread and number, least and greatest
pub record Asked : Type 0 where
  pub thread : ℕ
  pub statement : ℕ
  pub least : ℕ
  pub greatest : ℕ

pub data Fact : Type 0 where
  -- a sheet in which the statement has these times, least and greatest, becomes another
  becomes : Bytes → Asked → ℕ → ℕ → Bytes → Fact
  -- the change is refused at a place
  refused : Bytes → Asked → Refusal → ℕ → Fact
  -- a sheet, with a copy buffer and a work buffer of these lengths, gives five numbers
  gives : Bytes → ℕ → ℕ → Asked → Answer → Fact
  -- a sheet, a copy buffer and a work buffer, and what a preview answers and leaves in them
  leaves : Bytes → Bytes → List ℤ → Asked → Previewed → Fact

abbrev pub Holds : Fact → Type 0
Holds (becomes s a least greatest new) =
    change s a.thread a.statement a.least a.greatest
    ≡ record { refusal = 0; place = 0; change = from_to a.thread a.statement least greatest a.least a.greatest; sheet = new }
Holds (refused s a r p) =
    change s a.thread a.statement a.least a.greatest ≡ record { refusal = number r; place = p; change = no_change; sheet = s }
Holds (gives s m n a x) = preview_answer s m n a.thread a.statement a.least a.greatest ≡ x
Holds (leaves s copy work a x) = preview s copy work a.thread a.statement a.least a.greatest ≡ x

abbrev pub ask : ℕ → ℕ → ℕ → ℕ → Asked
ask t k least greatest = record { thread = t; statement = k; least = least; greatest = greatest }

-- a number far past two bytes
abbrev pub huge : ℕ
huge = 18446744073709551615

-- a sheet with a variable, which its thread loads
abbrev pub loads : ℕ → ℕ → Bytes
loads least greatest = header 10 100 0 10 ++ locks 0 ++ variable 0 9 ++ thread 1 ++ register 0 0 ++ load least greatest 0 0 ++ halt

unfoldable pub rows : List Fact
rows =
    -- B's statement 0 stands at byte 27: its times are bytes 30 to 33, high byte first
    becomes B (ask 0 0 258 772) 2 3 (take 30 B ++ 1 ∷ 2 ∷ 3 ∷ 4 ∷ drop 34 B)
    ∷ becomes B (ask 0 0 2 5) 2 3 (take 33 B ++ 5 ∷ drop 34 B)
    -- the times that it has
    ∷ becomes B (ask 0 0 2 3) 2 3 B
    -- the last statement, and one of the second thread
    ∷ becomes B (ask 0 1 0 0) 0 0 B
    ∷ becomes C (ask 1 0 2 6) 2 3 (header 10 100 0 10 ++ locks 0 ++ thread 0 ++ skip 1 4 ++ halt ++ thread 0 ++ skip 2 6 ++ halt)
    -- "least at least 1, greatest at most 65,535": the edges
    ∷ becomes B (ask 0 0 1 1) 2 3 (take 30 B ++ 0 ∷ 1 ∷ 0 ∷ 1 ∷ drop 34 B)
    ∷ becomes B (ask 0 0 65535 65535) 2 3 (take 30 B ++ 255 ∷ 255 ∷ 255 ∷ 255 ∷ drop 34 B)
    ∷ refused B (ask 0 0 0 0) off_range 0
    ∷ refused B (ask 0 0 0 1) off_range 0
    ∷ refused B (ask 0 0 3 2) off_range 0
    ∷ refused B (ask 0 0 1 65536) off_range 0
    ∷ refused B (ask 0 0 65536 65536) off_range 0
    ∷ refused B (ask 0 0 2 huge) off_range 0
    -- "Halt has times 0 and 0"
    ∷ refused B (ask 0 1 0 1) off_range 0
    ∷ refused B (ask 0 1 1 1) off_range 0
    ∷ refused B (ask 0 1 1 0) off_range 0
    -- also where it is not the last statement
    ∷ becomes (routine 0 (halt ++ halt)) (ask 0 0 0 0) 0 0 (routine 0 (halt ++ halt))
    ∷ refused (routine 0 (halt ++ halt)) (ask 0 0 1 1) off_range 0
    -- a sheet with a variable
    ∷ becomes (loads 1 1) (ask 0 0 2 3) 1 1 (loads 2 3)
    -- no such statement, no such thread; 5 before 4
    ∷ refused B (ask 0 2 2 5) no_such_name 0
    ∷ refused B (ask 1 0 2 5) no_such_name 0
    ∷ refused B (ask huge huge 2 5) no_such_name 0
    ∷ refused C (ask 1 2 2 5) no_such_name 0
    ∷ refused B (ask 0 2 0 0) no_such_name 0
    -- the sheet's own number first, with its own place: also 4 and 5, and times that would mend the sheet
    ∷ refused (take 42 B) (ask 0 0 2 5) short 35
    ∷ refused (take 42 B) (ask 9 9 0 0) short 35
    ∷ refused (take 35 B) (ask 0 0 2 5) no_halt 27
    ∷ refused [] (ask 0 0 2 5) short 0
    ∷ refused (replicate 16385 0) (ask 0 0 2 5) too_long 0
    ∷ refused (routine 0 (skip 0 1 ++ halt)) (ask 0 0 2 5) off_range 27
    ∷ refused (routine 0 (branch 1 1 2 always ++ halt)) (ask 9 9 0 0) no_such_name 27
    -- what the search then gives: a window in the label, and one that is not; 12, 13, 14
    ∷ gives B 43 12000 (ask 0 0 2 2) (five 0 0 2 2 2)
    ∷ gives B 43 12000 (ask 0 0 2 3) (five 0 0 2 2 3)
    ∷ gives B 43 12000 (ask 0 0 2 5) (five 15 0 2 2 5)
    ∷ gives B 43 12000 (ask 0 0 2 11) (five 12 0 1 0 0)
    ∷ gives (B_with 10 1 2 3) 43 12000 (ask 0 0 2 2) (five 13 0 1 0 0)
    ∷ gives B 43 99 (ask 0 0 2 5) (five 14 0 0 0 0)
    ∷ gives A 35 12000 (ask 0 0 0 0) (five 0 0 1 0 0)
    ∷ gives C 63 12000 (ask 1 0 2 6) (five 0 0 5 2 6)
    ∷ gives C 63 199 (ask 1 0 2 6) (five 14 0 1 0 0)
    ∷ gives F 71 12000 (ask 0 1 3 3) (five 0 0 4 1 4)
    ∷ gives (loads 1 1) 67 12000 (ask 0 0 2 3) (five 0 0 2 2 3)
    -- 10, 16 and 11, with the search's place and steps
    ∷ gives divides 63 12000 (ask 0 0 1 2) (five 10 38 1 0 0)
    ∷ gives (with_register minus_1 minus_1 (assign 1 1 0 (divide (constant lowest) (reg 0)) ++ halt)) 63 12000 (ask 0 0 1 2) (five 16 38 1 0 0)
    ∷ gives E 83 12000 (ask 0 1 3 3) (five 11 0 3 0 0)
    -- a longer copy buffer; one that is a byte short: 19, before 5 and 4
    ∷ gives B 100 12000 (ask 0 0 2 5) (five 15 0 2 2 5)
    ∷ gives B 42 12000 (ask 0 0 2 5) (five 19 0 0 0 0)
    ∷ gives B 42 12000 (ask 0 2 2 5) (five 19 0 0 0 0)
    ∷ gives B 42 12000 (ask 0 0 0 0) (five 19 0 0 0 0)
    ∷ gives B 0 0 (ask 0 0 2 5) (five 19 0 0 0 0)
    -- 5 before 4, and both before 14
    ∷ gives B 43 0 (ask 1 0 0 0) (five 5 0 0 0 0)
    ∷ gives B 43 0 (ask 0 0 0 0) (five 4 0 0 0 0)
    -- the sheet's own number before 19
    ∷ gives (take 42 B) 0 0 (ask 0 0 2 5) (five 1 35 0 0 0)
    ∷ gives (take 42 B) 0 0 (ask 9 9 0 0) (five 1 35 0 0 0)
    ∷ gives (routine 0 (skip 0 1 ++ halt)) 0 0 (ask 0 0 2 5) (five 4 27 0 0 0)
    -- what is left in all that was lent, refused or not: the sheet as it was, both buffers zeros to their ends
    ∷ leaves B (7 ∷ 8 ∷ []) (pos 9 ∷ []) (ask 0 0 2 5) (record { answer = five 19 0 0 0 0; sheet = B; copy = 0 ∷ 0 ∷ []; work = pos 0 ∷ [] })
    ∷ leaves A (replicate 40 7) (replicate 100 (pos 9)) (ask 0 0 0 0)
    (record { answer = five 0 0 1 0 0; sheet = A; copy = replicate 40 0; work = replicate 100 (pos 0) })
    ∷ []
