-- Changes taken back, worked out by hand from the sentences of 02, ticket 8. All stand in one table, which carries one claim about the
-- rule.
use Rattle.std.specs.Prelude.{◌≡◌, List, [], ◌∷◌, ◌++◌, ℕ, take, drop, replicate}
use Rattle.rules.specs.Refusal.{Refusal, number, short, off_range, no_such_name, no_halt, too_long, changed_since}
use Rattle.rules.specs.Format.{Bytes}
use Rattle.rules.specs.Sheets.{header, locks, thread, halt, skip, branch, always}
use Rattle.rules.specs.Worked.{A, B, B_with, C}
use Rattle.rules.specs.Edges.{routine}
use Rattle.retimed.specs.Retime.{Change, from_to, no_change}
use Rattle.retimed.specs.TakeBack.{take_back, Changes, take_all_back}
use Rattle.retimed.specs.Worked.{huge}

pub data Fact : Type 0 where
  -- taken back in a sheet, which becomes another
  becomes : Bytes → Change → Bytes → Fact
  -- refused at a place; the sheet stays
  refused : Bytes → Change → Refusal → ℕ → Fact
  -- a sheet becomes another by changes, the last of them first
  history : Bytes → List Change → Bytes → Fact
  -- several, one after another, and what the sheet then is
  restores : Bytes → List Change → Bytes → Fact
  -- one of several is refused at a place, in a sheet that some were taken back in
  stops : Bytes → List Change → Refusal → ℕ → Bytes → Fact

abbrev pub Holds : Fact → Type 0
Holds (becomes s c new) = take_back s c ≡ record { refusal = 0; place = 0; sheet = new }
Holds (refused s c r p) = take_back s c ≡ record { refusal = number r; place = p; sheet = s }
Holds (history s cs now) = Changes s cs now
Holds (restores s cs new) = take_all_back cs s ≡ record { refusal = 0; place = 0; sheet = new }
Holds (stops s cs r p new) = take_all_back cs s ≡ record { refusal = number r; place = p; sheet = new }

-- B with other times on its statement 0, which has 2..3: bytes 31 and 33 are their low bytes
abbrev pub B_timed : ℕ → ℕ → Bytes
B_timed least greatest = take 30 B ++ 0 ∷ least ∷ 0 ∷ greatest ∷ drop 34 B

-- C with other times on the first statement of both threads, which have 1..4 and 2..3
abbrev pub C_timed : ℕ → ℕ → ℕ → ℕ → Bytes
C_timed a b c d = header 10 100 0 10 ++ locks 0 ++ thread 0 ++ skip a b ++ halt ++ thread 0 ++ skip c d ++ halt

unfoldable pub rows : List Fact
rows =
    -- "restores the sheet to the very bytes before"
    becomes (B_timed 2 5) (from_to 0 0 2 3 2 5) B
    ∷ becomes (take 30 B ++ 1 ∷ 2 ∷ 3 ∷ 4 ∷ drop 34 B) (from_to 0 0 2 3 258 772) B
    ∷ becomes B (from_to 0 0 258 772 2 3) (take 30 B ++ 1 ∷ 2 ∷ 3 ∷ 4 ∷ drop 34 B)
    ∷ becomes (C_timed 1 4 2 6) (from_to 1 0 2 3 2 6) C
    -- the times that it had already, also of a halt
    ∷ becomes B (from_to 0 0 2 3 2 3) B
    ∷ becomes B (from_to 0 1 0 0 0 0) B
    -- what else was written is not looked at, where the sheet reads and shows the new times
    ∷ becomes (B_with 9 100 0 9) (from_to 0 0 2 2 2 3) (take 33 (B_with 9 100 0 9) ++ 2 ∷ drop 34 (B_with 9 100 0 9))
    -- "5 for no such statement", before 4 and before 18
    ∷ refused B (from_to 0 2 2 3 2 5) no_such_name 0
    ∷ refused B (from_to 1 0 2 3 2 5) no_such_name 0
    ∷ refused B (from_to huge huge 2 3 2 3) no_such_name 0
    ∷ refused C (from_to 1 2 2 3 2 3) no_such_name 0
    ∷ refused B (from_to 0 2 0 0 2 3) no_such_name 0
    ∷ refused B (from_to 1 0 0 0 9 9) no_such_name 0
    -- "4 for old times it may not have"
    ∷ refused (B_timed 2 5) (from_to 0 0 0 0 2 5) off_range 0
    ∷ refused (B_timed 2 5) (from_to 0 0 0 3 2 5) off_range 0
    ∷ refused (B_timed 2 5) (from_to 0 0 3 2 2 5) off_range 0
    ∷ refused (B_timed 2 5) (from_to 0 0 2 65536 2 5) off_range 0
    ∷ refused (B_timed 2 5) (from_to 0 0 65536 65536 2 5) off_range 0
    ∷ refused (B_timed 2 5) (from_to 0 0 2 huge 2 5) off_range 0
    ∷ refused B (from_to 0 1 1 1 0 0) off_range 0
    -- before 18
    ∷ refused B (from_to 0 0 0 0 9 9) off_range 0
    ∷ refused B (from_to 0 0 3 2 2 5) off_range 0
    ∷ refused B (from_to 0 1 1 1 2 2) off_range 0
    -- "18 changed since": the least time, the greatest, or both are others
    ∷ refused B (from_to 0 0 2 3 2 5) changed_since 0
    ∷ refused B (from_to 0 0 2 3 1 3) changed_since 0
    ∷ refused B (from_to 0 0 1 1 7 8) changed_since 0
    ∷ refused B (from_to 0 0 2 3 3 2) changed_since 0
    -- new times are only compared: also such as no statement may have
    ∷ refused B (from_to 0 0 2 3 0 0) changed_since 0
    ∷ refused B (from_to 0 0 2 3 2 65539) changed_since 0
    ∷ refused B (from_to 0 0 2 3 65538 65539) changed_since 0
    ∷ refused B (from_to 0 0 2 3 huge huge) changed_since 0
    ∷ refused B (from_to 0 1 0 0 1 1) changed_since 0
    -- the zeros of a refused change: 4, or a halt that has them
    ∷ refused B no_change off_range 0
    ∷ becomes A no_change A
    -- "the sheet's own number" first, with its own place: also where the old times would mend the sheet
    ∷ refused (take 42 B) (from_to 0 0 2 3 2 3) short 35
    ∷ refused (take 42 B) (from_to 9 9 0 0 9 9) short 35
    ∷ refused (take 35 B) (from_to 0 0 2 3 2 3) no_halt 27
    ∷ refused [] no_change short 0
    ∷ refused (replicate 16385 0) no_change too_long 0
    ∷ refused (routine 0 (skip 0 1 ++ halt)) (from_to 0 0 1 1 0 1) off_range 27
    ∷ refused (routine 0 (branch 1 1 2 always ++ halt)) (from_to 0 0 1 1 1 1) no_such_name 27
    -- several, the last first, also where two name one statement
    ∷ history B (from_to 0 0 2 5 1 6 ∷ from_to 0 0 2 3 2 5 ∷ []) (B_timed 1 6)
    ∷ restores (B_timed 1 6) (from_to 0 0 2 5 1 6 ∷ from_to 0 0 2 3 2 5 ∷ []) B
    ∷ history B (from_to 0 0 2 5 2 3 ∷ from_to 0 0 2 3 2 5 ∷ []) B
    ∷ restores B (from_to 0 0 2 5 2 3 ∷ from_to 0 0 2 3 2 5 ∷ []) B
    ∷ history C (from_to 1 0 2 3 2 6 ∷ from_to 0 0 1 4 1 5 ∷ []) (C_timed 1 5 2 6)
    ∷ restores (C_timed 1 5 2 6) (from_to 1 0 2 3 2 6 ∷ from_to 0 0 1 4 1 5 ∷ []) C
    -- in another order: one statement, then two
    ∷ stops (B_timed 1 6) (from_to 0 0 2 3 2 5 ∷ from_to 0 0 2 5 1 6 ∷ []) changed_since 0 (B_timed 1 6)
    ∷ restores (C_timed 1 5 2 6) (from_to 0 0 1 4 1 5 ∷ from_to 1 0 2 3 2 6 ∷ []) C
    -- one of them twice, and one left out
    ∷ stops (B_timed 1 6) (from_to 0 0 2 5 1 6 ∷ from_to 0 0 2 5 1 6 ∷ []) changed_since 0 (B_timed 2 5)
    ∷ stops (C_timed 1 7 2 6) (from_to 1 0 2 3 2 6 ∷ from_to 0 0 1 4 1 5 ∷ []) changed_since 0 (C_timed 1 7 2 3)
    ∷ restores C [] C
    ∷ []
