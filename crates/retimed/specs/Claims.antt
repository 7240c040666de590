-- What is claimed of new times (02, ticket 7) beside what the calls promise of one sheet.
use Rattle.std.specs.Prelude.{◌≡◌, false, ℕ, ◌+◌, ◌≤◌, ◌<◌, T, length}
use Rattle.rules.specs.Base.{Each}
use Rattle.rules.specs.Refusal.{Refusal, number, no_such_name, off_range, output_full}
use Rattle.rules.specs.Program.{Program}
use Rattle.rules.specs.Format.{Bytes, AreBytes, bad, got, byte, num16, read_sheet}
use Rattle.rules.specs.Search.{Answer, five, answer}
use Rattle.rules.specs.Demands.{WindowInside, OfSearch, HoldsOfSheet}
use Rattle.reader.specs.Facts.{statement_in}
use Rattle.retimed.specs.Retime.{retimed, is_statement, may_have, did, no_change, change, retime, preview_answer}
use Rattle.retimed.specs.Worked.{rows, Holds}

-- a sheet that was changed reads as the same program with those times
abbrev pub ReadsRetimed : Bytes → ℕ → ℕ → ℕ → ℕ → Type 0
ReadsRetimed s t k least greatest =
    (change s t k least greatest).refusal ≡ 0
    → (g : Program) (e : ℕ) → read_sheet s ≡ got g e → read_sheet (change s t k least greatest).sheet ≡ got (retime g t k least greatest) e

-- of the changed sheet demand 3 holds, and its runs finish inside the label and inside the window that was shown
pub record HoldsRetimed (s : Bytes) (t k least greatest : ℕ) (shown : Answer) : Type 0 where
  pub holds : HoldsOfSheet (change s t k least greatest).sheet
  pub window : WindowInside (change s t k least greatest).sheet shown

-- ---- a sheet that reads as g, and a change that is not refused: s becomes new, p is the statement's place

pub record Made (s new : Bytes) (g : Program) (e t k least greatest p : ℕ) : Type 0 where
  -- "the old and new times with thread and statement number" (ticket 8)
  pub answered : change s t k least greatest ≡ record { refusal = 0; place = 0; change = did t k (statement_in g t k) least greatest; sheet = new }
  pub reads : read_sheet new ≡ got (retime g t k least greatest) e
  -- "The change writes the four time bytes in the sheet and no other byte."
  pub four_inside : p + 7 ≤ length s
  pub least_written : num16 new (p + 3) ≡ least
  pub greatest_written : num16 new (p + 5) ≡ greatest
  pub before_them : (j : ℕ) → j < p + 3 → byte new j ≡ byte s j
  pub behind_them : (j : ℕ) → p + 7 ≤ j → byte new j ≡ byte s j
  pub as_long : length new ≡ length s
  pub are_bytes : AreBytes new
  -- "The preview answers exactly as changing a copy [..] and running the search would": with any copy buffer that has room
  pub previewed : (m n : ℕ) → length s ≤ m → preview_answer s m n t k least greatest ≡ answer new n
  -- and none of 1 to 9 can come of it: 0, or one of the search's numbers
  pub of_search : (n : ℕ) → OfSearch (answer new n).refusal

-- ---- one that is refused

-- the change answers r at place 0, with zeros, and leaves the sheet; the preview answers the same, where its copy buffer has room
pub record Refused (s : Bytes) (t k least greatest : ℕ) (r : Refusal) : Type 0 where
  pub answered : change s t k least greatest ≡ record { refusal = number r; place = 0; change = no_change; sheet = s }
  pub previewed : (m n : ℕ) → length s ≤ m → preview_answer s m n t k least greatest ≡ five (number r) 0 0 0 0

-- of a sheet that does not read, whatever else is wrong
pub record Unread (s : Bytes) (t k least greatest : ℕ) (r : Refusal) (p : ℕ) : Type 0 where
  pub answered : change s t k least greatest ≡ record { refusal = number r; place = p; change = no_change; sheet = s }
  pub previewed : (m n : ℕ) → preview_answer s m n t k least greatest ≡ five (number r) p 0 0 0
  pub of_reader : (1 ≤ number r) × (number r ≤ 9)

pub record RetimeClaims : Type 0 where
  pub rows_hold : Each Holds rows
  -- "the sheet's own number from 1 to 9" comes first
  pub unread : (s : Bytes) (t k least greatest : ℕ) (r : Refusal) (p : ℕ) → read_sheet s ≡ bad r p → Unread s t k least greatest r p
  -- "then 19 for a short copy buffer"
  pub full : (s : Bytes) (m n t k least greatest : ℕ) (g : Program) (e : ℕ) → read_sheet s ≡ got g e → m < length s
      → preview_answer s m n t k least greatest ≡ five (number output_full) 0 0 0 0
  -- "then 5 for no such statement"
  pub absent : (s : Bytes) (t k least greatest : ℕ) (g : Program) (e : ℕ) → read_sheet s ≡ got g e → is_statement g t k ≡ false
      → Refused s t k least greatest no_such_name
  -- "then 4 for times that statement may not have"
  pub off_range_lem : (s : Bytes) (t k least greatest : ℕ) (g : Program) (e : ℕ) → read_sheet s ≡ got g e → T (is_statement g t k)
      → may_have (statement_in g t k) least greatest ≡ false → Refused s t k least greatest off_range
  -- otherwise the change is made
  pub made : (s : Bytes) → AreBytes s → (t k least greatest : ℕ) (g : Program) (e : ℕ) → read_sheet s ≡ got g e → T (is_statement g t k)
      → T (may_have (statement_in g t k) least greatest)
      → Made s (retimed s (statement_in g t k).place least greatest) g e t k least greatest (statement_in g t k).place
  -- the times that a statement has may be given it again, and the sheet stays the same
  pub same_again : (s : Bytes) → AreBytes s → (t k : ℕ) (g : Program) (e : ℕ) → read_sheet s ≡ got g e → T (is_statement g t k)
      → change s t k (statement_in g t k).least (statement_in g t k).greatest
      ≡ record { refusal = 0; place = 0; change = did t k (statement_in g t k) (statement_in g t k).least (statement_in g t k).greatest; sheet = s }
  -- an accepted preview
  pub accepted_holds : (s : Bytes) (m n t k least greatest : ℕ) → (preview_answer s m n t k least greatest).refusal ≡ 0
      → HoldsRetimed s t k least greatest (preview_answer s m n t k least greatest)
