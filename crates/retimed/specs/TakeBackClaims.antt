-- What is claimed of changes taken back (02, ticket 8) beside what the call promises of one sheet.
use Rattle.std.specs.Prelude.{◌≡◌, false, List, ℕ, ◌≤◌, T}
use Rattle.rules.specs.Base.{Each}
use Rattle.rules.specs.Refusal.{Refusal, number, no_such_name, off_range, changed_since}
use Rattle.rules.specs.Program.{Program}
use Rattle.rules.specs.Format.{Bytes, AreBytes, bad, got, read_sheet}
use Rattle.reader.specs.Facts.{statement_in}
use Rattle.retimed.specs.Retime.{is_statement, may_have, Change, change}
use Rattle.retimed.specs.TakeBack.{shows, TakenBack, take_back, Changes, take_all_back}
use Rattle.retimed.specs.TakeBackWorked.{rows, Holds}

-- the answer of a taking back that is made, the sheet then being s
abbrev pub restored : Bytes → TakenBack
restored s = record { refusal = 0; place = 0; sheet = s }

-- one that is refused: "nothing is written"
abbrev pub refused_at : Bytes → Refusal → ℕ → TakenBack
refused_at s r p = record { refusal = number r; place = p; sheet = s }

-- ---- cited by the promises of the calls

-- "taking back restores the sheet to the very bytes before, where nothing else was written in it since"
abbrev pub ComesBack : Bytes → ℕ → ℕ → ℕ → ℕ → Type 0
ComesBack s t k least greatest =
    (change s t k least greatest).refusal ≡ 0 → take_back (change s t k least greatest).sheet (change s t k least greatest).change ≡ restored s

-- "Several changes with nothing else written between, taken back last first, restore the first sheet, also when two name one statement":
-- whatever sheet s became now by whatever changes
abbrev pub AllComeBack : Bytes → Type 0
AllComeBack now = (s : Bytes) → AreBytes s → (cs : List Change) → Changes s cs now → take_all_back cs now ≡ restored s

-- ---- the claims

-- a taking back that is made writes as the change to the old times would, of which `Claims` says more
pub record Taken (s : Bytes) (c : Change) : Type 0 where
  pub made : (change s c.thread c.statement c.old_least c.old_greatest).refusal ≡ 0
  pub answered : take_back s c ≡ restored (change s c.thread c.statement c.old_least c.old_greatest).sheet

pub record TakeBackClaims : Type 0 where
  pub rows_hold : Each Holds rows
  pub comes_back : (s : Bytes) → AreBytes s → (t k least greatest : ℕ) → ComesBack s t k least greatest
  pub all_come_back : (now : Bytes) → AllComeBack now
  -- "Refused: the sheet's own number"
  pub unread : (s : Bytes) (c : Change) (r : Refusal) (p : ℕ) → read_sheet s ≡ bad r p → (take_back s c ≡ refused_at s r p) × (1 ≤ number r) × (number r ≤ 9)
  -- "then 5 for no such statement"
  pub absent : (s : Bytes) (c : Change) (g : Program) (e : ℕ) → read_sheet s ≡ got g e → is_statement g c.thread c.statement ≡ false
      → take_back s c ≡ refused_at s no_such_name 0
  -- "then 4 for old times it may not have"
  pub off_range_lem : (s : Bytes) (c : Change) (g : Program) (e : ℕ) → read_sheet s ≡ got g e → T (is_statement g c.thread c.statement)
      → may_have (statement_in g c.thread c.statement) c.old_least c.old_greatest ≡ false → take_back s c ≡ refused_at s off_range 0
  -- "then 18 changed since"
  pub changed_since_lem : (s : Bytes) (c : Change) (g : Program) (e : ℕ) → read_sheet s ≡ got g e → T (is_statement g c.thread c.statement)
      → T (may_have (statement_in g c.thread c.statement) c.old_least c.old_greatest)
      → shows (statement_in g c.thread c.statement) c.new_least c.new_greatest ≡ false → take_back s c ≡ refused_at s changed_since 0
  -- otherwise it is taken back
  pub taken : (s : Bytes) (c : Change) (g : Program) (e : ℕ) → read_sheet s ≡ got g e → T (is_statement g c.thread c.statement)
      → T (may_have (statement_in g c.thread c.statement) c.old_least c.old_greatest)
      → T (shows (statement_in g c.thread c.statement) c.new_least c.new_greatest) → Taken s c
