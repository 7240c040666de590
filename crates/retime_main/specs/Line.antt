-- What the program prints of a sheet: of new times for one of its statements, and of a change taken back.
use Rattle.std.specs.Prelude.{◌≡◌, [], ◌∷◌, ◌++◌, ℕ, ◌+◌, eqb, take, if◌then◌else◌}
use Rattle.rules.specs.Constants.{longest_sheet, lent_by_program}
use Rattle.rules.specs.Format.{Bytes, AreBytes}
use Rattle.rules.specs.Search.{answer}
use Rattle.rules.specs.Product.{line}
use Rattle.digits.specs.Digits.{cut}
use Rattle.writing.specs.Out.{line_of}
use Rattle.retimed.specs.Retime.{Change, Changed, change_times, change, checked, preview_answer}
use Rattle.retimed.specs.TakeBack.{TakenBack, take_back}
use Rattle.retime.specs.Shape.{eight}
use Rattle.retime_main.specs.Words.{cut_change}

-- ---- a preview: what the check gives now and what it would give, with the numbers that the program lends and a copy buffer as
-- long as the longest sheet

unfoldable pub printed : Bytes → ℕ → ℕ → ℕ → ℕ → Bytes
printed s t k least greatest =
    line (answer s lent_by_program) ++ line (preview_answer s longest_sheet lent_by_program t k least greatest)

-- two lines of five numbers
abbrev pub longest_printed : ℕ
longest_printed = 130

-- ---- the sheet that is to be written behind a line of numbers: none where it is refused

unfoldable pub sheet_text : ℕ → Bytes → Bytes
sheet_text r s = if eqb r 0 then s else []

-- at most eight numbers of twenty digits, one byte behind each, and a sheet as long as is read
abbrev pub longest_written : ℕ
longest_written = 16553

-- ---- a change, and one taken back

unfoldable pub change_text : Changed → Bytes
change_text c = line_of (eight c.refusal c.place c.change) ++ sheet_text c.refusal c.sheet

unfoldable pub written : Bytes → ℕ → ℕ → ℕ → ℕ → Bytes
written s t k least greatest = change_text (change s t k least greatest)

unfoldable pub back_text : TakenBack → Bytes
back_text b = line_of (b.refusal ∷ b.place ∷ []) ++ sheet_text b.refusal b.sheet

unfoldable pub written_back : Bytes → Change → Bytes
written_back s c = back_text (take_back s c)

-- ---- the claims

-- it is enough to read one byte more than a sheet may have
pub record EnoughRead : Type 0 where
  pub previewed : (s : Bytes) (t k least greatest : ℕ) → printed (take (longest_sheet + 1) s) t k least greatest ≡ printed s t k least greatest
  pub changed : (s : Bytes) (t k least greatest : ℕ) → written (take (longest_sheet + 1) s) t k least greatest ≡ written s t k least greatest
  pub taken_back_lem : (s : Bytes) (c : Change) → written_back (take (longest_sheet + 1) s) c ≡ written_back s c

-- cut or not, a number gives the same
pub record CutUnseen : Type 0 where
  pub previewed : (s : Bytes) (t k least greatest : ℕ) → printed s (cut t) (cut k) (cut least) (cut greatest) ≡ printed s t k least greatest
  pub changed : (s : Bytes) (t k least greatest : ℕ) → written s (cut t) (cut k) (cut least) (cut greatest) ≡ written s t k least greatest
  pub taken_back_lem : (s : Bytes) → AreBytes s → (c : Change) → written_back s (cut_change c) ≡ written_back s c

-- the copy buffer is never too short: what answers is the change, or the check of the changed sheet
abbrev pub CopyEnough : Type 0
CopyEnough = (s : Bytes) (n t k least greatest : ℕ) → preview_answer s longest_sheet n t k least greatest ≡ checked n (change_times s t k least greatest)
