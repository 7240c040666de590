-- What the code reads and writes of the lines `limit`, `budget` and `label`.
use Rattle.std.specs.Prelude.{◌≡◌, Bool, ◌&&◌, List, [], ◌++◌, ℕ, Result, Ok, Err, length, drop, if◌then◌else◌}
use Rattle.rules.specs.Constants.{greatest_limit, greatest_budget}
use Rattle.rules.specs.Format.{Bytes}
use Rattle.rules.specs.Program.{Header}
use Rattle.rules.specs.Encoding.{four, field, encode_header}
use Rattle.text.specs.Words.{stop, map_read}
use Rattle.text.specs.Lines.{Started, Text, locks_due, read_lines, read_text}
use Rattle.text.specs.Convert.{one_to, fits_four, header_numbers_fit, header_fault}
use Rattle.scan.specs.Writing.{Wrote}
use Rattle.convert.specs.declared.head.Head.{Head}

abbrev pub header_bytes : ℕ → ℕ → ℕ → ℕ → Bytes
header_bytes l b low high = field 1 (four l ++ four b ++ four low ++ four high)

abbrev pub all_fit : ℕ → ℕ → ℕ → ℕ → Bool
all_fit l b low high = (fits_four l && fits_four b) && (fits_four low && fits_four high)

-- the line at fault if the header's field is
abbrev pub fault_at : ℕ → ℕ → ℕ → ℕ → ℕ
fault_at l b budget_at label_at = if one_to greatest_limit l then (if one_to greatest_budget b then label_at else budget_at) else 0

-- a text of these lines and others
abbrev pub text_of : Header → ℕ → ℕ → List Started → Text
text_of h budget_at label_at xs = record { header = h; budget_at = budget_at; label_at = label_at; lines = xs }

-- the three lines are read, up to q, and their field is written at the front
pub record Headed (s out after : Bytes) (q start : ℕ) (fits : Bool) : Type 0 where
  pub header : Header
  pub budget_at : ℕ
  pub label_at : ℕ
  pub reads : read_text s ≡ map_read (text_of header budget_at label_at) (read_lines (length s) (length (drop q s)) locks_due (drop q s))
  pub start_is : start ≡ header_fault (text_of header budget_at label_at [])
  pub fits_is : fits ≡ header_numbers_fit header
  pub wrote : Wrote out 0 (encode_header header) fits after 19

abbrev pub Heads : Bytes → Bytes → Bytes → Result Head ℕ → Type 0
Heads s out after (Ok h) = Headed s out after h.place h.start h.fits
Heads s out after (Err q) = read_text s ≡ stop (drop q s)

abbrev pub head_place : Result Head ℕ → ℕ
head_place (Ok h) = h.place
head_place (Err q) = q
