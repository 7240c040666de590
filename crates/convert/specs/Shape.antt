-- What the code gives back of a text, in terms of the definition.
use Rattle.std.specs.Prelude.{◌≡◌, List, [], ℕ, ◌≤◌, Result, Ok, Err, length, take, replicate, if◌then◌else◌}
use Rattle.rules.specs.Base.{at_front}
use Rattle.rules.specs.Format.{Bytes, read_sheet}
use Rattle.rules.specs.Refusal.{number}
use Rattle.text.specs.Words.{took}
use Rattle.text.specs.Lines.{Text, read_text}
use Rattle.text.specs.Convert.{Conversion, text_pieces, piece_at, judged, convert}
use Rattle.text.specs.Claims.{WritesSheet, sheet_of}
use Rattle.writing.specs.Out.{three}
use Rattle.refusal.specs.Shape.{rule_of}
use Rattle.refusal.specs.declared.Fault.{Fault}
use Rattle.convert.specs.declared.output.Conversion as D

-- with what the lent buffer holds afterwards
abbrev pub conversion_of : D.Conversion → Bytes → Conversion
conversion_of r sheet = record { refusal = r.refusal; place = r.place; written = r.written; sheet = sheet }

-- a refusal by its number
abbrev pub refused_by : ℕ → ℕ → ℕ → Conversion
refused_by room r p = record { refusal = r; place = p; written = 0; sheet = replicate room 0 }

-- a sheet of so many bytes, or a refusal and its place, told of what the lent buffer holds
abbrev pub told_of : Result ℕ Fault → Bytes → Conversion
told_of (Ok n) sheet = record { refusal = 0; place = 0; written = n; sheet = sheet }
told_of (Err f) sheet = refused_by (length sheet) (number (rule_of f.refusal)) f.place

-- of a text whose sheet, which there is room for, the reader refuses with this number at this place
abbrev pub Blames : Bytes → ℕ → ℕ → ℕ → ℕ → Conversion → Type 0
Blames text work room n p x = (t : Text) → read_text text ≡ took t [] → length (sheet_of t) ≤ work
    → x ≡ refused_by room (if (piece_at (text_pieces t) p).fits then n else 4) (piece_at (text_pieces t) p).start

-- of a text whose sheet stands at the front of the work buffer
abbrev pub Judges : Bytes → Bytes → ℕ → ℕ → Conversion → Type 0
Judges text work end room x = (t : Text) → read_text text ≡ took t [] → length (sheet_of t) ≡ end → take end work ≡ sheet_of t
    → x ≡ judged room (text_pieces t) (read_sheet (sheet_of t))

-- whatever is not refused writes a sheet that the reader reads as what the text says
abbrev pub ConvertsWell : ℕ → Bytes → Type 0
ConvertsWell room text = (convert room text).refusal ≡ 0 → WritesSheet room text

-- ---- what the exported call gives

-- the refusal, and the three numbers at the front of an array that has room for them
pub record ThreeIn (x : Conversion) (before after : List ℕ) (r : ℕ) : Type 0 where
  pub refusal_is : r ≡ x.refusal
  pub numbers_are : after ≡ at_front (three x.refusal x.place x.written) before

-- what is left in the lent buffer
abbrev pub Leaves : Conversion → Bytes → Type 0
Leaves x sheet = sheet ≡ x.sheet
