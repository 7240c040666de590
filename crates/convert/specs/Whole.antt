-- What the code has written of a text so far, and what it makes of the whole.
use Rattle.std.specs.Prelude.{◌≡◌, Bool, true, List, [], ◌∷◌, ℕ, ◌+◌, ◌≤◌, min, Result, Ok, Err, Option, unwrap_or, T, ltb, length, take, drop, if◌then◌else◌}
use Rattle.rules.specs.Format.{Bytes}
use Rattle.rules.specs.Encoding.{in_row}
use Rattle.text.specs.Words.{Read, stop, took}
use Rattle.text.specs.Lines.{Line, Due, due_after, Started, Text, read_text}
use Rattle.text.specs.Convert.{Piece, line_fits, pieces, text_pieces, written, piece_at}
use Rattle.lines.specs.Writing.{due_of, field_before}
use Rattle.scan.specs.declared.step.Built.{Built}
use Rattle.lines.specs.declared.line.Due as D
use Rattle.convert.specs.declared.whole.Written.{Written}

abbrev pub Pieces : Type 0
Pieces = List Piece

-- where its numbers fit and there is room, a field stands at a place. Where they do not, anything may stand there and behind.
abbrev pub Stands : Bytes → ℕ → Bytes → Bool → Type 0
Stands out from field fits = T fits → from + length field ≤ length out → take (length field) (drop from out) ≡ field

-- where a field goes in a buffer of this length, behind fields that end at `from` and would be `whole` bytes
abbrev pub place_in : ℕ → ℕ → ℕ → ℕ
place_in len from whole = if ltb len whole then len else min from len

-- a line was read, up to q, and its field, of so many bytes, stands behind the bytes up to a place, which are kept; not so where the
-- whole of the fields before it has no room already, since the text is then refused with 9
pub record Laid (s before : Bytes) (from whole : ℕ) (after : Bytes) (g : Read Line) (due : Due) (q size : ℕ) (fits : Bool) : Type 0 where
  pub line : Line
  pub is : g ≡ took line (drop q s)
  pub due_is : due ≡ due_after line
  pub fits_is : fits ≡ line_fits line
  pub size_is : size ≡ min (length (field_before (drop q s) line)) 65536
  pub kept : take (min from (length before)) after ≡ take (min from (length before)) before
  pub stands : whole ≤ length before → Stands after from (field_before (drop q s) line) fits

abbrev pub Lays : Bytes → Bytes → ℕ → ℕ → Bytes → Read Line → Result (Built D.Due) ℕ → Type 0
Lays s before from whole after g (Ok x) = Laid s before from whole after g (due_of x.kind) x.place x.end x.fits
Lays s before from whole after g (Err q) = g ≡ stop (drop q s)

-- of the field at the target, if there is one, the start of its line and whether its numbers fit; where there is none, as `piece_at` has it
abbrev pub at_target : Option (ℕ × Bool) → ℕ × Bool
at_target o = unwrap_or o (0, true)

-- the pieces so far stand at the front of a buffer, as far as there is room; and of the piece at the target it is known which it is
pub record SoFar (xs : List Piece) (now : Bytes) (target : ℕ) (w : Written) : Type 0 where
  pub whole_is : w.whole ≡ min (length (in_row (λ (x : Piece). x.whole) xs)) 65536
  pub end_is : w.end ≡ min (length (in_row written xs)) 65536
  pub stands : length (in_row written xs) ≤ length now → w.whole ≤ length now → take (length (in_row written xs)) now ≡ in_row written xs
  pub start_is : length (in_row written xs) ≤ length now → (at_target w.at_target).0 ≡ (piece_at xs target).start
  pub fits_is : length (in_row written xs) ≤ length now → (at_target w.at_target).1 ≡ (piece_at xs target).fits

abbrev pub written_of : ℕ → ℕ → Option (ℕ × Bool) → Written
written_of end whole target = record { end = end; whole = whole; at_target = target }

-- the lines behind a first piece are read to the text's end, and all is written
pub record LinesMade (x : Piece) (after : Bytes) (target : ℕ) (g : Read (List Started)) (w : Written) : Type 0 where
  pub lines : List Started
  pub reads : g ≡ took lines []
  pub so_far : SoFar (x ∷ pieces lines) after target w

abbrev pub MadeFrom : Piece → Bytes → Bytes → ℕ → Read (List Started) → Result Written ℕ → Type 0
MadeFrom x s after target g (Ok w) = LinesMade x after target g w
MadeFrom x s after target g (Err q) = g ≡ stop (drop q s)

abbrev pub made_place : Result Written ℕ → ℕ
made_place (Ok w) = 0
made_place (Err q) = q

-- the whole text
pub record TextMade (s after : Bytes) (target : ℕ) (w : Written) : Type 0 where
  pub text : Text
  pub reads : read_text s ≡ took text []
  pub so_far : SoFar (text_pieces text) after target w

abbrev pub Makes : Bytes → Bytes → ℕ → Result Written ℕ → Type 0
Makes s after target (Ok w) = TextMade s after target w
Makes s after target (Err q) = read_text s ≡ stop (drop q s)
