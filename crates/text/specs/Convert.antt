-- From text to sheet (02, ticket 2): number, place and length written, and what the lent buffer holds. "Refused: 20 unreadable
-- text [..]; then the number 01 gives the sheet it would make, at the start of the line at fault [..]; then 19 output full, place 0."
use Rattle.std.specs.Prelude.{Bool, true, ◌&&◌, List, [], ◌∷◌, ◌++◌, ℕ, suc, ◌-◌, min, leb, ltb, ℤ, length, replicate, if◌then◌else◌}
use Rattle.rules.specs.Refusal.{Refusal, number, off_range, too_long, output_full, unreadable}
use Rattle.rules.specs.Constants.{longest_sheet, greatest_limit, greatest_budget, half32}
use Rattle.rules.specs.Interval.{Interval, in_range}
use Rattle.rules.specs.Program.{Arith, constant, register, operation, Condition, always, never, negation, conjunction, equal, less}
use Rattle.rules.specs.Program.{Action, halt, skip, assign, branch, store, load, unlock, lock, Header, Program}
use Rattle.rules.specs.Format.{Bytes, Got, bad, got, read_sheet}
use Rattle.rules.specs.Encoding.{field, in_row, encode_header, encode_locks, encode_range, encode_body}
use Rattle.text.specs.Words.{Read, stop, took}
use Rattle.text.specs.Lines.{Line, locks_line, var_line, thread_line, reg_line, statement_line, Started, starts, Text, read_text}

-- ---- "a number too big for its field"

unfoldable pub fits_byte : ℕ → Bool
fits_byte n = ltb n 256

unfoldable pub fits_two : ℕ → Bool
fits_two n = ltb n 65536

unfoldable pub fits_four : ℕ → Bool
fits_four n = ltb n 4294967296

unfoldable pub fits_signed : ℤ → Bool
fits_signed z = in_range half32 z

unfoldable pub range_fits : Interval → Bool
range_fits i = fits_signed i.low && fits_signed i.high

unfoldable pub arith_fits : Arith → Bool
arith_fits (constant z) = fits_signed z
arith_fits (register r) = fits_byte r
arith_fits (operation o a b) = arith_fits a && arith_fits b

unfoldable pub condition_fits : Condition → Bool
condition_fits always = true
condition_fits never = true
condition_fits (negation c) = condition_fits c
condition_fits (conjunction c d) = condition_fits c && condition_fits d
condition_fits (equal a b) = arith_fits a && arith_fits b
condition_fits (less a b) = arith_fits a && arith_fits b

unfoldable pub action_fits : Action → Bool
action_fits halt = true
action_fits skip = true
action_fits (assign r a) = fits_byte r && arith_fits a
action_fits (branch t c) = fits_byte t && condition_fits c
action_fits (store r v) = fits_byte r && fits_byte v
action_fits (load r v) = fits_byte r && fits_byte v
action_fits (unlock l) = fits_byte l
action_fits (lock l) = fits_byte l

unfoldable pub line_fits : Line → Bool
line_fits (locks_line n) = fits_byte n
line_fits (var_line i) = range_fits i
line_fits thread_line = true
line_fits (reg_line i) = range_fits i
line_fits (statement_line a b x) = (fits_two a && fits_two b) && action_fits x

unfoldable pub header_numbers_fit : Header → Bool
header_numbers_fit h = (fits_four h.limit && fits_four h.budget) && (fits_four h.label_low && fits_four h.label_high)

-- ---- the sheet that a text would make, field by field

-- a field, the start of the line that is at fault if the field is, and whether its numbers fit
pub record Piece : Type 0 where
  pub start : ℕ
  pub whole : Bytes
  pub fits : Bool

-- `reg` lines from here on
unfoldable pub registers_ahead : List Started → ℕ
registers_ahead [] = 0
registers_ahead (starts p (locks_line n) ∷ xs) = 0
registers_ahead (starts p (var_line i) ∷ xs) = 0
registers_ahead (starts p thread_line ∷ xs) = 0
registers_ahead (starts p (reg_line i) ∷ xs) = suc (registers_ahead xs)
registers_ahead (starts p (statement_line a b x) ∷ xs) = 0

-- a line's field, where n registers follow: more than a byte holds are as bad as 255
unfoldable pub field_of : ℕ → Line → Bytes
field_of n (locks_line k) = encode_locks k
field_of n (var_line i) = encode_range 2 i
field_of n thread_line = field 4 (min n 255 ∷ [])
field_of n (reg_line i) = encode_range 5 i
field_of n (statement_line a b x) = field 6 (encode_body a b x)

unfoldable pub pieces : List Started → List Piece
pieces [] = []
pieces (starts p x ∷ xs) = record { start = p; whole = field_of (registers_ahead xs) x; fits = line_fits x } ∷ pieces xs

unfoldable pub one_to : ℕ → ℕ → Bool
one_to most n = leb 1 n && leb n most

-- `limit`, `budget` and `label` share a field: "the earlier if two", "a label above the limit is 4 at `label`"
unfoldable pub header_fault : Text → ℕ
header_fault t =
    if one_to greatest_limit t.header.limit then (if one_to greatest_budget t.header.budget then t.label_at else t.budget_at)
    else 0

unfoldable pub text_pieces : Text → List Piece
text_pieces t = record { start = header_fault t; whole = encode_header t.header; fits = header_numbers_fit t.header } ∷ pieces t.lines

-- "a number too big for its field is 4, first in its line": such a line's field is not written. In its place stands a header
-- of tag 0, which is never due and closes no thread, so that the reader gets no further than there: it comes before every other fault of
-- its line (8 included), and before 7 and 5 of its thread, but behind every fault of a line before it.
unfoldable pub written : Piece → Bytes
written x = if x.fits then x.whole else 0 ∷ 0 ∷ 0 ∷ []

-- the piece that stands at a place
unfoldable pub piece_at : List Piece → ℕ → Piece
piece_at [] p = record { start = 0; whole = []; fits = true }
piece_at (x ∷ xs) p =
    let later = piece_at xs (p - length (written x)) in
    if ltb p (length (written x)) then x else later

-- what is said of a piece that the reader refuses
unfoldable pub said : Piece → Refusal → Refusal
said x r = if x.fits then r else off_range

-- ---- converting

-- "It returns number, place and length written (0 if refused)"; and what the lent buffer holds at the end
pub record Conversion : Type 0 where
  pub refusal : ℕ
  pub place : ℕ
  pub written : ℕ
  pub sheet : Bytes

-- "or zeroes that buffer": a buffer of that room
abbrev pub refused_with : ℕ → Refusal → ℕ → Conversion
refused_with room r p = record { refusal = number r; place = p; written = 0; sheet = replicate room 0 }

-- "writes a sheet into a lent buffer, the rest zero"
abbrev pub converted_with : ℕ → Bytes → Conversion
converted_with room s = record { refusal = 0; place = 0; written = length s; sheet = s ++ replicate (room - length s) 0 }

-- "then 19 output full, place 0"
unfoldable pub written_into : ℕ → Bytes → Conversion
written_into room s = if leb (length s) room then converted_with room s else refused_with room output_full 0

-- the reader says whether the pieces make a sheet; what it refuses is said of the piece that stands at its place
unfoldable pub judged : ℕ → List Piece → Got Program → Conversion
judged room xs (bad r p) = refused_with room (said (piece_at xs p) r) (piece_at xs p).start
judged room xs (got g e) = written_into room (in_row written xs)

-- "9 is first, place 0": every number counts as many bytes as its field has for it, also where it is too big
unfoldable pub made : ℕ → List Piece → Conversion
made room xs =
    if ltb longest_sheet (length (in_row (λ (x : Piece). x.whole) xs)) then refused_with room too_long 0
    else judged room xs (read_sheet (in_row written xs))

-- "at the first byte that cannot go on or the text's end", of a text of n bytes
unfoldable pub converted : ℕ → ℕ → Read Text → Conversion
converted room n (stop r) = refused_with room unreadable (n - length r)
converted room n (took t r) = made room (text_pieces t)

-- a text, with a buffer of that room
unfoldable pub convert : ℕ → Bytes → Conversion
convert room text = converted room (length text) (read_text text)
