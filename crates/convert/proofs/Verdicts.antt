-- What is said of a text, in the order of the refusals.
use Rattle.std.specs.Prelude.{if◌then◌else◌}
use mathlib.Core.Path.{◌≡◌, sym, ap, ◌∙◌}
use mathlib.Core.Bool.{Bool, true, false}
use mathlib.Core.List.{List, [], ◌∷◌, ◌++◌}
use Prim.Native.Nat.{ℕ, ◌+◌, ◌≤◌, ◌<◌}
use native.Mathlib.Omega.{arith}
use native.Mathlib.Nat.{le_refl}
use lib.Dec.{ltb}
use lib.ListN.{length, drop, length-append}
use borrow.Author.Tests.{lt-ltb, le-ltb}
use Rattle.rules.specs.Constants.{longest_sheet}
use Rattle.rules.specs.Refusal.{number, too_long, unreadable}
use Rattle.rules.specs.Format.{Bytes, read_sheet}
use Rattle.rules.specs.Encoding.{in_row, encode_header}
use Rattle.text.specs.Words.{stop, took}
use Rattle.text.specs.Lines.{Line, locks_line, var_line, thread_line, reg_line, statement_line, Started, starts, Text, read_text}
use Rattle.text.specs.Convert.{Piece, field_of, line_fits, header_fault, header_numbers_fit, registers_ahead, pieces, text_pieces, written, refused_with, judged, made, converted, convert}
use Rattle.text.specs.Claims.{sheet_of, full_length}
use Rattle.convert.specs.Shape.{refused_by}
use Rattle.convert.proofs.HeadReading.{place-of}

-- ---- a sheet is no longer than if each number that is too big had its field's bytes

field-three : (n : ℕ) (x : Line) → 3 ≤ length (field_of n x)
unfolding field_of
field-three n (locks_line k) = omega arith
field-three n (var_line i) = omega arith
field-three n thread_line = omega arith
field-three n (reg_line i) = omega arith
field-three n (statement_line a b x) = omega arith

piece-smaller : (x : Piece) → 3 ≤ length x.whole → length (written x) ≤ length x.whole
unfolding written
piece-smaller x h = by x.fits
  where
    by : (f : Bool) → length (if f then x.whole else 0 ∷ 0 ∷ 0 ∷ []) ≤ length x.whole
    by true = le_refl _
    by false = h

abbrev whole_of : Piece → Bytes
whole_of x = x.whole

row-smaller : (x : Piece) (xs : List Piece) → 3 ≤ length x.whole → length (in_row written xs) ≤ length (in_row whole_of xs)
    → length (in_row written (x ∷ xs)) ≤ length (in_row whole_of (x ∷ xs))
unfolding in_row
row-smaller x xs h k =
    let a : length (written x ++ in_row written xs) ≡ length (written x) + length (in_row written xs) = length-append (written x)
    (in_row written xs) in
    let b : length (x.whole ++ in_row whole_of xs) ≡ length x.whole + length (in_row whole_of xs) = length-append x.whole
    (in_row whole_of xs) in
    let c = piece-smaller x h in
    omega arith

none-smaller : length (in_row written []) ≤ length (in_row whole_of [])
unfolding in_row
none-smaller = le_refl 0

pieces-smaller : (xs : List Started) → length (in_row written (pieces xs)) ≤ length (in_row whole_of (pieces xs))
unfolding pieces
pieces-smaller [] = none-smaller
pieces-smaller (starts p x ∷ xs) =
    row-smaller (record { start = p; whole = field_of (registers_ahead xs) x; fits = line_fits x }) (pieces xs)
    (field-three (registers_ahead xs) x) (pieces-smaller xs)

pub sheet-smaller : (t : Text) → length (sheet_of t) ≤ full_length t
unfolding text_pieces
sheet-smaller t =
    row-smaller (record { start = header_fault t; whole = encode_header t.header; fits = header_numbers_fit t.header }) (pieces t.lines)
    (omega arith) (pieces-smaller t.lines)

-- ---- the verdict, text by text

module _ (room : ℕ) (s : Bytes) where
  pub when-unreadable : (q : ℕ) → q ≤ length s → read_text s ≡ stop (drop q s) → refused_by room (number unreadable) q ≡ convert room s
  unfolding convert converted
  when-unreadable q h e = ap (λ p. refused_by room (number unreadable) p) (sym (place-of s q h)) ∙ sym (ap (converted room (length s)) e)

  made-is : (t : Text) {r : Bytes} → read_text s ≡ took t r → convert room s ≡ made room (text_pieces t)
  unfolding convert converted
  made-is t e = ap (converted room (length s)) e

  judge : (t : Text) (b : Bool) → read_text s ≡ took t [] → ltb longest_sheet (full_length t) ≡ b
      → (if b then refused_with room too_long 0 else judged room (text_pieces t) (read_sheet (sheet_of t))) ≡ convert room s
  unfolding made
  judge t b e h = sym (made-is t e
      ∙ ap (λ c. if c then refused_with room too_long 0 else judged room (text_pieces t) (read_sheet (sheet_of t))) h)

  pub when-long : (t : Text) → read_text s ≡ took t [] → longest_sheet < full_length t
      → refused_by room (number too_long) 0 ≡ convert room s
  when-long t e l = judge t true e (lt-ltb longest_sheet (full_length t) l)

  pub when-short : (t : Text) → read_text s ≡ took t [] → full_length t ≤ longest_sheet
      → judged room (text_pieces t) (read_sheet (sheet_of t)) ≡ convert room s
  when-short t e l = judge t false e (le-ltb longest_sheet (full_length t) l)
