-- What is claimed of converting a text (02, ticket 2) beside what the call promises of one text.
use Rattle.std.specs.Prelude.{◌≡◌, List, [], ◌∷◌, ◌++◌, ℕ, suc, ◌-◌, ◌≤◌, ◌<◌, length, take}
use Rattle.rules.specs.Base.{Each}
use Rattle.rules.specs.Refusal.{Refusal, output_full, too_long, unreadable}
use Rattle.rules.specs.Constants.{longest_sheet}
use Rattle.rules.specs.Interval.{Interval}
use Rattle.rules.specs.Program.{Action, Program}
use Rattle.rules.specs.Format.{Bytes, AreBytes, bad, got, read_sheet}
use Rattle.rules.specs.Encoding.{in_row}
use Rattle.text.specs.Words.{Read, stop, took}
use Rattle.text.specs.Lines.{Line, locks_line, var_line, thread_line, reg_line, statement_line, Due, locks_due, var_due, reg_due, statement_due, due_after, Text, read_text}
use Rattle.text.specs.Convert.{Piece, text_pieces, written, piece_at, said, refused_with, converted_with, convert}
use Rattle.text.specs.Says.{bare, Says}
use Rattle.text.specs.Worked.{rows, Holds}

-- ---- the order of lines

pub data MayStand : Due → Line → Type 0 where
  locks_first : (n : ℕ) → MayStand locks_due (locks_line n)
  another_var : (i : Interval) → MayStand var_due (var_line i)
  first_thread : MayStand var_due thread_line
  another_reg : (i : Interval) → MayStand reg_due (reg_line i)
  first_statement : (a b : ℕ) (x : Action) → MayStand reg_due (statement_line a b x)
  another_statement : (a b : ℕ) (x : Action) → MayStand statement_due (statement_line a b x)
  another_thread : MayStand statement_due thread_line

-- lines that stand one after another up to the text's end
pub data InTurn : Due → List Line → Type 0 where
  at_end : InTurn statement_due []
  one_line : {due : Due} {x : Line} {xs : List Line} → MayStand due x → InTurn (due_after x) xs → InTurn due (x ∷ xs)

-- ---- bytes that begin a readable text

pub record Completed (begun : Bytes) : Type 0 where
  pub more : Bytes
  pub more_bytes : AreBytes more
  pub text_read : Text
  pub reads_text : read_text (begun ++ more) ≡ took text_read []

-- ---- a text that reads, and the sheet that it would make

-- the bytes that are written for it
abbrev pub sheet_of : Text → Bytes
sheet_of t = in_row written (text_pieces t)

-- how many they would be if each number that is too big had its field's bytes
abbrev pub full_length : Text → ℕ
full_length t = length (in_row (λ (x : Piece). x.whole) (text_pieces t))

-- text, read as t, writes its sheet: "a sheet it writes is always one the reader reads", and it reads as what the text says
pub record WritesSheet (room : ℕ) (text : Bytes) : Type 0 where
  pub text_read : Text
  pub program : Program
  pub end : ℕ
  pub reads_text : read_text text ≡ took text_read []
  pub reads_sheet : read_sheet (take (convert room text).written (convert room text).sheet) ≡ got program end
  pub says : Says text_read program

-- ---- all that is claimed

pub record ConvertClaims : Type 0 where
  pub rows_hold : Each Holds rows
  -- whatever is not refused writes a sheet that reads as what the text says
  pub writes_sheet : (room : ℕ) (text : Bytes) → (convert room text).refusal ≡ 0 → WritesSheet room text
  -- a text that reads has its lines in turn, to its end
  pub in_turn : (text : Bytes) (t : Text) (r : Bytes) → read_text text ≡ took t r → InTurn locks_due (bare t.lines) × (r ≡ [])
  -- "20 [..] at the first byte that cannot go on or the text's end": its place lies in the text or is its end; no text that begins
  -- with the same bytes, the one at that place included, is readable: each is refused with 20 there; and the bytes before it can be
  -- completed to a readable text
  pub place_inside : (room : ℕ) (text r : Bytes) → read_text text ≡ stop r
      → (convert room text ≡ refused_with room unreadable (length text - length r)) × (length r ≤ length text)
  pub cannot_go_on : (room : ℕ) (text r : Bytes) → read_text text ≡ stop r → length text - length r < length text
      → (more : Bytes) → convert room (take (suc (length text - length r)) text ++ more) ≡ refused_with room unreadable (length text - length r)
  pub can_go_on : (text r : Bytes) → read_text text ≡ stop r → Completed (take (length text - length r) text)
  -- the order of the other refusals, of a text that reads: "9 is first, place 0"
  pub too_long_lem : (room : ℕ) (text : Bytes) (t : Text) (r : Bytes) → read_text text ≡ took t r → longest_sheet < full_length t
      → convert room text ≡ refused_with room too_long 0
  -- "then the number 01 gives the sheet it would make, at the start of the line at fault"
  pub unread : (room : ℕ) (text : Bytes) (t : Text) (r : Bytes) (n : Refusal) (p : ℕ) → read_text text ≡ took t r → full_length t ≤ longest_sheet
      → read_sheet (sheet_of t) ≡ bad n p → convert room text ≡ refused_with room (said (piece_at (text_pieces t) p) n) (piece_at (text_pieces t) p).start
  -- "then 19 output full, place 0"
  pub full : (room : ℕ) (text : Bytes) (t : Text) (r : Bytes) (g : Program) (e : ℕ) → read_text text ≡ took t r → full_length t ≤ longest_sheet
      → read_sheet (sheet_of t) ≡ got g e → room < length (sheet_of t) → convert room text ≡ refused_with room output_full 0
  -- otherwise it is written
  pub writes : (room : ℕ) (text : Bytes) (t : Text) (r : Bytes) (g : Program) (e : ℕ) → read_text text ≡ took t r → full_length t ≤ longest_sheet
      → read_sheet (sheet_of t) ≡ got g e → length (sheet_of t) ≤ room → convert room text ≡ converted_with room (sheet_of t)
