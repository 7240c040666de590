-- What is claimed of printing a sheet (02, ticket 4) beside what the call promises of one sheet.
use Rattle.std.specs.Prelude.{◌≡◌, [], ◌∷◌, ◌++◌, ℕ, suc, ◌*◌, ◌≤◌, ◌<◌, eqb, length, take, if◌then◌else◌}
use Rattle.rules.specs.Base.{Each}
use Rattle.rules.specs.Refusal.{Refusal, number, output_full}
use Rattle.rules.specs.Program.{Program}
use Rattle.rules.specs.Format.{Bytes, AreBytes, bad, got, read_sheet}
use Rattle.text.specs.Words.{took}
use Rattle.text.specs.Lines.{Text, read_text}
use Rattle.text.specs.Convert.{convert, converted_with}
use Rattle.text.specs.Says.{Says}
use Rattle.printed.specs.Print.{print, refused_with, printed_with, print_sheet}
use Rattle.printed.specs.Form.{Tidy}
use Rattle.printed.specs.Worked.{rows, Holds}

-- ---- what was printed

-- the text that stands in the buffer, as far as it was written
abbrev pub text_of : ℕ → Bytes → Bytes
text_of room s = take (print_sheet room s).written (print_sheet room s).text

-- "Converting the printed text brings back that sheet byte for byte": by ticket 2's definition, with any room that holds the sheet
pub record BringsBack (room : ℕ) (s : Bytes) : Type 0 where
  pub program : Program
  pub end : ℕ
  pub reads_sheet : read_sheet s ≡ got program end
  pub text_is : text_of room s ≡ print program
  pub converts : (other : ℕ) → length s ≤ other → convert other (text_of room s) ≡ converted_with other s

-- ---- texts that say a program

pub record Tells (text : Bytes) (g : Program) : Type 0 where
  pub text_read : Text
  pub reads_text : read_text text ≡ took text_read []
  pub says : Says text_read g

-- how many `(` (40) stand in a text
unfoldable pub opens : Bytes → ℕ
opens [] = 0
opens (b ∷ s) = let n = opens s in if eqb b 40 then suc n else n

-- a `(` of a text and a `)` (41) behind it; the text without them
pub record Pair (text : Bytes) : Type 0 where
  pub before : Bytes
  pub inside : Bytes
  pub behind : Bytes
  pub is : text ≡ before ++ (40 ∷ (inside ++ (41 ∷ behind)))

abbrev pub without : {text : Bytes} → Pair text → Bytes
without p = p.before ++ (p.inside ++ p.behind)

-- the sheet that a text is converted into
abbrev pub sheet_from : ℕ → Bytes → Bytes
sheet_from room text = take (convert room text).written (convert room text).sheet

-- ---- all that is claimed

pub record PrintClaims : Type 0 where
  pub rows_hold : Each Holds rows
  -- the order of refusals: "the sheet's own number from 1 to 9"
  pub unread : (room : ℕ) (s : Bytes) (r : Refusal) (p : ℕ) → read_sheet s ≡ bad r p
      → (print_sheet room s ≡ refused_with room r p) × (1 ≤ number r) × (number r ≤ 9)
  -- "then 19 when the text does not fit, place 0"
  pub full : (room : ℕ) (s : Bytes) (g : Program) (e : ℕ) → read_sheet s ≡ got g e → room < length (print g) → print_sheet room s ≡ refused_with room output_full 0
  -- otherwise it is printed; an exact fit too
  pub prints : (room : ℕ) (s : Bytes) (g : Program) (e : ℕ) → read_sheet s ≡ got g e → length (print g) ≤ room → print_sheet room s ≡ printed_with room (print g)
  -- a text is at most six times as long as its sheet
  pub room_enough : (s : Bytes) → AreBytes s → (g : Program) (e : ℕ) → read_sheet s ≡ got g e → length (print g) ≤ 6 * length s
  -- whatever is not refused converts back to the sheet
  pub brings_back : (room : ℕ) (s : Bytes) → AreBytes s → (print_sheet room s).refusal ≡ 0 → BringsBack room s
  -- "equal sheets [..] print alike", and no others
  pub prints_alike : (room other : ℕ) (s t : Bytes) → AreBytes s → AreBytes t → (print_sheet room s).refusal ≡ 0 → (print_sheet other t).refusal ≡ 0
      → (s ≡ t → text_of room s ≡ text_of other t) × (text_of room s ≡ text_of other t → s ≡ t)
  -- "single spaces (none after `!`, `(` or a constant's minus, before `)` or round `..`), no leading zeros, a newline after each line, no blank
  -- lines": of every program
  pub tidy : (g : Program) → Tidy (print g)
  -- "parentheses only where the tree would otherwise change": no text that says the same has fewer of them
  pub fewest : (g : Program) (text : Bytes) → Tells text g → opens (print g) ≤ opens text
  -- so no pair of them could be left out: the text without it says something else, or does not read
  pub none_spare : (g : Program) (p : Pair (print g)) → Tells (without p) g → ⊥
  -- and converting it does not bring back the sheet
  pub not_back : (s : Bytes) (g : Program) (e : ℕ) → read_sheet s ≡ got g e → (p : Pair (print g)) (room : ℕ)
      → (convert room (without p)).refusal ≡ 0 → sheet_from room (without p) ≡ s → ⊥
