-- What the program gives of a text: to standard output the sheet, or to standard error its refusal and place.
use Rattle.std.specs.Prelude.{◌≡◌, List, [], ◌∷◌, ℕ, ◌≤◌, take}
use Rattle.rules.specs.Constants.{longest_sheet}
use Rattle.rules.specs.Format.{Bytes}
use Rattle.writing.specs.Out.{refusal_line}
use Rattle.text.specs.Convert.{Conversion, convert}

-- it lends room for the longest sheet
unfoldable pub answered : Bytes → Conversion
answered s = convert longest_sheet s

-- to standard output: nothing where it is refused
unfoldable pub written : Bytes → Bytes
written s = take (answered s).written (answered s).sheet

-- to standard error: the line "refusal place", nothing where it is converted
unfoldable pub said : Bytes → Bytes
said s = refusal_line (answered s).refusal (answered s).place

-- ---- the claim: what is lent is enough, with more room the numbers are the same

abbrev pub numbers_of : Conversion → List ℕ
numbers_of x = x.refusal ∷ x.place ∷ x.written ∷ []

abbrev pub EnoughLent : Type 0
EnoughLent = (room : ℕ) (s : Bytes) → longest_sheet ≤ room → numbers_of (convert room s) ≡ numbers_of (answered s)
