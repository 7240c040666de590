-- What the program gives of a sheet: to standard output its text, or to standard error its refusal and place.
use Rattle.std.specs.Prelude.{◌≡◌, List, [], ◌∷◌, ℕ, ◌+◌, ◌*◌, ◌≤◌, take}
use Rattle.rules.specs.Constants.{longest_sheet}
use Rattle.rules.specs.Format.{Bytes, AreBytes}
use Rattle.writing.specs.Out.{refusal_line}
use Rattle.printed.specs.Print.{Printing, print_sheet}

-- it lends six bytes of text for each byte of the longest sheet
abbrev pub lent_bytes : ℕ
lent_bytes = 6 * longest_sheet

unfoldable pub answered : Bytes → Printing
answered s = print_sheet lent_bytes s

-- to standard output: nothing where it is refused
unfoldable pub written : Bytes → Bytes
written s = take (answered s).written (answered s).text

-- to standard error: the line "refusal place", nothing where it is printed
unfoldable pub said : Bytes → Bytes
said s = refusal_line (answered s).refusal (answered s).place

-- ---- the claims

abbrev pub numbers_of : Printing → List ℕ
numbers_of x = x.refusal ∷ x.place ∷ x.written ∷ []

-- what is lent is enough: with more room the numbers are the same
abbrev pub EnoughLent : Type 0
EnoughLent = (room : ℕ) (s : Bytes) → AreBytes s → lent_bytes ≤ room → numbers_of (print_sheet room s) ≡ numbers_of (answered s)

-- it is enough to read one byte more than a sheet may have
pub record EnoughRead : Type 0 where
  pub written_same : (s : Bytes) → written (take (longest_sheet + 1) s) ≡ written s
  pub said_same : (s : Bytes) → said (take (longest_sheet + 1) s) ≡ said s
