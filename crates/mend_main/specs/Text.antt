-- What the program gives of a sheet: to standard output the mended sheet, to standard error its four numbers and the list of changes.
use Rattle.std.specs.Prelude.{◌≡◌, List, [], ◌∷◌, ◌++◌, ℕ, ◌+◌, ◌*◌, ◌≤◌, take}
use Rattle.rules.specs.Constants.{longest_sheet}
use Rattle.rules.specs.Format.{Bytes}
use Rattle.writing.specs.Out.{line_of}
use Rattle.mended.specs.Mend.{Mending, mend}
use Rattle.mend.specs.Shape.{four}

-- it lends room for the longest sheet, and for these many numbers
abbrev pub lent_numbers : ℕ
lent_numbers = 8192

unfoldable pub answered : Bytes → Mending
answered s = mend s longest_sheet lent_numbers

-- ---- to standard output: nothing where it is refused

unfoldable pub written : Bytes → Bytes
written s = take (answered s).written (answered s).sheet

-- ---- to standard error

-- a line "kind offset" for each change, two numbers of the list
unfoldable pub lines : List ℕ → Bytes
lines [] = []
lines (k ∷ []) = []
lines (k ∷ p ∷ ns) = line_of (k ∷ p ∷ []) ++ lines ns

-- before them the line "refusal place written listed"
abbrev pub four_of : Mending → List ℕ
four_of a = four a.refusal a.place a.written a.listed

unfoldable pub said : Bytes → Bytes
said s =
    let a = answered s in
    line_of (four_of a) ++ lines (take a.listed a.list)

-- the longest text: twenty digits for each number of the line, ten for each of the list, and one byte behind each
abbrev pub longest_text : ℕ
longest_text = 4 * 21 + 11 * lent_numbers

-- ---- the claims

-- what is lent is enough: with more room for either output the four numbers are the same
abbrev pub EnoughLent : Type 0
EnoughLent = (s : Bytes) (n k : ℕ) → longest_sheet ≤ n → lent_numbers ≤ k → four_of (mend s n k) ≡ four_of (answered s)

-- it is enough to read one byte more than a sheet may have
pub record EnoughRead : Type 0 where
  pub written_same : (s : Bytes) → written (take (longest_sheet + 1) s) ≡ written s
  pub said_same : (s : Bytes) → said (take (longest_sheet + 1) s) ≡ said s
