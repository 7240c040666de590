-- What the program takes and gives: a name in decimal; a sheet's bytes, or the line of a refusal.
use Rattle.std.specs.Prelude.{◌≡◌, [], ◌++◌, ℕ, ◌≤◌, leb, eqb, if◌then◌else◌, Option, Some, None}
use Rattle.rules.specs.Format.{Bytes}
use Rattle.rules.specs.Product.{bytes, decimal}
use Rattle.digits.specs.Digits.{number_in}
use Rattle.shelf.specs.Lookup.{file_number, bytes_of, lookup}

-- the longest file that is looked into
abbrev pub longest_file : ℕ
longest_file = 1000000

-- and the longest line: twenty digits for each of three numbers of 64 bits, and one byte behind each
abbrev pub longest_line : ℕ
longest_line = 63

-- ---- a name: a number that one byte holds, in decimal

unfoldable pub name_of : Option ℕ → Option ℕ
name_of (Some n) = if leb n 255 then Some n else None
name_of None = None

unfoldable pub name_in : Bytes → Option ℕ
name_in word = name_of (number_in word)

-- the claim: each of the 256 names is read from its own decimal
abbrev pub NamesRead : Type 0
NamesRead = (n : ℕ) → n ≤ 255 → name_in (decimal n) ≡ Some n

-- ---- what is written of a name and two files

-- "number file place", with a newline at the end
unfoldable pub line : ℕ → ℕ → ℕ → Bytes
line refusal file place = decimal refusal ++ (bytes " " ++ (decimal file ++ (bytes " " ++ (decimal place ++ bytes "\n"))))

-- the line of a refusal; of a sheet that is found, nothing
unfoldable pub line_unless_found : ℕ → ℕ → ℕ → Bytes
line_unless_found refusal file place = if eqb refusal 0 then [] else line refusal file place

-- to standard output the bytes of the part handed back, which is empty on a refusal
unfoldable pub written : ℕ → Bytes → Bytes → Bytes
written name customer house = bytes_of (lookup name customer house).part customer house

-- to standard error
unfoldable pub said : ℕ → Bytes → Bytes → Bytes
said name customer house =
    let a = lookup name customer house in
    line_unless_found a.refusal (file_number a.file) a.place
