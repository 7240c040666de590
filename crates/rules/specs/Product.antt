-- The product (01, that section): what its small program lends and prints.
use Rattle.std.specs.Prelude.{[], ◌∷◌, ◌++◌, ℕ, zero, suc, ◌+◌, ◌/◌, ◌%◌, ltb, if◌then◌else◌}
use Prim.Native.Char.{code}
use Prim.Native.String as S
use Rattle.rules.specs.Constants.{lent_by_program}
use Rattle.rules.specs.Format.{Bytes}
use Rattle.rules.specs.Search.{Answer, answer}

-- a quoted text as bytes
abbrev pub bytes : S.String → Bytes
bytes S.[] = []
bytes (S.◌∷◌ c s) = code c ∷ bytes s

-- ---- "in decimal": no leading zeros. The first argument only bounds how many digits there are

unfoldable pub decimal_in : ℕ → ℕ → Bytes
decimal_in zero n = (48 + n) ∷ []
decimal_in (suc k) n =
    let more = decimal_in k (n / 10) ++ (48 + n % 10) ∷ [] in
    if ltb n 10 then (48 + n) ∷ [] else more

unfoldable pub decimal : ℕ → Bytes
decimal n = decimal_in n n

-- "prints those five in decimal, in that order, separated by single spaces, with a newline"
unfoldable pub line : Answer → Bytes
line a =
    decimal a.refusal
    ++ (bytes " " ++ (decimal a.place
    ++ (bytes " " ++ (decimal a.steps
    ++ (bytes " " ++ (decimal a.low
    ++ (bytes " " ++ (decimal a.high
    ++ bytes "\n"))))))))

-- "A small program reads a sheet from standard input, lends 12,000 numbers and prints those five": what it prints of a sheet
unfoldable pub printed : Bytes → Bytes
printed sheet = line (answer sheet lent_by_program)
