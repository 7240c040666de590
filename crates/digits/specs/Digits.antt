-- Numbers in decimal digits, as a word writes them.
use Rattle.std.specs.Prelude.{◌≡◌, Bool, ◌&&◌, [], ◌∷◌, ℕ, ◌+◌, ◌-◌, ◌*◌, leb, if◌then◌else◌, Option, Some, None}
use Rattle.rules.specs.Base.{all}
use Rattle.rules.specs.Format.{Bytes}
use Rattle.rules.specs.Product.{decimal}

-- ---- the number that digits write, of any size

abbrev pub is_digit : ℕ → Bool
is_digit d = leb 48 d && leb d 57

abbrev pub are_digits : Bytes → Bool
are_digits ds = all is_digit ds

-- a number with one digit more
abbrev pub with_digit : ℕ → ℕ → ℕ
with_digit n d = n * 10 + (d - 48)

-- the number that n and the digits behind it write
unfoldable pub value_from : ℕ → Bytes → ℕ
value_from n [] = n
value_from n (d ∷ ds) = value_from (with_digit n d) ds

abbrev pub value : Bytes → ℕ
value ds = value_from 0 ds

-- ---- what is told of it

-- numbers from here on are not told apart
abbrev pub top : ℕ
top = 65536

unfoldable pub cut : ℕ → ℕ
cut n = if leb n top then n else top

abbrev pub number_from : ℕ → Bytes → Option ℕ
number_from n ds = if are_digits ds then Some (cut (value_from n ds)) else None

-- a word of at least one digit
unfoldable pub number_in : Bytes → Option ℕ
number_in [] = None
number_in (d ∷ ds) = number_from 0 (d ∷ ds)

-- the claim: every number is read from its own decimal
abbrev pub DecimalsRead : Type 0
DecimalsRead = (n : ℕ) → number_in (decimal n) ≡ Some (cut n)
