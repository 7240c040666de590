-- What a reader in code gives, as the rules' own reading of the bytes that are left.
use Rattle.std.specs.Prelude.{[], ◌∷◌, ℕ, ◌≤◌, min, ℤ, length, drop, if◌then◌else◌, Result, Ok, Err}
use Rattle.rules.specs.Format.{Bytes}
use Rattle.rules.specs.Encoding.{unsigned}
use Rattle.text.specs.Words.{Read, stop, took, word, spell}
use Rattle.text.specs.Convert.{fits_signed}

-- a number and the place behind it, or the place of the first byte that cannot go on; the code's number stands for what f says
abbrev pub read_of : {A : Type 0} → (ℕ → A) → Bytes → Result (ℕ × ℕ) ℕ → Read A
read_of f s (Ok (v, q)) = took (f v) (drop q s)
read_of f s (Err q) = stop (drop q s)

abbrev pub same : ℕ → ℕ
same v = v

-- the place behind something that says no more than that it stands there, or of the first byte that cannot go on
abbrev pub passed : Bytes → Result ℕ ℕ → Read (Unit {0})
passed s (Ok q) = took tt (drop q s)
passed s (Err q) = stop (drop q s)

abbrev pub Onward : Bytes → ℕ → ℕ → Type 0
Onward s p q = (p ≤ q) × (q ≤ length s)

abbrev pub place_of : Result (ℕ × ℕ) ℕ → ℕ
place_of (Ok (v, q)) = q
place_of (Err q) = q

abbrev pub passed_place : Result ℕ ℕ → ℕ
passed_place (Ok q) = q
passed_place (Err q) = q

abbrev pub OnwardPassed : Bytes → ℕ → Result ℕ ℕ → Type 0
OnwardPassed s p r = Onward s p (passed_place r)

abbrev pub OnwardStep : Bytes → ℕ → Result (ℕ × ℕ) ℕ → Type 0
OnwardStep s p r = Onward s p (place_of r)

-- numbers are kept up to a bound that is past every field's
abbrev pub capped : ℕ → ℕ
capped n = min n 4294967296

-- a value's 32 bits, or the bound where it does not fit
unfoldable pub value_code : ℤ → ℕ
value_code z = if fits_signed z then unsigned z else 4294967296

-- one word, right here
abbrev pub word_here : Bytes → Bytes → Read (Unit {0})
word_here w s = spell (word w tt ∷ []) s
