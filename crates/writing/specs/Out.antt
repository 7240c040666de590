-- A lent buffer that is written from a place on. What does not fit is not written; the place is then one past the buffer's end.
use Rattle.std.specs.Prelude.{◌≡◌, List, [], ◌∷◌, ◌++◌, ℕ, ◌+◌, ltb, eqb, length, set, if◌then◌else◌}
use Rattle.rules.specs.Format.{Bytes}
use Rattle.rules.specs.Product.{bytes, decimal}

pub record Out (A : Type 0) : Type 0 where
  pub buffer : List A
  pub at : ℕ

abbrev pub out_of : {A : Type 0} → List A → ℕ → Out A
out_of l at = record { buffer = l; at = at }

-- one element, as a byte
unfoldable pub put : {A : Type 0} → A → Out A → Out A
put b o =
    if ltb o.at (length o.buffer) then out_of (set o.buffer o.at b) (o.at + 1)
    else out_of o.buffer (length o.buffer + 1)

-- a text, byte by byte
unfoldable pub write : {A : Type 0} → List A → Out A → Out A
write [] o = o
write (b ∷ s) o = write s (put b o)

-- the text s, written into the buffer l from a place on, makes the buffer m, and the place behind it is r
abbrev pub Writes : {A : Type 0} → List A → List A → ℕ → List A → ℕ → Type 0
Writes s l at m r = out_of m r ≡ write s (out_of l at)

-- the longest line of five numbers: ten digits for each number of 32 bits, twenty for the place, and one byte behind each
abbrev pub longest_five : ℕ
longest_five = 65

-- a line of numbers: single spaces between them, a newline at the end
unfoldable pub line_of : List ℕ → Bytes
line_of [] = []
line_of (n ∷ []) = decimal n ++ bytes "\n"
line_of (n ∷ m ∷ ms) = decimal n ++ (bytes " " ++ line_of (m ∷ ms))

-- the line "refusal place", nothing where nothing is refused
unfoldable pub refusal_line : ℕ → ℕ → Bytes
refusal_line r p = if eqb r 0 then [] else line_of (r ∷ p ∷ [])

-- the longest one: twenty digits for each number, and one byte behind each
abbrev pub longest_refusal : ℕ
longest_refusal = 42

-- ---- numbers of an exported call

abbrev pub three : ℕ → ℕ → ℕ → List ℕ
three a b c = a ∷ b ∷ c ∷ []
