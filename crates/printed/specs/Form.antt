-- The form of a printed text, said of its bytes one by one (02, ticket 4): "single spaces (none after `!`, `(` or a constant's minus, before
-- `)` or round `..`), no leading zeros, a newline after each line, no blank lines".
use Rattle.std.specs.Prelude.{◌≡◌, Bool, true, false, ◌||◌, [], ◌∷◌, ℕ, eqb, if◌then◌else◌}
use Rattle.std.proofs.Math.Option.{Option, none, some}
use Rattle.rules.specs.Format.{Bytes}
use Rattle.text.specs.Words.{is_digit}

-- what stands right before a byte
pub data Before : Type 0 where
  -- a newline, or nothing: a line begins
  line_start : Before
  -- a space; whether an operand, which ends with a digit or `)`, stands before it
  a_space : Bool → Before
  -- `!` or `(`
  an_opening : Before
  -- a dot of `..`
  a_dot : Before
  -- a minus; whether an operand and a space stand before it: otherwise it is a constant's
  a_minus : Bool → Before
  -- a 0 that begins a number
  a_zero : Before
  -- another digit
  a_digit : Before
  -- `)`
  a_closing : Before
  -- any other byte
  another : Before

unfoldable pub ends_operand : Before → Bool
ends_operand line_start = false
ends_operand (a_space q) = false
ends_operand an_opening = false
ends_operand a_dot = false
ends_operand (a_minus q) = false
ends_operand a_zero = true
ends_operand a_digit = true
ends_operand a_closing = true
ends_operand another = false

unfoldable pub in_number : Before → Bool
in_number line_start = false
in_number (a_space q) = false
in_number an_opening = false
in_number a_dot = false
in_number (a_minus q) = false
in_number a_zero = true
in_number a_digit = true
in_number a_closing = false
in_number another = false

-- a space with an operand before it
unfoldable pub behind_operand : Before → Bool
behind_operand line_start = false
behind_operand (a_space q) = q
behind_operand an_opening = false
behind_operand a_dot = false
behind_operand (a_minus q) = false
behind_operand a_zero = false
behind_operand a_digit = false
behind_operand a_closing = false
behind_operand another = false

-- ---- what a byte is to the next one

-- newline 10, space 32, `!` 33, `(` 40, `)` 41, `-` 45, `.` 46, `0` 48
unfoldable pub passed : Before → ℕ → Before
passed x b =
    if is_digit b then (if eqb b 48 then (if in_number x then a_digit else a_zero) else a_digit)
    else if eqb b 10 then line_start
    else if eqb b 32 then a_space (ends_operand x)
    else if eqb b 33 || eqb b 40 then an_opening
    else if eqb b 41 then a_closing
    else if eqb b 45 then a_minus (behind_operand x)
    else if eqb b 46 then a_dot
    else another

-- ---- which bytes may follow

-- "single spaces (none after `!`, `(` or a constant's minus, [..] or round `..`)", and none where a line begins
unfoldable pub space_may : Before → Bool
space_may line_start = false
space_may (a_space q) = false
space_may an_opening = false
space_may a_dot = false
space_may (a_minus q) = q
space_may a_zero = true
space_may a_digit = true
space_may a_closing = true
space_may another = true

-- none "before `)` or round `..`"
unfoldable pub no_space : Before → Bool
no_space line_start = true
no_space (a_space q) = false
no_space an_opening = true
no_space a_dot = true
no_space (a_minus q) = true
no_space a_zero = true
no_space a_digit = true
no_space a_closing = true
no_space another = true

-- "no blank lines", and no space where a line ends
unfoldable pub newline_may : Before → Bool
newline_may line_start = false
newline_may (a_space q) = false
newline_may an_opening = true
newline_may a_dot = true
newline_may (a_minus q) = true
newline_may a_zero = true
newline_may a_digit = true
newline_may a_closing = true
newline_may another = true

-- "no leading zeros"
unfoldable pub digit_may : Before → Bool
digit_may line_start = true
digit_may (a_space q) = true
digit_may an_opening = true
digit_may a_dot = true
digit_may (a_minus q) = true
digit_may a_zero = false
digit_may a_digit = true
digit_may a_closing = true
digit_may another = true

unfoldable pub may : Before → ℕ → Bool
may x b =
    if is_digit b then digit_may x
    else if eqb b 10 then newline_may x
    else if eqb b 32 then space_may x
    else if eqb b 41 || eqb b 46 then no_space x
    else true

-- ---- a text

-- what stands at the end of a text in which each byte may stand
unfoldable pub gone_through : Before → Bytes → Option Before
gone_through x [] = some x
gone_through x (b ∷ s) =
    let more = gone_through (passed x b) s in
    if may x b then more else none

-- each byte may stand, and "a newline after each line": the last one too
abbrev pub Tidy : Bytes → Type 0
Tidy text = gone_through line_start text ≡ some line_start
