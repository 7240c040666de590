-- Words and numbers of a text (02, ticket 2). A reader takes the bytes that are left. It stops at the first byte that cannot
-- go on, or at the text's end; or it takes a value and leaves the bytes behind it.
use Rattle.std.specs.Prelude.{Bool, ◌&&◌, ◌||◌, List, [], ◌∷◌, ℕ, zero, suc, ◌+◌, ◌-◌, ◌*◌, leb, eqb, ℤ, pos, negsuc, if◌then◌else◌}
use Rattle.std.proofs.Math.Option.{Option, none, some}
use Prim.Native.Char.{code}
use Prim.Native.String as S
use Rattle.rules.specs.Format.{Bytes}

-- a quoted text as bytes
abbrev pub bytes : S.String → Bytes
bytes S.[] = []
bytes (S.◌∷◌ c s) = code c ∷ bytes s

pub data Read (A : Type 0) : Type 0 where
  -- the bytes from the first one that cannot go on
  stop : Bytes → Read A
  -- a value, and the bytes behind it
  took : A → Bytes → Read A

unfoldable pub then_read : {A B : Type 0} → Read A → (A → Bytes → Read B) → Read B
then_read (stop r) f = stop r
then_read (took a r) f = f a r

unfoldable pub map_read : {A B : Type 0} → (A → B) → Read A → Read B
map_read f (stop r) = stop r
map_read f (took a r) = took (f a) r

-- ---- "Spaces are free between words and at a line's ends, needed only where letters or digits of two words would meet"

unfoldable pub is_digit : ℕ → Bool
is_digit b = leb 48 b && leb b 57

unfoldable pub is_letter : ℕ → Bool
is_letter b = leb 97 b && leb b 122

-- a space is byte 32 alone: a tab, a carriage return or upper case stands in no word and cannot go on
unfoldable pub spaces : Bytes → Bytes
spaces [] = []
spaces (b ∷ s) = let r = spaces s in if eqb b 32 then r else b ∷ s

-- behind a word of letters or digits no letter or digit stands: words that meet stop at the second one's first byte
unfoldable pub apart : {A : Type 0} → A → Bytes → Read A
apart a [] = took a []
apart a (b ∷ s) = if is_digit b || is_letter b then stop (b ∷ s) else took a (b ∷ s)

-- ---- numbers, of any length, leading zeros too

-- the digits (48 to 57) that follow a number read so far
unfoldable pub numeral : ℕ → Bytes → Read ℕ
numeral n [] = took n []
numeral n (b ∷ s) = let r = numeral (n * 10 + (b - 48)) s in if is_digit b then r else apart n (b ∷ s)

-- a number, right here
unfoldable pub digits : Bytes → Read ℕ
digits [] = stop []
digits (b ∷ s) = if is_digit b then numeral (b - 48) s else stop (b ∷ s)

unfoldable pub number : Bytes → Read ℕ
number s = digits (spaces s)

-- `-0` is 0
unfoldable pub negative : ℕ → ℤ
negative zero = pos 0
negative (suc n) = negsuc n

-- a number that may have a minus before it, with spaces between them or none
unfoldable pub signed_here : Bytes → Read ℤ
signed_here [] = stop []
signed_here (b ∷ s) = if eqb b 45 then map_read negative (number s) else map_read pos (digits (b ∷ s))

unfoldable pub signed : Bytes → Read ℤ
signed s = signed_here (spaces s)

-- ---- words, letter by letter: of those that may stand here, which go on with the next byte? None is the start of another.

-- a word and what it stands for
pub data Word (A : Type 0) : Type 0 where
  word : Bytes → A → Word A

-- those that go on with a byte, each without it
unfoldable pub following : {A : Type 0} → ℕ → List (Word A) → List (Word A)
following b [] = []
following b (word [] a ∷ ws) = following b ws
following b (word (c ∷ w) a ∷ ws) = if eqb b c then word w a ∷ following b ws else following b ws

-- the one that is whole
unfoldable pub whole : {A : Type 0} → List (Word A) → Option A
whole [] = none
whole (word [] a ∷ ws) = some a
whole (word (c ∷ w) a ∷ ws) = whole ws

unfoldable pub or_none : {A B : Type 0} → List A → B → B → B
or_none [] x y = x
or_none (a ∷ more) x y = y

unfoldable pub or_whole : {A : Type 0} → Option A → Bytes → Read A → Read A
or_whole none s r = r
or_whole (some a) s r = took a s

unfoldable pub spell : {A : Type 0} → List (Word A) → Bytes → Read A
spell ws [] = stop []
spell ws (b ∷ s) =
    let next = following b ws in
    let r = spell next s in
    let w = or_whole (whole next) s r in
    or_none next (stop (b ∷ s)) w

-- one of several words of letters
unfoldable pub keyword : {A : Type 0} → List (Word A) → Bytes → Read A
keyword ws s = then_read (spell ws (spaces s)) apart

-- one word of other signs
unfoldable pub symbol : Bytes → Bytes → Read (Unit {0})
symbol w s = spell (word w tt ∷ []) (spaces s)

-- a name: `r0`, `x1`, `l0`, its letter and its number one word
unfoldable pub name : Bytes → Bytes → Read ℕ
name w s = then_read (symbol w s) (λ _ r. digits r)

-- the end of a line: "the last newline may be missing". A blank line has no first word: its reading stops at its newline, or at the
-- text's end.
unfoldable pub newline : {A : Type 0} → A → Bytes → Read A
newline a [] = took a []
newline a (b ∷ s) = if eqb b 10 then took a s else stop (b ∷ s)

unfoldable pub line_end : {A : Type 0} → A → Bytes → Read A
line_end a s = newline a (spaces s)
