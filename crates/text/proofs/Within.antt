-- No reader leaves more bytes than it was given: so every place lies in the text, and loops may be unrolled turn by turn.
use mathlib.Core.Bool.{◌||◌}
use mathlib.Core.Option.{Option, none, some}
use mathlib.Core.List.{List, [], ◌∷◌}
use Prim.Native.Nat.{ℕ, suc, ◌+◌, ◌-◌, ◌*◌, ◌≤◌, ◌<◌}
use native.Mathlib.Nat.{le_refl, le_trans}
use native.Mathlib.Omega.{arith}
use lib.Dec.{eqb}
use lib.IntN.{pos}
use lib.ListN.{length}
use Rattle.rules.specs.Format.{Bytes}
use Rattle.text.specs.Words.{Read, stop, took, then_read, map_read, is_digit, is_letter, spaces, apart, numeral, digits, number, negative, signed_here, signed, Word, word, following, whole, or_none, or_whole, spell, keyword, symbol, name, newline, line_end}
use Rattle.rules.proofs.Base.{if-ind}

-- at most n bytes are left, where it stops or behind what it took
abbrev pub Within : {A : Type 0} → ℕ → Read A → Type 0
Within n (stop r) = length r ≤ n
Within n (took a r) = length r ≤ n

abbrev pub Shortens : {A : Type 0} → (Bytes → Read A) → Type 0
Shortens reader = (s : Bytes) → Within (length s) (reader s)

pub within_more : {A : Type 0} {m n : ℕ} (g : Read A) → m ≤ n → Within m g → Within n g
within_more (stop r) l h = le_trans h l
within_more (took a r) l h = le_trans h l

pub then-within : {A B : Type 0} {n : ℕ} (g : Read A) (f : A → Bytes → Read B) → Within n g → ((a : A) (r : Bytes) → length r ≤ n → Within n (f a r)) → Within n (then_read g f)
unfolding then_read
then-within (stop r) f h k = h
then-within (took a r) f h k = k a r h

pub map-within : {A B : Type 0} (n : ℕ) (f : A → B) (g : Read A) → Within n g → Within n (map_read f g)
unfolding map_read
map-within n f (stop r) h = h
map-within n f (took a r) h = h

-- a reader on what is left
pub on-rest : {A : Type 0} {n : ℕ} (reader : Bytes → Read A) → Shortens reader → (r : Bytes) → length r ≤ n → Within n (reader r)
on-rest reader h r l = within_more (reader r) l (h r)

-- ---- words and numbers

pub spaces-shorten : (s : Bytes) → length (spaces s) ≤ length s
unfolding spaces
spaces-shorten [] = le_refl 0
spaces-shorten (b ∷ s) =
    let h = spaces-shorten s in
    if-ind (eqb b 32) (spaces s) (b ∷ s) (λ r. length r ≤ suc (length s)) (λ _. omega arith) (λ _. omega arith)

-- past spaces
past-spaces : {A : Type 0} (reader : Bytes → Read A) → Shortens reader → (s : Bytes) → Within (length s) (reader (spaces s))
past-spaces reader h s = on-rest reader h (spaces s) (spaces-shorten s)

pub apart-within : {A : Type 0} (a : A) → Shortens (apart a)
unfolding apart
apart-within a [] = le_refl 0
apart-within a (b ∷ s) = if-ind (is_digit b || is_letter b) (stop (b ∷ s)) (took a (b ∷ s)) (Within (suc (length s))) (λ _. le_refl _) (λ _. le_refl _)

pub numeral-within : (n : ℕ) → Shortens (numeral n)
unfolding numeral
numeral-within n [] = le_refl 0
numeral-within n (b ∷ s) =
    if-ind (is_digit b) (numeral (n * 10 + (b - 48)) s) (apart n (b ∷ s)) (Within (suc (length s)))
    (λ _. within_more (numeral (n * 10 + (b - 48)) s) (omega arith) (numeral-within (n * 10 + (b - 48)) s)) (λ _. apart-within n (b ∷ s))

pub digits-within : Shortens digits
unfolding digits
digits-within [] = le_refl 0
digits-within (b ∷ s) =
    if-ind (is_digit b) (numeral (b - 48) s) (stop (b ∷ s)) (Within (suc (length s)))
    (λ _. within_more (numeral (b - 48) s) (omega arith) (numeral-within (b - 48) s)) (λ _. le_refl _)

pub number-within : Shortens number
unfolding number
number-within s = past-spaces digits digits-within s

pub signed-here-within : Shortens signed_here
unfolding signed_here
signed-here-within [] = le_refl 0
signed-here-within (b ∷ s) =
    if-ind (eqb b 45) (map_read negative (number s)) (map_read pos (digits (b ∷ s))) (Within (suc (length s)))
    (λ _. map-within (suc (length s)) negative (number s) (within_more (number s) (omega arith) (number-within s)))
    (λ _. map-within (suc (length s)) pos (digits (b ∷ s)) (digits-within (b ∷ s)))

pub signed-within : Shortens signed
unfolding signed
signed-within s = past-spaces signed_here signed-here-within s

-- a word takes at least its first byte
abbrev pub Eats : {A : Type 0} → ℕ → Read A → Type 0
Eats n (stop r) = length r ≤ n
Eats n (took a r) = length r < n

pub eats-within : {A : Type 0} (n : ℕ) (g : Read A) → Eats n g → Within n g
eats-within n (stop r) h = h
eats-within n (took a r) h = omega arith

pub eats-more : {A : Type 0} {m n : ℕ} (g : Read A) → m ≤ n → Eats m g → Eats n g
eats-more (stop r) l h = le_trans h l
eats-more (took a r) l h = omega arith

whole-eats : {A : Type 0} (x : Option A) (n : ℕ) (s : Bytes) (g : Read A) → length s ≤ n → Eats n g → Eats (suc n) (or_whole x s g)
unfolding or_whole
whole-eats none n s g l h = eats-more g (omega arith) h
whole-eats (some a) n s g l h = omega arith

none-eats : {A B : Type 0} (xs : List B) (n : ℕ) (x y : Read A) → Eats n x → Eats n y → Eats n (or_none xs x y)
unfolding or_none
none-eats [] n x y h k = h
none-eats (b ∷ xs) n x y h k = k

pub spell-eats : {A : Type 0} (ws : List (Word A)) (s : Bytes) → Eats (length s) (spell ws s)
unfolding spell
spell-eats ws [] = le_refl 0
spell-eats ws (b ∷ s) =
    none-eats (following b ws) (suc (length s)) (stop (b ∷ s)) (or_whole (whole (following b ws)) s (spell (following b ws) s)) (le_refl _)
    (whole-eats (whole (following b ws)) (length s) s (spell (following b ws) s) (le_refl _) (spell-eats (following b ws) s))

pub spell-within : {A : Type 0} (ws : List (Word A)) → Shortens (spell ws)
spell-within ws s = eats-within (length s) (spell ws s) (spell-eats ws s)

pub keyword-within : {A : Type 0} (ws : List (Word A)) → Shortens (keyword ws)
unfolding keyword
keyword-within ws s = then-within (spell ws (spaces s)) apart (past-spaces (spell ws) (spell-within ws) s) (λ a r l. on-rest (apart a) (apart-within a) r l)

pub symbol-within : (w : Bytes) → Shortens (symbol w)
unfolding symbol
symbol-within w s = past-spaces (spell (word w tt ∷ [])) (spell-within (word w tt ∷ [])) s

pub name-within : (w : Bytes) → Shortens (name w)
unfolding name
name-within w s = then-within (symbol w s) (λ _ r. digits r) (symbol-within w s) (λ _ r l. on-rest digits digits-within r l)

pub newline-within : {A : Type 0} (a : A) → Shortens (newline a)
unfolding newline
newline-within a [] = le_refl 0
newline-within a (b ∷ s) = if-ind (eqb b 10) (took a s) (stop (b ∷ s)) (Within (suc (length s))) (λ _. omega arith) (λ _. le_refl _)

pub line-end-within : {A : Type 0} (a : A) → Shortens (line_end a)
unfolding line_end
line-end-within a s = past-spaces (newline a) (newline-within a) s
