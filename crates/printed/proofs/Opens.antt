-- How many `(` a reader takes: no more are left than it was given, less those that its value needs. For words and numbers none are needed.
use Rattle.std.specs.Prelude.{if◌then◌else◌}
use mathlib.Core.Path.{◌≡◌}
use mathlib.Core.Bool.{Bool, true, false, ◌||◌}
use mathlib.Core.Option.{Option, none, some}
use mathlib.Core.List.{List, [], ◌∷◌, ◌++◌}
use Prim.Native.Nat.{ℕ, zero, suc, ◌+◌, ◌-◌, ◌*◌, ◌/◌, ◌%◌, ◌≤◌}
use native.Mathlib.Nat.{le_refl}
use native.Mathlib.Omega.{arith}
use borrow.Author.Tests.{ne_eqb}
use lib.Dec.{ltb, eqb}
use lib.IntN.{ℤ, pos, negsuc}
use Rattle.rules.specs.Format.{Bytes}
use Rattle.rules.specs.Product.{decimal_in, decimal}
use Rattle.rules.proofs.Base.{if-ind}
use Rattle.text.specs.Words.{Read, stop, took, then_read, map_read, is_digit, is_letter, spaces, apart, numeral, digits, number, negative, signed_here, signed, Word, word, following, whole, or_none, or_whole, spell, keyword, symbol, name, newline, line_end}
use Rattle.printed.specs.Print.{print_value}
use Rattle.printed.specs.Claims.{opens}

-- ---- counting

pub opens-append : (s t : Bytes) → opens (s ++ t) ≡ opens s + opens t
unfolding opens
opens-append [] t = omega arith
opens-append (b ∷ s) t = let e = opens-append s t in by (eqb b 40) e
  where
    by : (q : Bool) → opens (s ++ t) ≡ opens s + opens t → (if q then suc (opens (s ++ t)) else opens (s ++ t)) ≡ (if q then suc (opens s) else opens s) + opens t
    by true e = omega arith
    by false e = e

pub opens-more : (b : ℕ) (s : Bytes) → opens s ≤ opens (b ∷ s)
unfolding opens
opens-more b s = if-ind (eqb b 40) (suc (opens s)) (opens s) (λ n. opens s ≤ n) (λ _. omega arith) (λ _. le_refl _)

digit-opens : (n : ℕ) (s : Bytes) → opens ((48 + n) ∷ s) ≡ opens s
unfolding opens
digit-opens n s = rw (ne_eqb (48 + n) 40 (λ e. absurd (omega arith)))

decimal-in-opens : (k n : ℕ) → opens (decimal_in k n) ≡ 0
unfolding decimal_in opens
decimal-in-opens zero n = digit-opens n []
decimal-in-opens (suc k) n =
    if-ind (ltb n 10) ((48 + n) ∷ []) (decimal_in k (n / 10) ++ (48 + n % 10) ∷ []) (λ s. opens s ≡ 0)
    (λ _. digit-opens n [])
    (λ _. omega (arith, opens-append (decimal_in k (n / 10)) ((48 + n % 10) ∷ []), decimal-in-opens k (n / 10), digit-opens (n % 10) []))

pub decimal-opens : (n : ℕ) → opens (decimal n) ≡ 0
unfolding decimal
decimal-opens n = decimal-in-opens n n

pub value-opens : (z : ℤ) → opens (print_value z) ≡ 0
unfolding print_value opens
value-opens (pos n) = decimal-opens n
value-opens (negsuc n) = decimal-opens (suc n)

-- ---- what is left of n, and what a value needs

-- what holds of a value that is taken and the bytes behind it
pub data Leaving {A : Type 0} (P : A → Bytes → Type 0) : Read A → Type 0 where
  stops : (r : Bytes) → Leaving P (stop r)
  takes : (a : A) (r : Bytes) → P a r → Leaving P (took a r)

abbrev pub Costs : {A : Type 0} → (A → ℕ) → ℕ → Read A → Type 0
Costs need n g = Leaving (λ a r. opens r + need a ≤ n) g

abbrev pub Takes : {A : Type 0} → (A → ℕ) → (Bytes → Read A) → Type 0
Takes need reader = (s : Bytes) → Costs need (opens s) (reader s)

-- a value that needs none
abbrev pub free : {A : Type 0} → A → ℕ
free a = 0

pub then-leaving : {A B : Type 0} {P : A → Bytes → Type 0} {Q : B → Bytes → Type 0} {g : Read A} (f : A → Bytes → Read B)
    → Leaving P g → ((a : A) (r : Bytes) → P a r → Leaving Q (f a r)) → Leaving Q (then_read g f)
unfolding then_read
then-leaving f (stops r) k = stops r
then-leaving f (takes a r h) k = k a r h

pub map-leaving : {A B : Type 0} {P : A → Bytes → Type 0} (Q : B → Bytes → Type 0) (f : A → B) {g : Read A}
    → Leaving P g → ((a : A) (r : Bytes) → P a r → Q (f a) r) → Leaving Q (map_read f g)
unfolding map_read
map-leaving Q f (stops r) k = stops r
map-leaving Q f (takes a r h) k = takes (f a) r (k a r h)

pub leaving : {A : Type 0} {P Q : A → Bytes → Type 0} {g : Read A} → Leaving P g → ((a : A) (r : Bytes) → P a r → Q a r) → Leaving Q g
leaving (stops r) k = stops r
leaving (takes a r h) k = takes a r (k a r h)

-- of more, and for less
pub costs-more : {A : Type 0} {need other : A → ℕ} {m n : ℕ} {g : Read A} → ((a : A) → other a ≤ need a) → m ≤ n → Costs need m g → Costs other n g
costs-more f l h = leaving h (λ a r e. let k = f a in omega arith)

pub of-more : {A : Type 0} (need : A → ℕ) {m n : ℕ} {g : Read A} → m ≤ n → Costs need m g → Costs need n g
of-more need l h = costs-more (λ a. le_refl (need a)) l h

-- a reader on what is left
pub on-left : {A : Type 0} (need : A → ℕ) {n : ℕ} {reader : Bytes → Read A} → Takes need reader → (r : Bytes) → opens r ≤ n → Costs need n (reader r)
on-left need h r l = of-more need l (h r)

-- ---- words and numbers

pub spaces-open : (s : Bytes) → opens (spaces s) ≤ opens s
unfolding spaces
spaces-open [] = le_refl _
spaces-open (b ∷ s) =
    let h = spaces-open s in
    let k = opens-more b s in
    if-ind (eqb b 32) (spaces s) (b ∷ s) (λ r. opens r ≤ opens (b ∷ s)) (λ _. omega arith) (λ _. le_refl _)

pub past-spaces : {A : Type 0} (need : A → ℕ) {reader : Bytes → Read A} → Takes need reader → (s : Bytes) → Costs need (opens s) (reader (spaces s))
past-spaces need h s = on-left need h (spaces s) (spaces-open s)

apart-takes : {A : Type 0} (a : A) → Takes free (apart a)
unfolding apart
apart-takes a [] = takes a [] (omega arith)
apart-takes a (b ∷ s) = if-ind (is_digit b || is_letter b) (stop (b ∷ s)) (took a (b ∷ s)) (Costs free (opens (b ∷ s))) (λ _. stops (b ∷ s)) (λ _. takes a (b ∷ s) (omega arith))

numeral-takes : (n : ℕ) → Takes free (numeral n)
unfolding numeral
numeral-takes n [] = takes n [] (omega arith)
numeral-takes n (b ∷ s) =
    if-ind (is_digit b) (numeral (n * 10 + (b - 48)) s) (apart n (b ∷ s)) (Costs free (opens (b ∷ s)))
    (λ _. of-more free (opens-more b s) (numeral-takes (n * 10 + (b - 48)) s)) (λ _. apart-takes n (b ∷ s))

pub digits-take : Takes free digits
unfolding digits
digits-take [] = stops []
digits-take (b ∷ s) =
    if-ind (is_digit b) (numeral (b - 48) s) (stop (b ∷ s)) (Costs free (opens (b ∷ s)))
    (λ _. on-left free (numeral-takes (b - 48)) s (opens-more b s)) (λ _. stops (b ∷ s))

pub number-takes : Takes free number
unfolding number
number-takes s = past-spaces free digits-take s

signed-here-takes : Takes free signed_here
unfolding signed_here
signed-here-takes [] = stops []
signed-here-takes (b ∷ s) =
    if-ind (eqb b 45) (map_read negative (number s)) (map_read pos (digits (b ∷ s))) (Costs free (opens (b ∷ s)))
    (λ _. map-leaving _ negative (on-left free number-takes s (opens-more b s)) (λ a r h. h))
    (λ _. map-leaving _ pos (digits-take (b ∷ s)) (λ a r h. h))

pub signed-takes : Takes free signed
unfolding signed
signed-takes s = past-spaces free signed-here-takes s

whole_takes : {A : Type 0} (x : Option A) (n : ℕ) (s : Bytes) (g : Read A) → opens s ≤ n → Costs free n g → Costs free n (or_whole x s g)
unfolding or_whole
whole_takes none n s g l h = h
whole_takes (some a) n s g l h = takes a s (omega arith)

none-takes : {A B : Type 0} (xs : List B) (n : ℕ) (r : Bytes) (g : Read A) → Costs free n g → Costs free n (or_none xs (stop r) g)
unfolding or_none
none-takes [] n r g h = stops r
none-takes (b ∷ xs) n r g h = h

pub spell-takes : {A : Type 0} (ws : List (Word A)) → Takes free (spell ws)
unfolding spell
spell-takes ws [] = stops []
spell-takes ws (b ∷ s) =
    let next = following b ws in
    none-takes next (opens (b ∷ s)) (b ∷ s) (or_whole (whole next) s (spell next s))
    (whole_takes (whole next) (opens (b ∷ s)) s (spell next s) (opens-more b s) (of-more free (opens-more b s) (spell-takes next s)))

pub keyword-takes : {A : Type 0} (ws : List (Word A)) → Takes free (keyword ws)
unfolding keyword
keyword-takes ws s = then-leaving apart (past-spaces free (spell-takes ws) s) (λ a r h. on-left free (apart-takes a) r (omega arith))

pub symbol-takes : (w : Bytes) → Takes free (symbol w)
unfolding symbol
symbol-takes w s = past-spaces free (spell-takes (word w tt ∷ [])) s

pub name-takes : (w : Bytes) → Takes free (name w)
unfolding name
name-takes w s = then-leaving (λ _ r. digits r) (symbol-takes w s) (λ _ r h. on-left free digits-take r (omega arith))

-- a line's end keeps the value
pub line-end-takes : {A : Type 0} (P : A → Bytes → Type 0) (a : A) (s : Bytes) → ((r : Bytes) → opens r ≤ opens s → P a r) → Leaving P (line_end a s)
unfolding line_end newline
line-end-takes P a s h = by (spaces s) (spaces-open s)
  where
    by : (t : Bytes) → opens t ≤ opens s → Leaving P (newline a t)
    by [] l = takes a [] (h [] l)
    by (b ∷ t) l = if-ind (eqb b 10) (took a t) (stop (b ∷ t)) (Leaving P) (λ _. let k = opens-more b t in takes a t (h t (omega arith))) (λ _. stops (b ∷ t))
