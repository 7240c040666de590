-- Words and numbers of a text, read from a place.
use Rattle.std.specs.Prelude.{if◌then◌else◌}
use mathlib.Core.Path.{◌≡◌, refl, sym, ap, subst, ◌∙◌}
use mathlib.Core.Bool.{Bool, true, false, not, ◌||◌}
use mathlib.Core.List.{[], ◌∷◌}
use Prim.Native.Nat.{ℕ, zero, suc, ◌+◌, ◌-◌, ◌≤◌, ◌<◌}
use native.Mathlib.Numerals.{add-one}
use native.Mathlib.Omega.{arith}
use native.Mathlib.Decide.{dec_lt}
use borrow.Author.Tests.{eq-eqb, ne_eqb, lt-ltb, le-ltb}
use lib.Dec.{T, eqb, ltb, ltb→lt, eqb→eq}
use lib.IntN.{pos, negsuc}
use lib.ListN.{length, drop, get_or, drop_of_length-le}
use lib.Seq.{drop-cons}
use Rattle.rules.specs.Format.{Bytes}
use Rattle.rules.specs.Constants.{half32}
use Rattle.text.specs.Convert.{fits_signed}
use Rattle.text.specs.Words.{Read, stop, took, map_read, is_digit, is_letter, apart, numeral, negative, word, following, whole, or_none, or_whole, spell}
use Rattle.rules.proofs.Interval.{in-range-is}
use Rattle.scan.specs.Reading.{read_of, same, capped, value_code, word_here}
use Rattle.std.specs.Prelude.{Result, Option, Some, None, MatchOption, ◌==◌}
use Rattle.std.specs.Option.{option_eq}
use Rattle.std.proofs.Common.{Bor}

-- the bytes from a place on
pub here : (s : Bytes) (p : ℕ) → p < length s → drop p s ≡ get_or s p 0 ∷ drop (p + 1) s
here s p h = rw (add-one, drop-cons s p 0 h)

pub over : (s : Bytes) (p : ℕ) → length s ≤ p → drop p s ≡ []
over s p h = drop_of_length-le s h

pub ruleset places = (here, over)

-- what a test says that was turned round
pub unturned : (x : Bool) {t : Bool} → t ≡ not x → not t ≡ x
unturned true e = ap not e
unturned false e = ap not e

-- the byte at a place, if there is one, is compared with another
module _ (s : Bytes) (p : ℕ) (b : Bor ℕ) where
  pub byte-same : (o : Option (Bor ℕ)) → MatchOption o (length s ≤ p) (λ x. (p < length s) × ((d : ℕ) → x.now ≡ get_or s p d))
      → true ≡ option_eq (λ x y. x.now == y.now) o (Some b) → (p < length s) × (get_or s p 0 ≡ b.now)
  byte-same None m e = absurd (cc)
  byte-same (Some x) m e = (m.0, sym (m.1 0) ∙ eqb→eq x.now b.now (subst T e tt))

  pub byte-other : (o : Option (Bor ℕ)) → MatchOption o (length s ≤ p) (λ x. (p < length s) × ((d : ℕ) → x.now ≡ get_or s p d))
      → false ≡ option_eq (λ x y. x.now == y.now) o (Some b) → p < length s → get_or s p 0 ≡ b.now → ⊥
  byte-other None m e h k = absurd (omega arith)
  byte-other (Some x) m e h k = let n : eqb x.now b.now ≡ true = eq-eqb x.now b.now (m.1 0 ∙ k) in absurd (cc)

-- ---- where letters or digits would meet

map-choice : {A B : Type 0} (f : A → B) (a : A) (b : Bool) (s : Bytes)
    → map_read f (if◌then◌else◌ b (stop s) (took a s)) ≡ if◌then◌else◌ b (stop s) (took (f a) s)
unfolding map_read
map-choice f a true s = refl
map-choice f a false s = refl

pub map-apart : {A B : Type 0} (f : A → B) (a : A) (s : Bytes) → map_read f (apart a s) ≡ apart (f a) s
unfolding apart map_read
map-apart f a [] = refl
map-apart f a (b ∷ s) = map-choice f a (is_digit b || is_letter b) (b ∷ s)

-- nothing meets a number that was read: it stands, and the place is the same
pub apart-number : (s : Bytes) (w q : ℕ) (t : Bytes) → took tt (drop q s) ≡ apart {A = Unit {0}} tt t → took w (drop q s) ≡ apart w t
unfolding map_read
apart-number s w q t h = ap (map_read (λ _. w)) h ∙ map-apart {A = Unit {0}} (λ _. w) tt t

pub apart-stop : (s : Bytes) (w q : ℕ) (t : Bytes) → stop (drop q s) ≡ apart {A = Unit {0}} tt t → stop (drop q s) ≡ apart w t
unfolding map_read
apart-stop s w q t h = ap (map_read (λ _. w)) h ∙ map-apart {A = Unit {0}} (λ _. w) tt t

-- ---- numbers

pub numeral-other : (n : ℕ) (s : Bytes) (p : ℕ) → p < length s → is_digit (get_or s p 0) ≡ false → numeral n (drop p s) ≡ apart n (drop p s)
unfolding numeral
numeral-other n s p h d = rw (here s p h, d)

-- below a bound it is the number
pub capped-below : (k n : ℕ) → k ≤ 4294967296 → ltb (capped n) k ≡ ltb n k
capped-below k n h = elim (dec_lt n k) [
  | yes l ↦ lt-ltb (capped n) k (omega arith) ∙ sym (lt-ltb n k l)
  | no l ↦ le-ltb (capped n) k (omega arith) ∙ sym (le-ltb n k (omega arith))
]

pub capped_same : (k n : ℕ) → k ≤ 4294967296 → T (ltb (capped n) k) → capped n ≡ n
capped_same k n h t = let l = ltb→lt (capped n) k t in omega arith

-- ---- values

pub positive-small : (n : ℕ) → capped n < 2147483648 → capped n ≡ value_code (pos n)
unfolding value_code fits_signed
positive-small n h = let l : n < half32 = omega arith in rw (in-range-is half32 (pos n), lt-ltb n half32 l) (omega arith)

pub positive-large : (n : ℕ) → 2147483648 ≤ capped n → 4294967296 ≡ value_code (pos n)
unfolding value_code fits_signed
positive-large n h = let l : half32 ≤ n = omega arith in rw (in-range-is half32 (pos n), le-ltb n half32 l)

pub negative-zero : (n : ℕ) → capped n ≡ 0 → 0 ≡ value_code (negative n)
unfolding value_code fits_signed negative
negative-zero zero h = rw (in-range-is half32 (pos 0))
negative-zero (suc n) h = absurd (omega arith)

pub negative-small : (n : ℕ) → (capped n ≡ 0 → ⊥) → capped n ≤ 2147483648 → 4294967296 - capped n ≡ value_code (negative n)
unfolding value_code fits_signed negative
negative-small zero z h = absurd (z refl)
negative-small (suc n) z h = let l : n < half32 = omega arith in rw (in-range-is half32 (negsuc n), lt-ltb n half32 l) (omega arith)

pub negative-large : (n : ℕ) → 2147483648 < capped n → 4294967296 ≡ value_code (negative n)
unfolding value_code fits_signed negative
negative-large zero h = absurd (omega arith)
negative-large (suc n) h = let l : half32 ≤ n = omega arith in rw (in-range-is half32 (negsuc n), le-ltb n half32 l)

pub ruleset values = (positive-small, positive-large, negative-zero, negative-small, negative-large)

-- ---- one word

-- what is left of a word at k is looked for at p; the word is over, and it was read
abbrev pub Rest : Bytes → Bytes → ℕ → ℕ → Read (Unit {0}) → Type 0
Rest w s k q g = (k < length w → g ≡ word_here (drop k w) (drop q s)) × (k ≡ length w → g ≡ took tt (drop q s))

pub word_over : (w s : Bytes) (q : ℕ) → length s ≤ q → word_here w (drop q s) ≡ stop (drop q s)
unfolding spell
word_over w s q h = rw (over s q h)

pub word-other : (w s : Bytes) (k q : ℕ) → k < length w → q < length s → (get_or s q 0 ≡ get_or w k 0 → ⊥) → word_here (drop k w) (drop q s) ≡ stop (drop q s)
unfolding spell following or_none
word-other w s k q h l n = rw (here s q l, here w k h, ne_eqb (get_or s q 0) (get_or w k 0) n)

pub word-stop : (w s : Bytes) (k q : ℕ) → k < length w → (q < length s → get_or s q 0 ≡ get_or w k 0 → ⊥) → word_here (drop k w) (drop q s) ≡ stop (drop q s)
word-stop w s k q h n = elim (dec_lt q (length s)) [
  | yes l ↦ word-other w s k q h l (n l)
  | no l ↦ word_over (drop k w) s q (omega arith)
]

word-step : (c : ℕ) (w : Bytes) (b : ℕ) (s : Bytes) → b ≡ c → (0 < length w → word_here (c ∷ w) (b ∷ s) ≡ word_here w s) × (0 ≡ length w → word_here (c ∷ w) (b ∷ s) ≡ took tt s)
unfolding spell following or_none whole or_whole
word-step c [] b s e = (λ h. absurd (omega arith), λ h. rw (eq-eqb b c e))
word-step c (d ∷ w) b s e = (λ h. rw (eq-eqb b c e), λ h. absurd (omega arith))

pub word_more : (w s : Bytes) (k q : ℕ) (g : Read (Unit {0})) → k < length w → q < length s → get_or s q 0 ≡ get_or w k 0 → Rest w s k q g → Rest w s (k + 1) (q + 1) g
word_more w s k q g h l e r =
    let x = word-step (get_or w k 0) (drop (k + 1) w) (get_or s q 0) (drop (q + 1) s) e in
    let y : word_here (drop k w) (drop q s) ≡ word_here (get_or w k 0 ∷ drop (k + 1) w) (get_or s q 0 ∷ drop (q + 1) s) = rw (here s q l, here w k h) in
    let n : length (drop (k + 1) w) ≡ length w - (k + 1) = lib.ListN.length-drop (k + 1) w in
    (λ m. r.0 h ∙ y ∙ x.0 (omega arith), λ m. r.0 h ∙ y ∙ x.1 (omega arith))

-- what a word stands for is of no account to how it is read
spell-cons : {A : Type 0} (c : ℕ) (w : Bytes) (a : A) (b : ℕ) (s : Bytes) (t : Bool) → eqb b c ≡ t
    → spell (word (c ∷ w) a ∷ []) (b ∷ s) ≡ if◌then◌else◌ t (or_whole (whole (word w a ∷ [])) s (spell (word w a ∷ []) s)) (stop (b ∷ s))
unfolding spell following or_none
spell-cons c w a b s true e = rw e
spell-cons c w a b s false e = rw e

pub spell-map : {A : Type 0} (w : Bytes) (a : A) (s : Bytes) → spell (word w a ∷ []) s ≡ map_read (λ _. a) (word_here w s)
unfolding spell following or_none map_read or_whole whole
spell-map w a [] = refl
spell-map [] a (b ∷ s) = refl
spell-map (c ∷ w) a (b ∷ s) =
    spell-cons c w a b s (eqb b c) refl ∙ by-test (eqb b c) (rest w (spell-map w a s)) ∙ ap (map_read (λ _. a)) (sym (spell-cons c w tt b s (eqb b c) refl))
  where
    rest : (w : Bytes) → spell (word w a ∷ []) s ≡ map_read (λ _. a) (word_here w s)
        → or_whole (whole (word w a ∷ [])) s (spell (word w a ∷ []) s) ≡ map_read (λ _. a) (or_whole (whole (word w tt ∷ [])) s (word_here w s))
    rest [] h = refl
    rest (d ∷ w) h = h

    by-test : (t : Bool) → or_whole (whole (word w a ∷ [])) s (spell (word w a ∷ []) s) ≡ map_read (λ _. a) (or_whole (whole (word w tt ∷ [])) s (word_here w s))
        → if◌then◌else◌ t (or_whole (whole (word w a ∷ [])) s (spell (word w a ∷ []) s)) (stop (b ∷ s))
        ≡ map_read (λ _. a) (if◌then◌else◌ t (or_whole (whole (word w tt ∷ [])) s (word_here w s)) (stop (b ∷ s)))
    by-test true h = h
    by-test false h = refl

-- ---- digit by digit

-- from v at p the code has come to w at q
pub record SoFar (s : Bytes) (v p w q : ℕ) : Type 0 where
  pub on : p ≤ q
  pub inside : q ≤ length s
  pub small : w ≤ 4294967296
  pub grown : (n : ℕ) → v ≡ capped n → (m : ℕ) × ((w ≡ capped m) × (numeral n (drop p s) ≡ numeral m (drop q s)))

pub sofar-apart : (s : Bytes) (v p w q : ℕ) (r : Result (ℕ × ℕ) ℕ) → SoFar s v p w q → q < length s → is_digit (get_or s q 0) ≡ false
    → read_of same s r ≡ apart w (drop q s) → (n : ℕ) → v ≡ capped n → read_of same s r ≡ map_read capped (numeral n (drop p s))
sofar-apart s v p w q r i h d a n e =
    let g = i.grown n e in
    a ∙ ap (λ k. apart k (drop q s)) g.1.0 ∙ sym (map-apart capped g.0 (drop q s))
    ∙ ap (map_read capped) (sym (g.1.1 ∙ numeral-other g.0 s q h d))
