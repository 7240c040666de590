-- Numbers in digits: each is written by its own decimal, a cut goes through the digits behind it, and a loop stands at a digit.
use Rattle.std.specs.Prelude.{if◌then◌else◌, Some, None}
use mathlib.Core.Path.{◌≡◌, refl, sym, ap, subst, ◌∙◌}
use mathlib.Core.Bool.{Bool, true, false, ◌&&◌}
use mathlib.Core.List.{[], ◌∷◌, ◌++◌}
use Prim.Native.Nat.{ℕ, zero, suc, ◌+◌, ◌/◌, ◌%◌, ◌≤◌, ◌<◌}
use native.Mathlib.Nat.{div-lt_self}
use native.Mathlib.Decide.{dec_le, dec_lt}
use native.Mathlib.Omega.{arith}
use lib.Dec.{leb}
use lib.ListN.{length, drop, get_or, drop_of_length-le, length-append}
use lib.Seq.{drop-cons}
use borrow.Author.Tests.{le-leb, lt-leb, lt-ltb, le-ltb}
use Rattle.rules.specs.Base.{all}
use Rattle.rules.specs.Format.{Bytes}
use Rattle.rules.specs.Product.{decimal_in, decimal}
use Rattle.digits.specs.Digits.{is_digit, are_digits, with_digit, value_from, value, DecimalsRead, top, cut, number_from, number_in}

-- ---- every number is written by its own decimal

digit-is : (n : ℕ) → n < 10 → is_digit (48 + n) ≡ true
digit-is n h = let a : 48 ≤ 48 + n = omega arith in let b : 48 + n ≤ 57 = omega arith in rw (le-leb 48 (48 + n) a, le-leb (48 + n) 57 b)

and_then : (a b c : Bool) → (b ≡ true → c ≡ true) → (a && b) ≡ true → (a && c) ≡ true
and_then true b c f h = f h
and_then false b c f h = h

digits-snoc : (ds : Bytes) (d : ℕ) → is_digit d ≡ true → are_digits ds ≡ true → are_digits (ds ++ d ∷ []) ≡ true
unfolding all
digits-snoc [] d k h = rw k
digits-snoc (x ∷ ds) d k h = and_then (is_digit x) (are_digits ds) (are_digits (ds ++ d ∷ [])) (digits-snoc ds d k) h

value-snoc : (ds : Bytes) (n d : ℕ) → value_from n (ds ++ d ∷ []) ≡ with_digit (value_from n ds) d
unfolding value_from
value-snoc [] n d = refl
value-snoc (x ∷ ds) n d = value-snoc ds (with_digit n x) d

-- digits that write a number, one at least
record Write (n : ℕ) (ds : Bytes) : Type 0 where
  some : 1 ≤ length ds
  digits : are_digits ds ≡ true
  writes : value ds ≡ n

one_writes : (n : ℕ) → n < 10 → Write n ((48 + n) ∷ [])
unfolding all value_from
one_writes n h = record { some = omega arith; digits = rw (digit-is n h); writes = omega arith }

more-write : (n : ℕ) (ds : Bytes) → Write (n / 10) ds → Write n (ds ++ (48 + n % 10) ∷ [])
more-write n ds w =
    let v = value-snoc ds 0 (48 + n % 10) in
    let e = w.writes in
    record {
      some = omega (arith, length-append ds ((48 + n % 10) ∷ []));
      digits = digits-snoc ds (48 + n % 10) (digit-is (n % 10) (omega arith)) w.digits;
      writes = omega arith;
    }

decimal-writes : (k n : ℕ) → n ≤ k → Write n (decimal_in k n)
unfolding decimal_in
decimal-writes zero n h = one_writes n (omega arith)
decimal-writes (suc k) n h = elim (dec_lt n 10) [
  | yes l ↦ subst (λ (b : Bool). Write n (if b then (48 + n) ∷ [] else decimal_in k (n / 10) ++ (48 + n % 10) ∷ [])) (sym (lt-ltb n 10 l)) (one_writes n l)
  | no l ↦
      let m : 10 ≤ n = omega arith in
      let less : n / 10 < n = div-lt_self (omega arith) (omega arith) in
      subst (λ (b : Bool). Write n (if b then (48 + n) ∷ [] else decimal_in k (n / 10) ++ (48 + n % 10) ∷ [])) (sym (le-ltb n 10 m))
      (more-write n (decimal_in k (n / 10)) (decimal-writes k (n / 10) (omega arith)))
]

number-written : (n : ℕ) (ds : Bytes) → Write n ds → number_in ds ≡ Some (cut n)
unfolding number_in
number-written n [] w = let h = w.some in absurd (omega arith)
number-written n (d ∷ ds) w = rw w.digits (ap (λ (m : ℕ). Some (cut m)) w.writes)

pub decimals-read : DecimalsRead
unfolding decimal
decimals-read n = number-written n (decimal n) (decimal-writes n n (omega arith))

-- ---- the cut

pub cut_small : (n : ℕ) → n ≤ top → cut n ≡ n
unfolding cut
cut_small n h = rw (le-leb n top h)

pub cut-large : (n : ℕ) → top < n → cut n ≡ top
unfolding cut
cut-large n h = rw (lt-leb n top h)

pub cut_below : (n : ℕ) → cut n ≤ top
cut_below n = elim (dec_le n top) [
  | yes h ↦ omega (arith, cut_small n h)
  | no h ↦ let l : top < n = omega arith in omega (arith, cut-large n l)
]

cut_digit : (n d : ℕ) → cut (with_digit (cut n) d) ≡ cut (with_digit n d)
cut_digit n d = elim (dec_le n top) [
  | yes h ↦ ap (λ (m : ℕ). cut (with_digit m d)) (cut_small n h)
  | no h ↦
      let l : top < n = omega arith in
      ap (λ (m : ℕ). cut (with_digit m d)) (cut-large n l) ∙ cut-large (with_digit top d) (omega arith) ∙ sym (cut-large (with_digit n d) (omega arith))
]

-- what is written behind a cut number is cut all the same
cut-from : (ds : Bytes) (n : ℕ) → cut (value_from (cut n) ds) ≡ cut (value_from n ds)
unfolding value_from
cut-from [] n = cut_small (cut n) (cut_below n)
cut-from (d ∷ ds) n =
    sym (cut-from ds (with_digit (cut n) d)) ∙ ap (λ (m : ℕ). cut (value_from m ds)) (cut_digit n d) ∙ cut-from ds (with_digit n d)

-- ---- a loop that stands at a digit

-- what the digits so far make, and what is left of them
abbrev pub SoFar : Bytes → ℕ → ℕ → Type 0
SoFar ds n i = (number_in ds ≡ number_from n (drop i ds)) × (n ≤ top)

pub no-digits : (ds : Bytes) → length ds ≡ 0 → None ≡ number_in ds
unfolding number_in
no-digits [] h = refl
no-digits (d ∷ ds) h = absurd (omega arith)

pub digits-start : (ds : Bytes) → (length ds ≡ 0 → ⊥) → SoFar ds 0 0
unfolding number_in
digits-start [] h = absurd (h refl)
digits-start (d ∷ ds) h = (refl, omega arith)

module _ (ds : Bytes) (n i : ℕ) (so_far : SoFar ds n i) where
  pub digits-over : length ds ≤ i → Some n ≡ number_in ds
  unfolding all value_from
  digits-over h = sym (so_far.0 ∙ ap (number_from n) (drop_of_length-le ds h) ∙ ap Some (cut_small n so_far.1))

  module _ (h : i < length ds) where
    abbrev d : ℕ
    d = get_or ds i 0

    abbrev rest : Bytes
    rest = drop (suc i) ds

    -- by the tests on the next digit
    next : {a b : Bool} → leb 48 d ≡ a → leb d 57 ≡ b
        → number_in ds ≡ (if (a && b) && are_digits rest then Some (cut (value_from (with_digit n d) rest)) else None)
    unfolding all value_from
    next e f =
        so_far.0 ∙ ap (number_from n) (drop-cons ds i 0 h)
        ∙ (λ t. if (e t && f t) && are_digits rest then Some (cut (value_from (with_digit n d) rest)) else None)

    pub below-digits : d < 48 → None ≡ number_in ds
    below-digits l = sym (next (lt-leb 48 d l) refl)

    pub above-digits : 48 ≤ d → 57 < d → None ≡ number_in ds
    above-digits l m = sym (next (le-leb 48 d l) (lt-leb d 57 m))

    pub one_more : 48 ≤ d → d ≤ 57 → (m : ℕ) → m ≡ cut (with_digit n d) → SoFar ds m (i + 1)
    one_more l u m e =
        let s : suc i ≡ i + 1 = omega arith in (
          next (le-leb 48 d l) (le-leb d 57 u)
              ∙ ap (λ (x : ℕ). if are_digits rest then Some x else None) (sym (cut-from rest (with_digit n d)) ∙ ap (λ (x : ℕ). cut (value_from x rest)) (sym e))
              ∙ ap (λ (j : ℕ). number_from m (drop j ds)) s,
          omega (arith, cut_below (with_digit n d)),
        )

-- what the search is given for `number_in`
pub ruleset word_laws = (no-digits, digits-start, digits-over, below-digits, above-digits)
