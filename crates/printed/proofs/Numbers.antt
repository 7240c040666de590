-- A number that is printed reads back, whatever its size, and begins with a digit.
use mathlib.Core.Path.{◌≡◌, refl, ap, ◌∙◌}
use mathlib.Core.Bool.{true, false}
use mathlib.Core.List.{[], ◌∷◌, ◌++◌, append_assoc}
use Prim.Native.Nat.{ℕ, zero, suc, ◌+◌, ◌-◌, ◌*◌, ◌/◌, ◌%◌, ◌≤◌, ◌<◌}
use native.Mathlib.Nat.{mod-lt, div-add-mod', div-lt_self}
use native.Mathlib.Decide.{dec_lt}
use native.Mathlib.Omega.{arith}
use borrow.Author.Tests.{le-leb, lt-ltb, le-ltb, ne_eqb}
use lib.Dec.{T, eqb}
use lib.IntN.{ℤ, pos, negsuc}
use Rattle.rules.specs.Format.{Bytes}
use Rattle.rules.specs.Product.{decimal_in, decimal}
use Rattle.text.specs.Words.{Read, took, map_read, is_digit, spaces, numeral, digits, number, negative, signed_here, signed}
use Rattle.text.proofs.Follows.{word_ends}
use Rattle.text.proofs.CompletesNumbers.{numeral-over}
use Rattle.printed.specs.Print.{print_value}

pub digit : (n : ℕ) → n < 10 → is_digit (48 + n) ≡ true
unfolding is_digit
digit n h = let a : 48 ≤ 48 + n = omega arith in let b : 48 + n ≤ 57 = omega arith in rw (le-leb 48 (48 + n) a, le-leb (48 + n) 57 b)

-- one more digit
numeral-digit : (m n : ℕ) (s : Bytes) → n < 10 → numeral m ((48 + n) ∷ s) ≡ numeral (m * 10 + n) s
unfolding numeral
numeral-digit m n s h = let e : 48 + n - 48 ≡ n = omega arith in rw (digit n h, e)

-- a reader that begins with a number where a digit stands reads what is printed of one
module _ {X : Type 0} (reader : Bytes → X) (rest_of : Read ℕ → X)
    (by_digit : (b : ℕ) (s : Bytes) → is_digit b ≡ true → reader (b ∷ s) ≡ rest_of (numeral (b - 48) s)) where
  single : (n : ℕ) (s : Bytes) → n < 10 → reader ((48 + n) ∷ s) ≡ rest_of (numeral n s)
  single n s h = let e : 48 + n - 48 ≡ n = omega arith in by_digit (48 + n) s (digit n h) ∙ ap (λ k. rest_of (numeral k s)) e

  decimal-in : (k n : ℕ) (s : Bytes) → n ≤ k → reader (decimal_in k n ++ s) ≡ rest_of (numeral n s)
  unfolding decimal_in
  decimal-in zero n s h = single n s (omega arith)
  decimal-in (suc k) n s h = elim (dec_lt n 10) [
    | yes l ↦ rw (lt-ltb n 10 l) (single n s l)
    | no l ↦
        let g : 10 ≤ n = omega arith in
        let m : n % 10 < 10 = mod-lt n (omega arith) in
        let less : n / 10 < n = div-lt_self (omega arith) (omega arith) in
        let whole : n / 10 * 10 + n % 10 ≡ n = div-add-mod' n 10 in
        rw (le-ltb n 10 g, append_assoc (decimal_in k (n / 10)) ((48 + n % 10) ∷ []) s)
        (decimal-in k (n / 10) ((48 + n % 10) ∷ s) (omega arith)
        ∙ ap rest_of (numeral-digit (n / 10) (n % 10) s m ∙ ap (λ j. numeral j s) whole))
  ]

  pub decimal-led : (n : ℕ) (s : Bytes) → reader (decimal n ++ s) ≡ rest_of (numeral n s)
  unfolding decimal
  decimal-led n s = decimal-in n n s (omega arith)

-- ---- a printed number begins with a digit

pub record Led (t : Bytes) : Type 0 where
  pub head : ℕ
  pub tail : Bytes
  pub is : t ≡ head ∷ tail
  pub is_digit_lem : is_digit head ≡ true

led-by : (k n : ℕ) → n ≤ k → Led (decimal_in k n)
unfolding decimal_in
led-by zero n h = record { head = 48 + n; tail = []; is = refl; is_digit_lem = digit n (omega arith) }
led-by (suc k) n h = elim (dec_lt n 10) [
  | yes l ↦ record { head = 48 + n; tail = []; is = rw (lt-ltb n 10 l); is_digit_lem = digit n l }
  | no l ↦
      let g : 10 ≤ n = omega arith in
      let less : n / 10 < n = div-lt_self (omega arith) (omega arith) in
      let x = led-by k (n / 10) (omega arith) in
      record { head = x.head; tail = x.tail ++ ((48 + n % 10) ∷ []); is = rw (le-ltb n 10 g, x.is); is_digit_lem = x.is_digit_lem }
]

pub led : (n : ℕ) → Led (decimal n)
unfolding decimal
led n = led-by n n (omega arith)

-- a digit is no other byte
pub digit-is-not : (b k : ℕ) → is_digit b ≡ true → is_digit k ≡ false → eqb b k ≡ false
digit-is-not b k h g = ne_eqb b k (λ e. let z : true ≡ false = cc in let y : ◌≡◌ {A = ℕ} 0 1 = cc in absurd (omega arith))

-- ---- numbers read back, where no letter or digit follows

pub digits-read : (n : ℕ) (s : Bytes) → T (word_ends s) → digits (decimal n ++ s) ≡ took n s
unfolding digits
digits-read n s h = decimal-led digits (λ g. g) (λ b t d. rw d) n s ∙ numeral-over n s h

pub number-reads : (n : ℕ) (s : Bytes) → T (word_ends s) → number (decimal n ++ s) ≡ took n s
unfolding number spaces digits is_digit
number-reads n s h =
    decimal-led number (λ g. g) (λ b t d. let e : eqb b 32 ≡ false = digit-is-not b 32 d refl in rw (e, d)) n s ∙ numeral-over n s h

pub value-reads : (z : ℤ) (s : Bytes) → T (word_ends s) → signed (print_value z ++ s) ≡ took z s
unfolding signed signed_here number spaces digits is_digit print_value negative map_read
value-reads (pos n) s h =
    decimal-led signed (map_read pos) (λ b t d. rw (digit-is-not b 32 d refl, digit-is-not b 45 d refl, d)) n s ∙ ap (map_read pos) (numeral-over n s h)
value-reads (negsuc n) s h = ap (map_read negative) (number-reads (suc n) s h)
