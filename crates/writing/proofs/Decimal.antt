-- Numbers in decimal, digit by digit.
use mathlib.Core.Path.{◌≡◌, refl, sym, ap, ◌∙◌}
use mathlib.Core.List.{[], ◌∷◌, ◌++◌}
use Prim.Native.Nat.{ℕ, zero, suc, ◌+◌, ◌/◌, ◌%◌, ◌^◌, ◌≤◌, ◌<◌}
use native.Mathlib.Nat.{mod-eq_of_lt, div-lt_self, pow-suc}
use native.Mathlib.Decide.{dec_lt}
use native.Mathlib.Omega.{arith}
use borrow.Author.Tests.{lt-ltb, le-ltb}
use lib.ListN.{length, length-append}
use Rattle.rules.specs.Format.{Bytes}
use Rattle.rules.specs.Product.{decimal_in, decimal}

-- the first argument of `decimal_in` only bounds the digits
decimal-bound : (k j n : ℕ) → n ≤ k → n ≤ j → decimal_in k n ≡ decimal_in j n
unfolding decimal_in
decimal-bound zero zero n h g = refl
decimal-bound zero (suc j) n h g = let l : n < 10 = omega arith in rw (lt-ltb n 10 l)
decimal-bound (suc k) zero n h g = let l : n < 10 = omega arith in rw (lt-ltb n 10 l)
decimal-bound (suc k) (suc j) n h g = elim (dec_lt n 10) [
  | yes l ↦ rw (lt-ltb n 10 l)
  | no l ↦
      let m : 10 ≤ n = omega arith in
      let less : n / 10 < n = div-lt_self (omega arith) (omega arith) in
      rw (le-ltb n 10 m) (ap (λ (s : Bytes). s ++ (48 + n % 10) ∷ []) (decimal-bound k j (n / 10) (omega arith) (omega arith)))
]

decimal-one : (k n : ℕ) → n < 10 → decimal_in k n ≡ (48 + n) ∷ []
unfolding decimal_in
decimal-one zero n h = refl
decimal-one (suc k) n h = rw (lt-ltb n 10 h)

-- a number of one digit
pub decimal-small : (n d : ℕ) → n < 10 → d ≡ 48 + n % 10 → d ∷ [] ≡ decimal n
unfolding decimal
decimal-small n d h e = ap (λ (k : ℕ). k ∷ []) (e ∙ ap (λ (k : ℕ). 48 + k) (mod-eq_of_lt h)) ∙ sym (decimal-one n n h)

-- a number of more digits: those of its tenth, then the last
pub decimal-large : (n d : ℕ) → 10 ≤ n → d ≡ 48 + n % 10 → decimal (n / 10) ++ d ∷ [] ≡ decimal n
unfolding decimal decimal_in
decimal-large zero d h e = absurd (omega arith)
decimal-large (suc n) d h e =
    let less : suc n / 10 < suc n = div-lt_self (omega arith) (omega arith) in
    rw (le-ltb (suc n) 10 h, e) (ap (λ (s : Bytes). s ++ (48 + suc n % 10) ∷ []) (decimal-bound (suc n / 10) n (suc n / 10) (omega arith) (omega arith)))

-- ---- a number below 10 ^ k has at most k digits

length-one : (d n : ℕ) → d ∷ [] ≡ decimal n → length (decimal n) ≡ 1
length-one d n e = ap length (sym e)

-- one digit more than its tenth
length-large : (n : ℕ) → 10 ≤ n → length (decimal n) ≡ length (decimal (n / 10)) + 1
length-large n m = ap length (sym (decimal-large n _ m refl)) ∙ length-append (decimal (n / 10)) ((48 + n % 10) ∷ [])

pub decimal-length : (k n : ℕ) → n < 10 ^ suc k → length (decimal n) ≤ suc k
decimal-length zero n h = let e = length-one _ n (decimal-small n _ h refl) in omega arith
decimal-length (suc k) n h = elim (dec_lt n 10) [
  | yes l ↦ let e = length-one _ n (decimal-small n _ l refl) in omega arith
  | no l ↦
      let m : 10 ≤ n = omega arith in
      let tenth : n / 10 < 10 ^ suc k = omega (arith, pow-suc 10 (suc k)) in
      omega (arith, length-large n m, decimal-length k (n / 10) tenth)
]

-- a number of at most k + 1 digits, and one byte behind it
pub number-length : (k n b : ℕ) (s : Bytes) → n < 10 ^ suc k → length (decimal n ++ b ∷ s) ≤ k + 2 + length s
number-length k n b s h = omega (arith, length-append (decimal n) (b ∷ s), decimal-length k n h)
