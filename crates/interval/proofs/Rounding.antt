-- The quotient as the code forms it, from the magnitudes of two 32-bit numbers: it is the rules' quotient, and every number on the
-- way fits 64 bits. Assumes nothing.
use Prim.Native.Nat.{ℕ, zero, suc, ◌+◌, ◌-◌, ◌/◌, ◌^◌, ◌≤◌, ◌<◌}
use mathlib.Core.Path.{◌≡◌, refl, sym, ap, ap₂, ◌∙◌}
use mathlib.Core.Logic.{◌≢◌}
use mathlib.Core.Bool.{Bool, true, false, not, beq}
use native.Mathlib.Nat.{zero-lt-suc, div-zero, zero-div, div-eq_of_lt, div-le_self, add-div_right}
use native.Mathlib.Omega.{arith}
use lib.IntN.{ℤ, pos, negsuc, nat_abs, neg_ℤ, ◌+ℤ◌, ◌-ℤ◌, +ℤ_idl}
use lib.Signed.{mag, quot_z, lt_z}
use mir.Syntax.{w32, w64}
use mir.Val.{SFits, to_z, of_z}
use mir.Facts.{to_z-of_z}
use Rattle.rules.specs.Interval.{floor_div, quotient}
use Rattle.interval.proofs.Laws.{mag-neg-pos, mag-add, mag-sub, not_negative, true-false, minus_one}

-- ---- the rules' quotient from magnitudes

-- whether the signs differ
abbrev pub differ : ℤ → ℤ → Bool
differ x y = not (beq (lt_z x (pos 0)) (lt_z y (pos 0)))

same-signs : (x y : ℤ) → differ x y ≡ false → pos (nat_abs x / nat_abs y) ≡ quotient x y
unfolding quotient floor_div
same-signs (pos a) (pos zero) s = ap pos (div-zero a)
same-signs (pos a) (pos (suc b)) s = refl
same-signs (pos a) (negsuc b) s = true-false (sym (ap (λ (t : Bool). not (beq t true)) (not_negative a)) ∙ s)
same-signs (negsuc a) (pos b) s = true-false (sym (ap (λ (t : Bool). not (beq true t)) (not_negative b)) ∙ s)
same-signs (negsuc a) (negsuc b) s = refl

-- rounded up: one more than the whole part of one less
raised : (a k : ℕ) → (suc a + k) / suc k ≡ suc (a / suc k)
raised a k = let e : suc a + k ≡ a + suc k = omega arith in ap (λ (n : ℕ). n / suc k) e ∙ add-div_right a (zero-lt-suc k) ∙ omega arith

raised-zero : (k : ℕ) → (zero + k) / suc k ≡ zero
raised-zero k = div-eq_of_lt (omega arith)

below-zero : (a k b : ℕ) → b ≡ suc k → neg_ℤ (pos ((suc a + k) / suc k)) ≡ floor_div (negsuc a) b
unfolding floor_div
below-zero a k b e = ap (λ (q : ℕ). neg_ℤ (pos q)) (raised a k) ∙ ap (λ (d : ℕ). negsuc (a / d)) (sym e)

signs-differ : (x y : ℤ) → differ x y ≡ true → (k : ℕ) → nat_abs y ≡ suc k → neg_ℤ (pos ((nat_abs x + k) / suc k)) ≡ quotient x y
unfolding quotient floor_div
signs-differ (pos a) (pos b) s k e = true-false (sym s ∙ ap₂ (λ (t u : Bool). not (beq t u)) (not_negative a) (not_negative b))
signs-differ (pos zero) (negsuc b) s k e = ap (λ (q : ℕ). neg_ℤ (pos q)) (raised-zero k) ∙ sym (ap pos (zero-div (suc b)))
signs-differ (pos (suc a)) (negsuc b) s k e = below-zero a k (suc b) e
signs-differ (negsuc a) (pos zero) s k e = absurd (omega (arith, e))
signs-differ (negsuc a) (pos (suc b)) s k e = below-zero a k (suc b) e
signs-differ (negsuc a) (negsuc b) s k e = true-false (sym s)

positive : (y : ℤ) → y ≢ pos 0 → 0 < nat_abs y
positive (pos zero) ne = absurd (ne refl)
positive (pos (suc b)) ne = omega arith
positive (negsuc b) ne = omega arith

-- one less than a divisor's magnitude
less_one : ℤ → ℕ
less_one y = nat_abs y - 1

one_more : (y : ℤ) → y ≢ pos 0 → nat_abs y ≡ suc (less_one y)
unfolding less_one
one_more y ne = omega (arith, positive y ne)

-- so its magnitude is the number that is negated, or the number itself
abs_neg : (p : ℕ) → nat_abs (neg_ℤ (pos p)) ≡ p
abs_neg zero = refl
abs_neg (suc p) = refl

abs-of-negative : (x y : ℤ) → differ x y ≡ true → (k : ℕ) → nat_abs y ≡ suc k → (nat_abs x + k) / suc k ≡ nat_abs (quotient x y)
abs-of-negative x y s k e = sym (abs_neg ((nat_abs x + k) / suc k)) ∙ ap nat_abs (signs-differ x y s k e)

is_negative : (x y : ℤ) → differ x y ≡ true → y ≢ pos 0 → neg_ℤ (pos (nat_abs (quotient x y))) ≡ quotient x y
is_negative x y s ne =
    let k = less_one y in
    sym (ap (λ (p : ℕ). neg_ℤ (pos p)) (abs-of-negative x y s k (one_more y ne))) ∙ signs-differ x y s k (one_more y ne)

is_positive : (x y : ℤ) → differ x y ≡ false → pos (nat_abs (quotient x y)) ≡ quotient x y
is_positive x y s = sym (ap (λ (z : ℤ). pos (nat_abs z)) (same-signs x y s)) ∙ same-signs x y s

-- ---- every number on the way fits 64 bits

abbrev pub held : ℤ → ℤ
held z = to_z w64 (of_z w64 z)

mag-quot : (x y : ℤ) → mag (quot_z x y) ≤ suc (mag x)
mag-quot (pos a) (pos b) = omega (arith, div-le_self a b)
mag-quot (pos a) (negsuc b) = omega (arith, mag-neg-pos (a / suc b), div-le_self a (suc b))
mag-quot (negsuc a) (pos b) = omega (arith, mag-neg-pos (suc a / b), div-le_self (suc a) b)
mag-quot (negsuc a) (negsuc b) = omega (arith, div-le_self (suc a) (suc b))

-- m + (n - o), divided by n, of three numbers of magnitude at most 2 ^ 31; in the code o is 1
abbrev pub raised_by : ℤ → ℤ → ℤ → ℤ
raised_by m n o = held m +ℤ held (held n -ℤ o)

abbrev pub divided : ℤ → ℤ → ℤ → ℤ
divided m n o = quot_z (held (raised_by m n o)) (held n)

pub less-fits : (n o : ℤ) → mag (held n) ≤ 2 ^ 31 → mag o ≤ 2 ^ 31 → SFits w64 (held n -ℤ o)
less-fits n o sn so = record { sfits = omega (arith, mag-sub (held n) o, sn, so) }

module _ (m n o : ℤ) (sm : mag (held m) ≤ 2 ^ 31) (sn : mag (held n) ≤ 2 ^ 31) (so : mag o ≤ 2 ^ 31) where
  less-size : mag (held (held n -ℤ o)) ≤ 2 ^ 33
  less-size = rw (to_z-of_z (less-fits n o sn so)) (omega (arith, mag-sub (held n) o, sn, so))

  pub raised-fits : SFits w64 (raised_by m n o)
  raised-fits = record { sfits = omega (arith, mag-add (held m) (held (held n -ℤ o)), sm, less-size) }

  raised-size : mag (held (raised_by m n o)) ≤ 2 ^ 34
  raised-size = rw (to_z-of_z raised-fits) (omega (arith, mag-add (held m) (held (held n -ℤ o)), sm, less-size))

  pub divided-fits : SFits w64 (divided m n o)
  divided-fits = record { sfits = omega (arith, mag-quot (held (raised_by m n o)) (held n), raised-size) }

pub whole-fits : (m n : ℤ) → mag (held m) ≤ 2 ^ 31 → SFits w64 (quot_z (held m) (held n))
whole-fits m n sm = record { sfits = omega (arith, mag-quot (held m) (held n), sm) }

-- ---- the magnitudes m and n of x and y

abs-small : (x : ℤ) → SFits w32 x → nat_abs x ≤ 2 ^ 31
abs-small (pos a) h = omega (arith, h.sfits)
abs-small (negsuc a) h = omega (arith, h.sfits)

abs-held : (x m : ℤ) → SFits w32 x → m ≡ pos (nat_abs x) → held m ≡ pos (nat_abs x)
abs-held x m h e = ap held e ∙ to_z-of_z {w = w64} {z = pos (nat_abs x)} (record { sfits = omega (arith, abs-small x h) })

pub held_small : (x m : ℤ) → SFits w32 x → m ≡ pos (nat_abs x) → mag (held m) ≤ 2 ^ 31
held_small x m h e = rw (abs-held x m h e) (abs-small x h)

-- a test of the signs, as a branch leaves it
signs : (x y : ℤ) → SFits w32 x → SFits w32 y → (t : Bool) → differ (to_z w32 (of_z w32 x)) (to_z w32 (of_z w32 y)) ≡ t → differ x y ≡ t
signs x y hx hy t e = sym (ap₂ differ (to_z-of_z hx) (to_z-of_z hy)) ∙ e

magnitude-small : (x y : ℤ) → SFits w32 x → SFits w32 y → y ≢ pos 0 → nat_abs (quotient x y) ≤ 2 ^ 32
magnitude-small x y hx hy ne = go (differ x y) refl
  where
    go : (t : Bool) → differ x y ≡ t → nat_abs (quotient x y) ≤ 2 ^ 32
    go true s =
        omega (arith, abs-of-negative x y s (less_one y) (one_more y ne), div-le_self (nat_abs x + less_one y) (suc (less_one y)), one_more y ne, abs-small x hx, abs-small y hy)
    go false s = omega (arith, ap nat_abs (same-signs x y s), div-le_self (nat_abs x) (nat_abs y), abs-small x hx)

pub one-small : mag (pos 1) ≤ 2 ^ 31
one-small = omega arith

module _ (x y m n : ℤ) (hx : SFits w32 x) (hy : SFits w32 y) (ne : y ≢ pos 0) (em : m ≡ pos (nat_abs x)) (en : n ≡ pos (nat_abs y)) where
  sm : mag (held m) ≤ 2 ^ 31
  sm = held_small x m hx em

  sn : mag (held n) ≤ 2 ^ 31
  sn = held_small y n hy en

  held-n : held n ≡ pos (suc (less_one y))
  held-n = abs-held y n hy en ∙ ap pos (one_more y ne)

  less-is : held (held n -ℤ pos 1) ≡ pos (less_one y)
  less-is = to_z-of_z (less-fits n (pos 1) sn one-small) ∙ ap (λ (z : ℤ). z -ℤ pos 1) held-n ∙ minus_one (pos (suc (less_one y)))

  raised_is : held (raised_by m n (pos 1)) ≡ pos (nat_abs x + less_one y)
  raised_is = to_z-of_z (raised-fits m n (pos 1) sm sn one-small) ∙ ap₂ ◌+ℤ◌ (abs-held x m hx em) less-is

  divided-is : held (divided m n (pos 1)) ≡ pos ((nat_abs x + less_one y) / suc (less_one y))
  divided-is = to_z-of_z (divided-fits m n (pos 1) sm sn one-small) ∙ ap₂ quot_z raised_is held-n

  pub divided-is-magnitude : differ (to_z w32 (of_z w32 x)) (to_z w32 (of_z w32 y)) ≡ true → held (divided m n (pos 1)) ≡ pos (nat_abs (quotient x y))
  divided-is-magnitude e = divided-is ∙ ap pos (abs-of-negative x y (signs x y hx hy true e) (less_one y) (one_more y ne))

  pub whole-is-magnitude : differ (to_z w32 (of_z w32 x)) (to_z w32 (of_z w32 y)) ≡ false → held (quot_z (held m) (held n)) ≡ pos (nat_abs (quotient x y))
  whole-is-magnitude e =
      to_z-of_z (whole-fits m n sm) ∙ ap₂ quot_z (abs-held x m hx em) (abs-held y n hy en)
      ∙ ap (λ (z : ℤ). pos (nat_abs z)) (same-signs x y (signs x y hx hy false e))

-- ---- the quotient from its magnitude q

module _ (x y q : ℤ) (hx : SFits w32 x) (hy : SFits w32 y) (ne : y ≢ pos 0) (e : q ≡ pos (nat_abs (quotient x y))) where
  small : nat_abs (quotient x y) ≤ 2 ^ 32
  small = magnitude-small x y hx hy ne

  held-q : held q ≡ pos (nat_abs (quotient x y))
  held-q = ap held e ∙ to_z-of_z {w = w64} {z = pos (nat_abs (quotient x y))} (record { sfits = omega (arith, small) })

  pub negation-fits : SFits w64 (pos 0 -ℤ held q)
  negation-fits = rw held-q (record { sfits = omega (arith, mag-sub (pos 0) (pos (nat_abs (quotient x y))), small) })

  pub negation-is : differ (to_z w32 (of_z w32 x)) (to_z w32 (of_z w32 y)) ≡ true → held (pos 0 -ℤ held q) ≡ quotient x y
  negation-is t =
      to_z-of_z negation-fits ∙ ap (λ (z : ℤ). pos 0 -ℤ z) held-q ∙ +ℤ_idl (neg_ℤ (pos (nat_abs (quotient x y))))
      ∙ is_negative x y (signs x y hx hy true t) ne

  pub magnitude-is : differ (to_z w32 (of_z w32 x)) (to_z w32 (of_z w32 y)) ≡ false → held q ≡ quotient x y
  magnitude-is t = held-q ∙ is_positive x y (signs x y hx hy false t)
