-- Constants and registers: their texts, and where there are too few bytes for one.
use mathlib.Core.Path.{◌≡◌, refl, ap}
use mathlib.Core.Bool.{Bool, true, false}
use mathlib.Core.List.{[], ◌∷◌}
use Prim.Native.Nat.{ℕ, suc, ◌+◌, ◌-◌, ◌≤◌, ◌<◌}
use native.Mathlib.Omega.{arith}
use borrow.Author.Tests.{lt-ltb, le-ltb, le-leb, lt-leb}
use lib.Dec.{ltb}
use Rattle.rules.specs.Format.{Bytes, byte, num32, twos_complement, int32, need, read_constant, read_register}
use Rattle.rules.specs.Product.{decimal}
use Rattle.writing.specs.Out.{Writes}
use Rattle.writing.proofs.Written.{then-writes, same_text}
use Rattle.printed.specs.Print.{print_value, print_arith}
use Rattle.infix.specs.Prints.{Prints}
use Rattle.infix.specs.declared.Walked.{Walked}

abbrev walked : ℕ → ℕ → Walked
walked q at = record { next = q; at = at }

-- ---- values

pub value-small : (n : ℕ) → n < 2147483648 → decimal n ≡ print_value (twos_complement n)
unfolding print_value twos_complement
value-small n h = rw (lt-ltb n 2147483648 h)

-- below zero: m is its distance from there
pub value-large : (n m : ℕ) → 2147483648 ≤ n → m ≡ 4294967295 - n + 1 → 45 ∷ decimal m ≡ print_value (twos_complement n)
unfolding print_value twos_complement
value-large n m h e = let one : m ≡ suc (4294967295 - n) = omega arith in rw (le-ltb n 2147483648 h, one)

module _ (s : Bytes) (e p : ℕ) (l m : Bytes) (at : ℕ) where
  -- ---- constants

  pub constant-short : e < p + 4 → (strength : ℕ) (w : Walked) → Prints (print_arith strength) (read_constant s e p) l at m w
  unfolding read_constant need Prints
  constant-short h strength w = rw (lt-leb (p + 4) e h) tt

  pub constant-prints : p + 4 ≤ e → (n r : ℕ) → n ≡ num32 s p → Writes (print_value (twos_complement n)) l at m r → (strength : ℕ) → Prints (print_arith strength) (read_constant s e p) l at m (walked (p + 4) r)
  unfolding read_constant need Prints print_arith int32
  constant-prints h n r q w strength =
      rw (le-leb (p + 4) e h) (refl, same_text (print_value (twos_complement n)) (print_value (twos_complement (num32 s p))) l m at r (ap (λ (k : ℕ). print_value (twos_complement k)) q) w)

  -- ---- registers

  pub register-short : e ≤ p → (n strength : ℕ) (w : Walked) → Prints (print_arith strength) (read_register s e n p) l at m w
  unfolding read_register need Prints
  register-short h n strength w = rw (lt-leb (p + 1) e (omega arith)) tt

  register-by : (b : Bool) → p + 1 ≤ e → (n : ℕ) → ltb (byte s p) n ≡ b → (r : ℕ) → Writes (114 ∷ decimal (byte s p)) l at m r → (strength : ℕ) → Prints (print_arith strength) (read_register s e n p) l at m (walked (p + 1) r)
  unfolding read_register need Prints print_arith
  register-by true h n q r w strength = rw (le-leb (p + 1) e h, q) (refl, w)
  register-by false h n q r w strength = rw (le-leb (p + 1) e h, q) tt

  pub register-prints : p < e → (k : Bytes) (b r : ℕ) → Writes (114 ∷ []) l at k b → Writes (decimal (byte s p)) k b m r → (n strength : ℕ) → Prints (print_arith strength) (read_register s e n p) l at m (walked (p + 1) r)
  register-prints h k b r e₁ e₂ n strength = register-by (ltb (byte s p) n) (omega arith) n refl r (then-writes (114 ∷ []) (decimal (byte s p)) l k m at b r e₁ e₂) strength
