-- Values in four bytes: two's complement there and back.
use mathlib.Core.Path.{◌≡◌, refl, sym, ap, ◌∙◌}
use mathlib.Core.Bool.{true}
use Prim.Native.Nat.{ℕ, ◌+◌, ◌-◌, ◌≤◌, ◌<◌}
use native.Mathlib.Omega.{arith}
use lib.Dec.{ltb, leb, ltb→lt, lt→ltb, le→leb, leb→le, nltb→le}
use lib.IntN.{ℤ, pos, negsuc}
use lib.Signed.{◌≤ℤ◌}
use lib.ListN.{length}
use Rattle.rules.specs.Interval.{Interval, in_range, ◌∈◌}
use Rattle.rules.specs.Format.{Bytes, AreBytes, num32, twos_complement, int32}
use Rattle.rules.specs.Encoding.{unsigned, encode_value}
use Rattle.rules.specs.Fits.{Value, RangeFits}
use Rattle.rules.proofs.Base.{if-ind, and_left, and_both}
use Rattle.rules.proofs.Stands.{Stands, four_is, stands-four, num32-small}

pub value_pos : (n : ℕ) → Value (pos n) → n < 2147483648
unfolding in_range
value_pos n v = ltb→lt n 2147483648 v

pub value-neg : (n : ℕ) → Value (negsuc n) → n < 2147483648
unfolding in_range
value-neg n v = let h = leb→le n 2147483647 (and_left (leb n 2147483647) true v) in omega arith

pub unsigned_small : (z : ℤ) → Value z → unsigned z < 4294967296
unsigned_small (pos n) v = let h = value_pos n v in omega arith
unsigned_small (negsuc n) v = omega arith

pub unsigned-read : (z : ℤ) → Value z → twos_complement (unsigned z) ≡ z
unfolding twos_complement
unsigned-read (pos n) v =
    if-ind (ltb n 2147483648) (pos n) (negsuc (4294967295 - n)) (λ w. w ≡ pos n) (λ _. refl)
    (λ t. let h = value_pos n v in let k = nltb→le n 2147483648 t in absurd (omega arith))
unsigned-read (negsuc n) v =
    let m = 4294967295 - n in
    if-ind (ltb m 2147483648) (pos m) (negsuc (4294967295 - m)) (λ w. w ≡ negsuc n)
    (λ t. let h = value-neg n v in let k = ltb→lt m 2147483648 t in absurd (omega arith))
    (λ _. let h = value-neg n v in let e : 4294967295 - m ≡ n = omega arith in ap negsuc e)

-- what lies between two values is a value
between : (a z b : ℤ) → Value a → Value b → a ≤ℤ z → z ≤ℤ b → Value z
unfolding in_range
between a (pos n) (pos m) v w g h = let k = value_pos m w in let l = leb→le n m h.le in lt→ltb n 2147483648 (omega arith)
between a (pos n) (negsuc m) v w g h = absurd h.le
between (pos m) (negsuc n) b v w g h = absurd g.le
between (negsuc m) (negsuc n) b v w g h =
    let k = value-neg m v in let l = leb→le n m g.le in and_both (leb n 2147483647) true (le→leb n 2147483647 (omega arith)) tt

pub value_in_lem : (z : ℤ) (i : Interval) → RangeFits i → z ∈ i → Value z
value_in_lem z i f h = between i.low z i.high f.low f.high h.low h.high

pub value_of : (n : ℕ) → n < 4294967296 → Value (twos_complement n)
unfolding twos_complement in_range
value_of n h = if-ind (ltb n 2147483648) (pos n) (negsuc (4294967295 - n)) Value (λ t. t)
    (λ t. let k = nltb→le n 2147483648 t in and_both (leb (4294967295 - n) 2147483647) true (le→leb (4294967295 - n) 2147483647 (omega arith)) tt)

pub read-unsigned : (n : ℕ) → n < 4294967296 → unsigned (twos_complement n) ≡ n
unfolding twos_complement
read-unsigned n h = if-ind (ltb n 2147483648) (pos n) (negsuc (4294967295 - n)) (λ z. unsigned z ≡ n) (λ t. refl) (λ t. omega arith)

module _ {s : Bytes} where
  pub value_is : (z : ℤ) {p q : ℕ} → Value z → Stands (encode_value z) s p q → int32 s p ≡ z
  unfolding int32
  value_is z v h = ap twos_complement (four_is (unsigned z) h) ∙ unsigned-read z v

  pub stands-value : AreBytes s → {p : ℕ} → p + 4 ≤ length s → Stands (encode_value (int32 s p)) s p (p + 4)
  unfolding int32
  stands-value o {p} h = stands-four o h (sym (read-unsigned (num32 s p) (num32-small o p)))

  pub int32-value : AreBytes s → (p : ℕ) → Value (int32 s p)
  unfolding int32
  int32-value o p = value_of (num32 s p) (num32-small o p)
