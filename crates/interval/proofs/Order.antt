-- The order that `Val` and the 64-bit numbers derive, and the least and the greatest of two by it, are those of the rules. Assumes nothing.
use Rattle.std.specs.Prelude.{ℕ, ◌≡◌, Bool, true, false, cond, not, ◌&&◌, ℤ, pos, negsuc}
use Rattle.std.proofs.Common.{Less, Equal, Greater}
use Rattle.std.specs.Ordering.{is_lt, is_eq, int_cmp, int_eq, ord_min, ord_max}
use Rattle.std.specs.Int.Signed.{le_z, lt_z}
use mathlib.Core.Path.{refl}
use lib.Dec.{leb, ltb}
use native.Mathlib.Omega.{arith}
use Rattle.rules.specs.Interval.{min_z, max_z, eq_z}
use Rattle.interval.specs.declared.Val.{Val}

leb-not : (a b : ℕ) → leb a b ≡ not (ltb b a)
leb-not a b = grind arith

not-below : (x y : ℤ) → le_z x y ≡ not (lt_z y x)
not-below (pos a) (pos b) = leb-not a b
not-below (pos a) (negsuc b) = refl
not-below (negsuc a) (pos b) = refl
not-below (negsuc a) (negsuc b) = leb-not b a

-- a test that fails one way or passes, by what it says of an order
module _ {T : Type 0} (z : T → ℤ) (a b : T) where
  least-by : (t u : Bool) → z (cond (is_lt (cond t Less (cond u Greater Equal))) b a) ≡ cond (not t) (z a) (z b)
  least-by true u = refl
  least-by false true = refl
  least-by false false = refl

  greatest-by : (t u : Bool) → z (cond (is_lt (cond t Less (cond u Greater Equal))) a b) ≡ cond (not t) (z b) (z a)
  greatest-by true u = refl
  greatest-by false true = refl
  greatest-by false false = refl

  pub least_is : z (ord_min (λ x y. int_cmp (z x) (z y)) a b) ≡ min_z (z a) (z b)
  unfolding min_z
  least_is = rw (not-below (z a) (z b)) (least-by (lt_z (z b) (z a)) (lt_z (z a) (z b)))

  pub greatest_is : z (ord_max (λ x y. int_cmp (z x) (z y)) a b) ≡ max_z (z a) (z b)
  unfolding max_z
  greatest_is = rw (not-below (z a) (z b)) (greatest-by (lt_z (z b) (z a)) (lt_z (z a) (z b)))

equal-by : (t u : Bool) → is_eq (cond t Less (cond u Greater Equal)) ≡ (not u && not t)
equal-by true true = refl
equal-by true false = refl
equal-by false true = refl
equal-by false false = refl

pub equal_is : (x y : ℤ) → int_eq x y ≡ eq_z x y
unfolding eq_z
equal_is x y = rw (not-below x y, not-below y x) (equal-by (lt_z x y) (lt_z y x))

-- the same of values
module _ (a b : Val) where
  pub lower_is : (ord_min (λ x y. int_cmp x.0 y.0) a b).0 ≡ min_z a.0 b.0
  lower_is = least_is (λ x. x.0) a b

  pub upper_is : (ord_max (λ x y. int_cmp x.0 y.0) a b).0 ≡ max_z a.0 b.0
  upper_is = greatest_is (λ x. x.0) a b
