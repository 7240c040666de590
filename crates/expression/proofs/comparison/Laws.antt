-- Narrowing by a comparison, for each way out of the code. Assumes nothing.
use Rattle.std.specs.Prelude.{if◌then◌else◌, None}
use Prim.Native.Nat.{ℕ, zero, suc, ◌+◌, ◌<◌}
use mathlib.Core.Path.{◌≡◌, refl, sym, ap, ◌∙◌}
use mathlib.Core.Bool.{Bool, true, false}
use mathlib.Core.Option.{Option, none, some}
use mathlib.Core.List.{List, [], ◌∷◌, map}
use native.Mathlib.Omega.{arith}
use lib.Dec.{ltb, leb}
use lib.IntN.{ℤ, pred_ℤ, suc_ℤ}
use lib.Signed.{le_z, lt_z}
use lib.ListN.{set, take}
use lib.Seq.{take-set-lt}
use Rattle.rules.specs.Refusal.{Refusal, bad_expression, no_such_name, Result, value, fault}
use Rattle.rules.specs.Interval.{Interval, Operator, meet}
use Rattle.rules.specs.Program.{Arith, operation}
use Rattle.rules.specs.Expression.{Regs, at_most, at_least, on_register, equal_yes, less_yes, less_no, compared}
use Rattle.rules.specs.Format as F
use Rattle.rules.specs.Format.{Bytes, byte, Got, bad, got, and_then, need, arith_at, on_arith, read_constant, read_register, read_arith}
use Rattle.interval.specs.declared.Span.{Span}
use Rattle.interval.specs.Shape.{interval_of}
use Rattle.expression.specs.declared.kind.Relation.{Relation}
use Rattle.expression.specs.declared.kind.Relation.TheVariants.{Equal, Less}
use Rattle.expression.specs.Evaluation.{regs_of}
use Rattle.expression.specs.Comparison.{register_at, side_by, side_at, side_of, comparison_rule}
use Rattle.expression.proofs.kind.Laws.{operands}

-- ---- a register set

map-set : {A B : Type 0} (f : A → B) (l : List A) (i : ℕ) (x : A) → map f (set l i x) ≡ set (map f l) i (f x)
map-set f [] i x = refl
map-set f (y ∷ l) zero x = refl
map-set {B} f (y ∷ l) (suc i) x = ap (λ (t : List B). f y ∷ t) (map-set f l i x)

pub regs_set : (n : ℕ) (l : List Span) (i : ℕ) (x : Span) → i < n → regs_of n (set l i x) ≡ set (regs_of n l) i (interval_of x)
unfolding regs_of
regs_set n l i x h = ap (take n) (map-set interval_of l i x) ∙ take-set-lt n (map interval_of l) i (interval_of x) h

-- ---- the rules of equal and less, where both sides are cut

module _ (a b : Arith) (rs : Regs) (i j : Interval) (o : Option Regs) where
  pub equal-yes-cut : (k : Interval) → k ≡ meet i j → le_z k.low k.high ≡ true → o ≡ on_register (λ x. meet x k) a (some rs) → on_register (λ x. meet x k) b o ≡ equal_yes a b rs i j
  unfolding equal_yes
  equal-yes-cut k e t q = rw (← e, t, q)

  pub less-yes-cut : (y z : ℤ) → y ≡ pred_ℤ j.high → z ≡ suc_ℤ i.low → lt_z i.low j.high ≡ true → o ≡ on_register (at_most y) a (some rs)
      → on_register (at_least z) b o ≡ less_yes a b rs i j
  unfolding less_yes
  less-yes-cut y z e f t q = rw (t, q, e, f)

  pub less-no-cut : le_z j.low i.high ≡ true → o ≡ on_register (at_least j.low) a (some rs) → on_register (at_most i.high) b o ≡ less_no a b rs i j
  unfolding less_no
  less-no-cut t q = rw (t, q)

-- ---- a side of a comparison: what the bytes say is what the tree is

bad-got {ℓ} : {A : Type 0} {X : Type ℓ} {r : Refusal} {p : ℕ} {a : A} {q : ℕ} → bad r p ≡ got a q → X
bad-got e = let z : ◌≡◌ {A = ℕ} 0 1 = cc in absurd (omega arith)

got_same : {A : Type 0} {a b : A} {q r : ℕ} → got a q ≡ got b r → a ≡ b
got_same e = cc

-- a check that was passed
need-true : {A : Type 0} (t : Bool) (r : Refusal) (p : ℕ) (g : Got A) (a : A) (q : ℕ) → need t r p g ≡ got a q → (t ≡ true) × (g ≡ got a q)
unfolding need
need-true true r p g a q e = (refl, e)
need-true false r p g a q e = bad-got e

module _ (s : Bytes) (e n p : ℕ) (f : Interval → Interval) (o : Option Regs) where
  side-none : (k : F.ArithKind) → arith_at s e p ≡ k → side_by k (register_at s e (p + 1)) ≡ None → on_register f (side_of n (side_at s e p)) o ≡ o
  unfolding side_at on_register
  side-none k h z = rw (h, z)

  side-constant : (a : Arith) (q : ℕ) → arith_at s e p ≡ F.a_constant → read_constant s e (p + 1) ≡ got a q → on_register f a o ≡ on_register f (side_of n (side_at s e p)) o
  unfolding read_constant on_register
  side-constant a q h g = rw (← got_same (need-true _ _ _ _ _ _ g).1) (sym (side-none F.a_constant h refl))

  side-register : (a : Arith) (q : ℕ) → arith_at s e p ≡ F.a_register → read_register s e n (p + 1) ≡ got a q → on_register f a o ≡ on_register f (side_of n (side_at s e p)) o
  unfolding read_register side_at register_at
  side-register a q h g =
      let u = need-true (leb (p + 1 + 1) e) bad_expression (p + 1) _ a q g in
      let v = need-true (ltb (byte s (p + 1)) n) no_such_name (p + 1) _ a q u.1 in
      rw (← got_same v.1, h, u.0, v.0)

module _ (f : Interval → Interval) (o : Option Regs) (x : Operator) (a : Arith) (q : ℕ) where
  right_operand : (b : Arith) (g : Got Arith) → and_then g (λ c r. got (operation x b c) r) ≡ got a q → on_register f a o ≡ o
  unfolding and_then on_register
  right_operand b (bad r m) z = bad-got z
  right_operand b (got c r) z = rw (← got_same z)

  both-operands : (g : Got Arith) (h : ℕ → Got Arith) → and_then g (λ b m. and_then (h m) (λ c r. got (operation x b c) r)) ≡ got a q → on_register f a o ≡ o
  unfolding and_then
  both-operands (bad r m) h z = bad-got z
  both-operands (got b m) h z = right_operand b (h m) z

module _ (s : Bytes) (e n p : ℕ) (f : Interval → Interval) (o : Option Regs) (a : Arith) (q : ℕ) where
  side-by : (d : ℕ) (k : F.ArithKind) → arith_at s e p ≡ k
      → on_arith k (read_constant s e (p + 1)) (read_register s e n (p + 1)) (λ x. operands d s e n (p + 1) x) (bad bad_expression p) ≡ got a q
      → on_register f a o ≡ on_register f (side_of n (side_at s e p)) o
  unfolding on_arith
  side-by d F.a_constant h g = side-constant s e n p f o a q h g
  side-by d F.a_register h g = side-register s e n p f o a q h g
  side-by d F.unknown h g = bad-got g
  side-by d (F.an_operator x) h g = both-operands f o x a q (read_arith d s e n (p + 1)) (λ m. read_arith d s e n m) g ∙ sym (side-none s e n p f o (F.an_operator x) h refl)

  pub side-on : (d : ℕ) → read_arith d s e n p ≡ got a q → on_register f a o ≡ on_register f (side_of n (side_at s e p)) o
  unfolding read_arith
  side-on zero g = bad-got g
  side-on (suc d) g = side-by d (arith_at s e p) refl g

-- the rules see a side only through `on_register`
pub rule-same : (w : Bool) (o : Relation) (a b a' b' : Arith) (rs : Regs) (i j : Interval) → ((f : Interval → Interval) (x : Option Regs) → on_register f a x ≡ on_register f a' x)
    → ((f : Interval → Interval) (x : Option Regs) → on_register f b x ≡ on_register f b' x) → comparison_rule w o a b rs i j ≡ comparison_rule w o a' b' rs i j
unfolding equal_yes less_yes less_no
rule-same true Equal a b a' b' rs i j ha hb =
    let F : Interval → Interval = λ k. meet k (meet i j) in
    ap (λ (x : Option Regs). if le_z (meet i j).low (meet i j).high then x else none) (hb F (on_register F a (some rs)) ∙ ap (on_register F b') (ha F (some rs)))
rule-same false Equal a b a' b' rs i j ha hb = refl
rule-same true Less a b a' b' rs i j ha hb =
    ap (λ (x : Option Regs). if lt_z i.low j.high then x else none)
    (hb (at_least (suc_ℤ i.low)) (on_register (at_most (pred_ℤ j.high)) a (some rs)) ∙ ap (on_register (at_least (suc_ℤ i.low)) b') (ha (at_most (pred_ℤ j.high)) (some rs)))
rule-same false Less a b a' b' rs i j ha hb =
    ap (λ (x : Option Regs). if le_z j.low i.high then x else none)
    (hb (at_most i.high) (on_register (at_least j.low) a (some rs)) ∙ ap (on_register (at_most i.high) b') (ha (at_least j.low) (some rs)))

pub compared_same : (f g : Interval → Interval → Option Regs) (x y : Result Interval) → ((i j : Interval) → f i j ≡ g i j) → compared f x y ≡ compared g x y
unfolding compared
compared_same f g (fault r) y h = refl
compared_same f g (value i) (fault r) h = refl
compared_same f g (value i) (value j) h = h i j
