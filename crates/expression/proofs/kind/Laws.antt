-- Kinds: where there is one, there is a byte; and what the rules read for each. Assumes nothing.
use Prim.Native.Nat.{ℕ, zero, suc, ◌+◌, ◌-◌, ◌<◌}
use mathlib.Core.Path.{◌≡◌, refl, sym, ap, ◌∙◌}
use mathlib.Core.Bool.{Bool, true, false}
use native.Mathlib.Omega.{arith}
use lib.Dec.{ltb}
use borrow.Author.Tests.{ltb-true}
use Rattle.rules.specs.Refusal.{bad_expression}
use Rattle.rules.specs.Interval.{Operator}
use Rattle.rules.specs.Program.{Arith, operation, Condition, negation, conjunction}
use Rattle.rules.specs.Format as F
use Rattle.rules.specs.Format.{Bytes, Got, bad, got, and_then, arith_at, on_arith, read_constant, read_register, read_arith, condition_at, on_condition, read_condition}
use Rattle.expression.specs.Reading.{pair_at}

-- ---- expressions

inside-by : (s : Bytes) (e p : ℕ) (t : Bool) → ltb p e ≡ t → (arith_at s e p ≡ F.unknown → ⊥) → p < e
unfolding arith_at
inside-by s e p true q f = ltb-true p e q
inside-by s e p false q f = absurd (f (rw q))

pub arith-inside : (s : Bytes) (e p : ℕ) → (arith_at s e p ≡ F.unknown → ⊥) → p < e
arith-inside s e p f = inside-by s e p (ltb p e) refl f

-- two operands, one after the other
abbrev pub operands : ℕ → Bytes → ℕ → ℕ → ℕ → Operator → Got Arith
operands d s e n p o = and_then (read_arith d s e n p) (λ a q. and_then (read_arith d s e n q) (λ b r. got (operation o a b) r))

pub arith_opened : (s : Bytes) (e n p d : ℕ) → (d ≡ 0 → ⊥)
    → read_arith d s e n p ≡ on_arith (arith_at s e p) (read_constant s e (p + 1)) (read_register s e n (p + 1)) (λ o. operands (d - 1) s e n (p + 1) o) (bad bad_expression p)
unfolding read_arith
arith_opened s e n p zero f = absurd (f refl)
arith_opened s e n p (suc d) f = let q : suc d - 1 ≡ d = omega arith in rw q

-- what is read at a place, by its kind, where some depth d is left
module _ (s : Bytes) (e n p d : ℕ) (f : d ≡ 0 → ⊥) where
  pub at_constant : arith_at s e p ≡ F.a_constant → read_constant s e (p + 1) ≡ read_arith d s e n p
  unfolding on_arith
  at_constant q = sym (arith_opened s e n p d f ∙ rw q)

  pub at_register : arith_at s e p ≡ F.a_register → read_register s e n (p + 1) ≡ read_arith d s e n p
  unfolding on_arith
  at_register q = sym (arith_opened s e n p d f ∙ rw q)

  pub at_operator : (o : Operator) → arith_at s e p ≡ F.an_operator o → operands (d - 1) s e n (p + 1) o ≡ read_arith d s e n p
  unfolding on_arith
  at_operator o q = sym (arith_opened s e n p d f ∙ rw q)

  pub at-unknown : arith_at s e p ≡ F.unknown → bad bad_expression p ≡ read_arith d s e n p
  unfolding on_arith
  at-unknown q = sym (arith_opened s e n p d f ∙ rw q)

-- ---- conditions

condition-by : (s : Bytes) (e p : ℕ) (t : Bool) → ltb p e ≡ t → (condition_at s e p ≡ F.unknown_condition → ⊥) → p < e
unfolding condition_at
condition-by s e p true q f = ltb-true p e q
condition-by s e p false q f = absurd (f (rw q))

pub condition-inside : (s : Bytes) (e p : ℕ) (k : F.ConditionKind) → condition_at s e p ≡ k → (k ≡ F.unknown_condition → ⊥) → p < e
condition-inside s e p k h f = condition-by s e p (ltb p e) refl (λ z. f (sym h ∙ z))

abbrev pub negation_at : ℕ → Bytes → ℕ → ℕ → ℕ → Got Condition
negation_at d s e n p = and_then (read_condition d s e n p) (λ c q. got (negation c) q)

abbrev pub conjunction_at : ℕ → Bytes → ℕ → ℕ → ℕ → Got Condition
conjunction_at d s e n p = and_then (read_condition d s e n p) (λ a q. and_then (read_condition d s e n q) (λ b r. got (conjunction a b) r))

pub condition_opened : (s : Bytes) (e n p d : ℕ) → (d ≡ 0 → ⊥)
    → read_condition d s e n p ≡ on_condition (condition_at s e p) (λ c. got c (p + 1)) (λ _. negation_at (d - 1) s e n (p + 1)) (λ _. conjunction_at (d - 1) s e n (p + 1)) (λ f. pair_at (d - 1) s e n (p + 1) f) (bad bad_expression p)
unfolding read_condition
condition_opened s e n p zero f = absurd (f refl)
condition_opened s e n p (suc d) f = let q : suc d - 1 ≡ d = omega arith in rw q

module _ (s : Bytes) (e n p d : ℕ) (f : d ≡ 0 → ⊥) where
  pub at_leaf : (c : Condition) → condition_at s e p ≡ F.leaf c → got c (p + 1) ≡ read_condition d s e n p
  unfolding on_condition
  at_leaf c q = sym (condition_opened s e n p d f ∙ rw q)

  pub at_negation : condition_at s e p ≡ F.a_negation → negation_at (d - 1) s e n (p + 1) ≡ read_condition d s e n p
  unfolding on_condition
  at_negation q = sym (condition_opened s e n p d f ∙ rw q)

  pub at_conjunction : condition_at s e p ≡ F.a_conjunction → conjunction_at (d - 1) s e n (p + 1) ≡ read_condition d s e n p
  unfolding on_condition
  at_conjunction q = sym (condition_opened s e n p d f ∙ rw q)

  pub at-comparison : (g : Arith → Arith → Condition) → condition_at s e p ≡ F.comparison g → pair_at (d - 1) s e n (p + 1) g ≡ read_condition d s e n p
  unfolding on_condition
  at-comparison g q = sym (condition_opened s e n p d f ∙ rw q)

  pub at-unknown-condition : condition_at s e p ≡ F.unknown_condition → bad bad_expression p ≡ read_condition d s e n p
  unfolding on_condition
  at-unknown-condition q = sym (condition_opened s e n p d f ∙ rw q)

-- ---- a choice by the kind at a place

abbrev pub arith_by : {X : Type 0} → F.ArithKind → X → X → (Operator → X) → X → X
arith_by F.a_constant c r o u = c
arith_by F.a_register c r o u = r
arith_by (F.an_operator x) c r o u = o x
arith_by F.unknown c r o u = u

abbrev pub condition_by : {X : Type 0} → F.ConditionKind → (Condition → X) → X → X → ((Arith → Arith → Condition) → X) → X → X
condition_by (F.leaf c) l n a f u = l c
condition_by F.a_negation l n a f u = n
condition_by F.a_conjunction l n a f u = a
condition_by (F.comparison g) l n a f u = f g
condition_by F.unknown_condition l n a f u = u

-- W of a reading, by kind: W of the readings that it is made of
module _ {X : Type 0} (W : Got Arith → X) (s : Bytes) (e n p d : ℕ) (o : Operator → X) (two : (x : Operator) → W (operands (d - 1) s e n (p + 1) x) ≡ o x) where
  arith-each : (k : F.ArithKind) → W (on_arith k (read_constant s e (p + 1)) (read_register s e n (p + 1)) (λ x. operands (d - 1) s e n (p + 1) x) (bad bad_expression p))
      ≡ arith_by k (W (read_constant s e (p + 1))) (W (read_register s e n (p + 1))) o (W (bad bad_expression p))
  unfolding on_arith
  arith-each F.a_constant = refl
  arith-each F.a_register = refl
  arith-each (F.an_operator x) = two x
  arith-each F.unknown = refl

  pub arith-read : (d ≡ 0 → ⊥) → W (read_arith d s e n p) ≡ arith_by (arith_at s e p) (W (read_constant s e (p + 1))) (W (read_register s e n (p + 1))) o (W (bad bad_expression p))
  arith-read f = ap W (arith_opened s e n p d f) ∙ arith-each (arith_at s e p)

module _ {X : Type 0} (W : Got Condition → X) (s : Bytes) (e n p d : ℕ) (one two : X)
    (is_one : W (negation_at (d - 1) s e n (p + 1)) ≡ one) (is_two : W (conjunction_at (d - 1) s e n (p + 1)) ≡ two) where
  condition-each : (k : F.ConditionKind)
      → W (on_condition k (λ c. got c (p + 1)) (λ _. negation_at (d - 1) s e n (p + 1)) (λ _. conjunction_at (d - 1) s e n (p + 1)) (λ f. pair_at (d - 1) s e n (p + 1) f) (bad bad_expression p))
      ≡ condition_by k (λ c. W (got c (p + 1))) one two (λ f. W (pair_at (d - 1) s e n (p + 1) f)) (W (bad bad_expression p))
  unfolding on_condition
  condition-each (F.leaf c) = refl
  condition-each F.a_negation = is_one
  condition-each F.a_conjunction = is_two
  condition-each (F.comparison f) = refl
  condition-each F.unknown_condition = refl

  pub condition-read : (d ≡ 0 → ⊥) → W (read_condition d s e n p)
      ≡ condition_by (condition_at s e p) (λ c. W (got c (p + 1))) one two (λ f. W (pair_at (d - 1) s e n (p + 1) f)) (W (bad bad_expression p))
  condition-read f = ap W (condition_opened s e n p d f) ∙ condition-each (condition_at s e p)
