-- Every part of a condition worked out on the bytes is every part of the tree that they read as. Assumes nothing.
use Prim.Native.Nat.{ℕ, ◌+◌, ◌-◌}
use mathlib.Core.Path.{◌≡◌, refl}
use Rattle.std.specs.Prelude.{Result, Ok, Err}
use Rattle.rules.specs.Refusal.{on_both}
use Rattle.refusal.specs.declared.Refusal.{Refusal}
use Rattle.interval.specs.declared.Span.{Span}
use Rattle.interval.specs.Shape.{result_of}
use Rattle.rules.specs.Program.{Arith, negation, conjunction}
use Rattle.rules.specs.Expression.{Regs, evaluate, all_parts}
use Rattle.rules.specs.Format.{Bytes, read_arith, condition_at, read_condition}
use Rattle.expression.specs.declared.kind.Relation.{Relation}
use Rattle.expression.specs.declared.kind.Relation.TheVariants.{Equal, Less}
use Rattle.expression.specs.Kind.{relation_of}
use Rattle.expression.specs.Reading.{pair_at}
use Rattle.expression.specs.Evaluation.{unread, read, evaluated_in}
use Rattle.expression.specs.Parts.{check_of, parts_in, first_fault}
use Rattle.expression.proofs.kind.Laws.{negation_at, conjunction_at, condition_by, condition-read}
use Rattle.expression.proofs.evaluation.Laws.{and_found, one-found, both-found}

-- the fault of a span is the fault of its interval
pub faults_same : (x y : Result Span Refusal) → first_fault (check_of x) (check_of y) ≡ first_fault (result_of x) (result_of y)
unfolding on_both
faults_same (Ok a) (Ok b) = refl
faults_same (Ok a) (Err r) = refl
faults_same (Err r) y = refl

relation-parts : (o : Relation) (a b : Arith) (rs : Regs) → all_parts (relation_of o a b) rs ≡ first_fault (evaluate a rs) (evaluate b rs)
unfolding all_parts
relation-parts Equal a b rs = refl
relation-parts Less a b rs = refl

module _ (rs : Regs) (s : Bytes) (e n p d : ℕ) where
  -- a comparison
  pub sides_are : (o : Relation) → parts_in rs (pair_at d s e n p (relation_of o))
      ≡ and_found (evaluated_in rs (read_arith d s e n p)) (λ x q. and_found (evaluated_in rs (read_arith d s e n q)) (λ y r. read (first_fault x y) r))
  sides_are o =
      both-found (λ a. evaluate a rs) (λ _ b. evaluate b rs) (λ c. all_parts c rs) (relation_of o) (λ x q y. first_fault x y)
      (read_arith d s e n p) (λ q. read_arith d s e n q) (λ a q b r _ _. relation-parts o a b rs)

  negation-parts : parts_in rs (negation_at (d - 1) s e n (p + 1)) ≡ parts_in rs (read_condition (d - 1) s e n (p + 1))
  unfolding all_parts
  negation-parts = one-found (λ c. all_parts c rs) (λ c. all_parts c rs) negation (λ c. refl) (read_condition (d - 1) s e n (p + 1))

  conjunction-parts : parts_in rs (conjunction_at (d - 1) s e n (p + 1))
      ≡ and_found (parts_in rs (read_condition (d - 1) s e n (p + 1)))
      (λ x q. and_found (parts_in rs (read_condition (d - 1) s e n q)) (λ y r. read (first_fault x y) r))
  unfolding all_parts
  conjunction-parts =
      both-found (λ c. all_parts c rs) (λ _ c. all_parts c rs) (λ c. all_parts c rs) conjunction (λ x q y. first_fault x y)
      (read_condition (d - 1) s e n (p + 1)) (λ q. read_condition (d - 1) s e n q) (λ a q b r _ _. refl)

  -- a condition: where some depth d is left, and where none is
  pub parts_are : (d ≡ 0 → ⊥) → parts_in rs (read_condition d s e n p)
      ≡ condition_by (condition_at s e p) (λ c. read (all_parts c rs) (p + 1)) (parts_in rs (read_condition (d - 1) s e n (p + 1)))
      (and_found (parts_in rs (read_condition (d - 1) s e n (p + 1)))
      (λ x q. and_found (parts_in rs (read_condition (d - 1) s e n q)) (λ y r. read (first_fault x y) r)))
      (λ f. parts_in rs (pair_at (d - 1) s e n (p + 1) f)) unread
  parts_are = condition-read (parts_in rs) s e n p d _ _ negation-parts conjunction-parts

  pub parts_unread : d ≡ 0 → parts_in rs (read_condition d s e n p) ≡ unread
  unfolding read_condition
  parts_unread z = rw z

pub ruleset parts_laws = (parts_are, parts_unread)
