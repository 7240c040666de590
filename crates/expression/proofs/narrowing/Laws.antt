-- Narrowing on the bytes is narrowing by the tree that they read as. Assumes nothing.
use Prim.Native.Nat.{ℕ, ◌+◌, ◌-◌}
use Rattle.std.specs.Prelude.{Some, None, unwrap_or}
use Rattle.std.specs.Prelude as P
use mathlib.Core.Path.{◌≡◌, refl, ◌∙◌}
use mathlib.Core.Bool.{Bool, true, false}
use mathlib.Core.Option.{Option, none, some}
use mathlib.Core.List.{List}
use Rattle.rules.specs.Program.{Arith, Condition, negation, conjunction}
use Rattle.rules.specs.Expression.{Regs, evaluate, compared, then_narrow, join_both, narrow_yes, narrow_no}
use Rattle.rules.specs.Format.{Bytes, read_arith, condition_at, read_condition}
use Rattle.interval.specs.declared.Span.{Span}
use Rattle.expression.specs.declared.kind.Relation.{Relation}
use Rattle.expression.specs.declared.kind.Relation.TheVariants.{Equal, Less}
use Rattle.expression.specs.Kind.{relation_of}
use Rattle.expression.specs.Reading.{pair_at}
use Rattle.expression.specs.Evaluation.{regs_of, unread, read, evaluated_in}
use Rattle.expression.specs.Comparison.{side_at, side_of, narrowed_of, comparison_rule}
use Rattle.expression.specs.Narrowing.{yes_in, no_in, narrow_by, narrowed_in, unless_empty}
use Rattle.expression.proofs.kind.Laws.{negation_at, conjunction_at, condition_by, condition-read}
use Rattle.expression.proofs.evaluation.Laws.{and_found, one-found, both-found}
use Rattle.expression.proofs.comparison.Laws.{side-on, rule-same, compared_same}

-- ---- a comparison

narrow-relation : (w : Bool) (o : Relation) (a b : Arith) (rs : Regs) → narrow_by w (relation_of o a b) rs ≡ compared (comparison_rule w o a b rs) (evaluate a rs) (evaluate b rs)
unfolding narrow_yes
narrow-relation true Equal a b rs = refl
narrow-relation false Equal a b rs = refl
narrow-relation true Less a b rs = refl
narrow-relation false Less a b rs = refl

pub comparison_is : (w : Bool) (o : Relation) (rs : Regs) (s : Bytes) (e n p d : ℕ) → narrowed_in w rs (pair_at d s e n p (relation_of o))
    ≡ and_found (evaluated_in rs (read_arith d s e n p)) (λ x q. and_found (evaluated_in rs (read_arith d s e n q))
    (λ y r. read (compared (comparison_rule w o (side_of n (side_at s e p)) (side_of n (side_at s e q)) rs) x y) r))
comparison_is w o rs s e n p d =
    both-found (λ a. evaluate a rs) (λ _ b. evaluate b rs) (λ c. narrow_by w c rs) (relation_of o)
    (λ x q y. compared (comparison_rule w o (side_of n (side_at s e p)) (side_of n (side_at s e q)) rs) x y) (read_arith d s e n p) (λ q. read_arith d s e n q)
    (λ a q b r z z'. narrow-relation w o a b rs ∙ compared_same (comparison_rule w o a b rs) (comparison_rule w o _ _ rs) (evaluate a rs) (evaluate b rs)
    (λ i j. rule-same w o a b _ _ rs i j (λ f x. side-on s e n p f x a q d z) (λ f x. side-on s e n q f x b r d z')))

-- the same of yes, and of no
module _ (o : Relation) (rs : Regs) (s : Bytes) (e n p d : ℕ) where
  pub comparison_yes : yes_in rs (pair_at d s e n p (relation_of o))
      ≡ and_found (evaluated_in rs (read_arith d s e n p)) (λ x q. and_found (evaluated_in rs (read_arith d s e n q))
      (λ y r. read (compared (comparison_rule true o (side_of n (side_at s e p)) (side_of n (side_at s e q)) rs) x y) r))
  comparison_yes = comparison_is true o rs s e n p d

  pub comparison_no : no_in rs (pair_at d s e n p (relation_of o))
      ≡ and_found (evaluated_in rs (read_arith d s e n p)) (λ x q. and_found (evaluated_in rs (read_arith d s e n q))
      (λ y r. read (compared (comparison_rule false o (side_of n (side_at s e p)) (side_of n (side_at s e q)) rs) x y) r))
  comparison_no = comparison_is false o rs s e n p d

-- ---- a negation, and an "and"

-- the registers that the right side of an "and" is narrowed on: those that the left leaves, any where it leaves none
abbrev pub left_or : Option Regs → Regs → Regs
left_or none rs = rs
left_or (some ts) rs = ts

pub left_is : (n : ℕ) (o : P.Option (List Span)) (l : List Span) → regs_of n (unwrap_or o l) ≡ left_or (narrowed_of n o) (regs_of n l)
left_is n None l = refl
left_is n (Some k) l = refl

yes_both : (o : Option Regs) (rs : Regs) (a b : Condition) → o ≡ narrow_yes a rs → narrow_yes (conjunction a b) rs ≡ unless_empty o (narrow_yes b (left_or o rs))
unfolding narrow_yes then_narrow
yes_both none rs a b h = rw (← h)
yes_both (some ts) rs a b h = rw (← h)

module _ (rs : Regs) (s : Bytes) (e n p d : ℕ) where
  negation-yes : yes_in rs (negation_at (d - 1) s e n (p + 1)) ≡ no_in rs (read_condition (d - 1) s e n (p + 1))
  unfolding narrow_yes
  negation-yes = one-found (λ c. narrow_no c rs) (λ c. narrow_yes c rs) negation (λ c. refl) (read_condition (d - 1) s e n (p + 1))

  negation-no : no_in rs (negation_at (d - 1) s e n (p + 1)) ≡ yes_in rs (read_condition (d - 1) s e n (p + 1))
  unfolding narrow_yes
  negation-no = one-found (λ c. narrow_yes c rs) (λ c. narrow_no c rs) negation (λ c. refl) (read_condition (d - 1) s e n (p + 1))

  conjunction-yes : yes_in rs (conjunction_at (d - 1) s e n (p + 1))
      ≡ and_found (yes_in rs (read_condition (d - 1) s e n (p + 1)))
      (λ x q. and_found (yes_in (left_or x rs) (read_condition (d - 1) s e n q)) (λ y r. read (unless_empty x y) r))
  conjunction-yes =
      both-found (λ c. narrow_yes c rs) (λ x c. narrow_yes c (left_or x rs)) (λ c. narrow_yes c rs) conjunction (λ x q y. unless_empty x y)
      (read_condition (d - 1) s e n (p + 1)) (λ q. read_condition (d - 1) s e n q) (λ a q b r _ _. yes_both (narrow_yes a rs) rs a b refl)

  conjunction-no : no_in rs (conjunction_at (d - 1) s e n (p + 1))
      ≡ and_found (no_in rs (read_condition (d - 1) s e n (p + 1)))
      (λ x q. and_found (no_in rs (read_condition (d - 1) s e n q)) (λ y r. read (join_both x y) r))
  unfolding narrow_yes
  conjunction-no =
      both-found (λ c. narrow_no c rs) (λ _ c. narrow_no c rs) (λ c. narrow_no c rs) conjunction (λ x q y. join_both x y)
      (read_condition (d - 1) s e n (p + 1)) (λ q. read_condition (d - 1) s e n q) (λ a q b r _ _. refl)

  -- ---- a condition: where some depth d is left, and where none is

  pub yes_is : (d ≡ 0 → ⊥) → yes_in rs (read_condition d s e n p)
      ≡ condition_by (condition_at s e p) (λ c. read (narrow_yes c rs) (p + 1)) (no_in rs (read_condition (d - 1) s e n (p + 1)))
      (and_found (yes_in rs (read_condition (d - 1) s e n (p + 1)))
      (λ x q. and_found (yes_in (left_or x rs) (read_condition (d - 1) s e n q)) (λ y r. read (unless_empty x y) r)))
      (λ f. yes_in rs (pair_at (d - 1) s e n (p + 1) f)) unread
  yes_is = condition-read (yes_in rs) s e n p d _ _ negation-yes conjunction-yes

  pub no_is : (d ≡ 0 → ⊥) → no_in rs (read_condition d s e n p)
      ≡ condition_by (condition_at s e p) (λ c. read (narrow_no c rs) (p + 1)) (yes_in rs (read_condition (d - 1) s e n (p + 1)))
      (and_found (no_in rs (read_condition (d - 1) s e n (p + 1)))
      (λ x q. and_found (no_in rs (read_condition (d - 1) s e n q)) (λ y r. read (join_both x y) r)))
      (λ f. no_in rs (pair_at (d - 1) s e n (p + 1) f)) unread
  no_is = condition-read (no_in rs) s e n p d _ _ negation-no conjunction-no

  pub yes_unread : d ≡ 0 → yes_in rs (read_condition d s e n p) ≡ unread
  unfolding read_condition
  yes_unread z = rw z

  pub no_unread : d ≡ 0 → no_in rs (read_condition d s e n p) ≡ unread
  unfolding read_condition
  no_unread z = rw z

pub ruleset yes_laws = (yes_is, yes_unread, left_is)

pub ruleset no_laws = (no_is, no_unread)
