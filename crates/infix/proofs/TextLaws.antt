-- Texts of operations, comparisons and conditions, from their parts.
use mathlib.Core.Path.{◌≡◌, refl, sym, ap, ◌∙◌}
use mathlib.Core.Bool.{Bool, true, false}
use mathlib.Core.List.{[], ◌∷◌, ◌++◌, append_assoc, append-nil}
use Prim.Native.Nat.{ℕ, suc, ◌+◌}
use native.Mathlib.Numerals.{add-one}
use lib.Dec.{ltb}
use Rattle.rules.specs.Interval.{Operator}
use Rattle.rules.specs.Program.{Arith, operation, Condition, always, never, negation, conjunction}
use Rattle.rules.specs.Format.{Bytes, read_arith, read_condition}
use Rattle.rules.specs.Product.{bytes}
use Rattle.expression.specs.declared.kind.Relation.{Relation}
use Rattle.expression.specs.declared.kind.Relation.TheVariants.{Equal, Less}
use Rattle.expression.specs.Kind.{relation_of}
use Rattle.printed.specs.Print.{in_parentheses, binding, sign, print_arith, any_arith, any_condition, one_condition, print_condition}
use Rattle.infix.specs.Prints.{Prints, opening, closing, relation_sign}
use Rattle.infix.specs.declared.Walked.{Walked}
use Rattle.expression.proofs.kind.Laws.{at_constant, at_register, at-unknown, at-unknown-condition}
use Rattle.infix.proofs.PartLaws.{prints-bad}

-- two texts and what stands between them, in parentheses or not
grouped : (b : Bool) (x m y : Bytes) → opening b ++ (x ++ (m ++ (y ++ closing b))) ≡ in_parentheses b (x ++ (m ++ y))
unfolding in_parentheses
grouped true x m y = ap (λ (t : Bytes). 40 ∷ t) (ap (λ (t : Bytes). x ++ t) (sym (append_assoc m y (41 ∷ []))) ∙ sym (append_assoc x (m ++ y) (41 ∷ [])))
grouped false x m y = ap (λ (t : Bytes). x ++ (m ++ t)) (append-nil y)

-- ---- arithmetic

pub operation-text : (o : Operator) (strength k : ℕ) → k ≡ binding o → (a b : Arith)
    → opening (ltb k strength) ++ (print_arith k a ++ (sign o ++ (print_arith (k + 1) b ++ closing (ltb k strength)))) ≡ print_arith strength (operation o a b)
unfolding print_arith
operation-text o strength k e a b = rw (e, add-one (binding o)) (grouped (ltb (binding o) strength) (print_arith (binding o) a) (sign o) (print_arith (suc (binding o)) b))

-- no depth is left
pub arith-none : (F : Arith → Bytes) (s : Bytes) (e n p d : ℕ) (l m : Bytes) (at : ℕ) (w : Walked) → d ≡ 0 → Prints F (read_arith d s e n p) l at m w
unfolding read_arith Prints
arith-none F s e n p d l m at w q = rw q tt

-- ---- conditions

pub relation-text : (o : Relation) (strength : ℕ) (a b : Arith)
    → [] ++ (print_arith any_arith a ++ (relation_sign o ++ (print_arith any_arith b ++ []))) ≡ print_condition strength (relation_of o a b)
unfolding print_condition
relation-text Equal strength a b = ap (λ (t : Bytes). print_arith any_arith a ++ (bytes " == " ++ t)) (append-nil (print_arith any_arith b))
relation-text Less strength a b = ap (λ (t : Bytes). print_arith any_arith a ++ (bytes " < " ++ t)) (append-nil (print_arith any_arith b))

pub always-text : (strength : ℕ) → bytes "true" ≡ print_condition strength always
unfolding print_condition
always-text strength = refl

pub never-text : (strength : ℕ) → bytes "false" ≡ print_condition strength never
unfolding print_condition
never-text strength = refl

pub negation-text : (strength : ℕ) (c : Condition) → 33 ∷ print_condition one_condition c ≡ print_condition strength (negation c)
unfolding print_condition
negation-text strength c = refl

pub conjunction-text : (strength : ℕ) (c d : Condition)
    → opening (ltb any_condition strength) ++ (print_condition any_condition c ++ (bytes " && " ++ (print_condition one_condition d ++ closing (ltb any_condition strength)))) ≡ print_condition strength (conjunction c d)
unfolding print_condition
conjunction-text strength c d = grouped (ltb any_condition strength) (print_condition any_condition c) (bytes " && ") (print_condition one_condition d)

pub condition-none : (F : Condition → Bytes) (s : Bytes) (e n p d : ℕ) (l m : Bytes) (at : ℕ) (w : Walked) → d ≡ 0 → Prints F (read_condition d s e n p) l at m w
unfolding read_condition Prints
condition-none F s e n p d l m at w q = rw q tt

-- what the search is given for the two recursions
pub ruleset arith_laws = (at_constant, at_register, at-unknown, arith-none, prints-bad)

pub ruleset condition_laws = (at-unknown-condition, condition-none, prints-bad)
