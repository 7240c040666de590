-- Which of 10 and 16 is told: an expression or a condition has the same fault in the search and in a run where every value is known.
-- (The worked rows are in Worked.)
use Rattle.std.specs.Prelude.{if◌then◌else◌}
use mathlib.Core.Path.{◌≡◌, refl, ap, ◌∙◌}
use mathlib.Core.Bool.{Bool, true, false, ◌&&◌}
use mathlib.Core.List.{List, [], ◌∷◌, map}
use Prim.Native.Nat.{ℕ, zero, suc}
use lib.IntN.{ℤ, pos}
use lib.Signed.{le_z}
use lib.ListN.{get_or}
use Rattle.rules.specs.Refusal.{Result, value, fault, no_reading, off_scale, on_value, on_both}
use Rattle.rules.specs.Constants.{half32}
use Rattle.rules.specs.Interval.{interval, min_z, max_z, eq_z, in_range, Operator, plus, minus, times, divide, operate, divides_by_zero, calculate, hull, holds_zero, may_divide_by_zero, fits, within, combine}
use Rattle.rules.specs.Program.{Arith, constant, register, operation, Condition, always, never, negation, conjunction, equal, less}
use Rattle.rules.specs.Run.{value_of, truth_of}
use Rattle.rules.specs.Expression.{zero_interval, evaluate, all_parts}
use Rattle.rules.specs.Faults.{single, single_of, has_truth, SaysWhich}
use Rattle.rules.proofs.Worked.{faults_told, run_faults_told}
use Rattle.rules.proofs.Base.{if-ind}
use Rattle.rules.proofs.Tight.{fault-of-values, zero-told}

-- ---- an operator on single values

min-same : (z : ℤ) → min_z z z ≡ z
unfolding min_z
min-same z = if-ind (le_z z z) z z (λ w. w ≡ z) (λ _. refl) (λ _. refl)

max-same : (z : ℤ) → max_z z z ≡ z
unfolding max_z
max-same z = if-ind (le_z z z) z z (λ w. w ≡ z) (λ _. refl) (λ _. refl)

hull-single : (f : ℤ → ℤ → ℤ) (x y : ℤ) → hull f (single x) (single y) ≡ single (f x y)
unfolding hull
hull-single f x y =
    let z = f x y in
    let low = ap (λ (w : ℤ). min_z w w) (min-same z) ∙ min-same z in
    let high = ap (λ (w : ℤ). max_z w w) (max-same z) ∙ max-same z in
    λ i. interval (low i) (high i)

divisor-single : (o : Operator) (y : ℤ) → may_divide_by_zero o (single y) ≡ divides_by_zero o y
unfolding may_divide_by_zero divides_by_zero holds_zero eq_z
divisor-single plus y = refl
divisor-single minus y = refl
divisor-single times y = refl
divisor-single divide y = refl

-- the two tests in their order
by_tests : (b r : Bool) (z : ℤ)
    → (if b then fault no_reading else if r && r then value (single z) else fault off_scale) ≡ single_of (if b then fault no_reading else if r then value z else fault off_scale)
by_tests true r z = refl
by_tests false true z = refl
by_tests false false z = refl

combine-single : (n : ℕ) (o : Operator) (x y : ℤ) → combine n o (single x) (single y) ≡ single_of (calculate n o x y)
unfolding combine within fits calculate
combine-single n o x y =
    rw (hull-single (operate o) x y, divisor-single o y) (by_tests (divides_by_zero o y) (in_range n (operate o x y)) (operate o x y))

-- ---- expressions

both-single : (n : ℕ) (o : Operator) (v w : Result ℤ) → on_both (combine n o) (single_of v) (single_of w) ≡ single_of (on_both (calculate n o) v w)
unfolding on_both
both-single n o (fault r) w = refl
both-single n o (value x) (fault r) = refl
both-single n o (value x) (value y) = combine-single n o x y

get-single : (zs : List ℤ) (r : ℕ) → get_or (map single zs) r zero_interval ≡ single (get_or zs r (pos 0))
get-single [] r = refl
get-single (z ∷ zs) zero = refl
get-single (z ∷ zs) (suc r) = get-single zs r

pub evaluate-single : (a : Arith) (zs : List ℤ) → evaluate a (map single zs) ≡ single_of (value_of a zs)
unfolding evaluate value_of
evaluate-single (constant z) zs = refl
evaluate-single (register r) zs = ap value (get-single zs r)
evaluate-single (operation o a b) zs =
    rw (evaluate-single a zs, evaluate-single b zs) (both-single half32 o (value_of a zs) (value_of b zs))

-- ---- conditions

sides-single : (f : ℤ → ℤ → Bool) (v w : Result ℤ) → on_both (λ _ _. value tt) (single_of v) (single_of w) ≡ has_truth (on_both (λ x y. value (f x y)) v w)
unfolding on_both
sides-single f (fault r) w = refl
sides-single f (value x) (fault r) = refl
sides-single f (value x) (value y) = refl

compare-single : (f : ℤ → ℤ → Bool) (a b : Arith) (zs : List ℤ)
    → on_both (λ _ _. value tt) (evaluate a (map single zs)) (evaluate b (map single zs)) ≡ has_truth (on_both (λ x y. value (f x y)) (value_of a zs) (value_of b zs))
compare-single f a b zs = rw (evaluate-single a zs, evaluate-single b zs) (sides-single f (value_of a zs) (value_of b zs))

not-single : (f : Bool → Bool) (v : Result Bool) → has_truth v ≡ has_truth (on_value (λ b. value (f b)) v)
unfolding on_value
not-single f (fault r) = refl
not-single f (value b) = refl

and-single : (f : Bool → Bool → Bool) (v w : Result Bool) → on_both (λ _ _. value tt) (has_truth v) (has_truth w) ≡ has_truth (on_both (λ a b. value (f a b)) v w)
unfolding on_both
and-single f (fault r) w = refl
and-single f (value a) (fault r) = refl
and-single f (value a) (value b) = refl

pub parts-single : (c : Condition) (zs : List ℤ) → all_parts c (map single zs) ≡ has_truth (truth_of c zs)
unfolding all_parts truth_of
parts-single always zs = refl
parts-single never zs = refl
parts-single (negation c) zs = parts-single c zs ∙ not-single _ (truth_of c zs)
parts-single (conjunction c d) zs = rw (parts-single c zs, parts-single d zs) (and-single _ (truth_of c zs) (truth_of d zs))
parts-single (equal a b) zs = compare-single _ a b zs
parts-single (less a b) zs = compare-single _ a b zs

pub says-which : SaysWhich
says-which = record {
  faults_told = faults_told;
  run_faults_told = run_faults_told;
  told_of_values = fault-of-values;
  zero_is_told = zero-told;
  assign_alike = evaluate-single;
  if_alike = parts-single;
}
