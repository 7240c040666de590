-- Registers of one value each, and what an expression on them comes to: the value, the truth or the fault of a run.
use Rattle.std.specs.Prelude.{Option, Some, None, is_some, Ok, Err}
use Rattle.std.proofs.Common.{◌≡◌, ℕ, zero, suc, ◌<◌, Bool, List, [], ◌∷◌, map, length, get_or, ℤ, sym, refl, ap, ◌∙◌, arith}
use Rattle.std.proofs.lemmas.List.{same_lists, get_or-map, length-map}
use Rattle.rules.specs.Refusal as R
use Rattle.rules.specs.Refusal.{value, fault}
use Rattle.rules.specs.Interval.{Interval}
use Rattle.rules.specs.Program as P
use Rattle.rules.specs.Format.{Got, got}
use Rattle.rules.specs.Expression.{Regs, evaluate, all_parts, narrow_yes}
use Rattle.rules.specs.Run.{value_of, truth_of}
use Rattle.rules.specs.Faults.{single, single_of, has_truth}
use Rattle.rules.proofs.Faults.{evaluate-single, parts-single}
use Rattle.rules.proofs.Single.{is_open, truth-by-yes}
use Rattle.rules.proofs.Expression.{IsValue}
use Rattle.refusal.specs.declared.Refusal.{Refusal}
use Rattle.refusal.specs.Shape.{rule_of}
use Rattle.interval.specs.declared.Val.{Val}
use Rattle.interval.specs.declared.Span.{Span}
use Rattle.expression.specs.Evaluation.{regs_of, evaluated_in}
use Rattle.expression.specs.Parts.{check_of, parts_in}
use Rattle.expression.specs.Comparison.{narrowed_of}
use Rattle.expression.specs.Narrowing.{yes_in}
use Rattle.expression.specs.Whole.{result_in, left_in, Branches}
use Rattle.expression.specs.declared.whole.Branch.{Branch}
use Rattle.record.specs.Known.{values_of}

-- ---- each register as a span

-- what is made of each element of a list
pub made-of-each : {A B : Type 0} (f : A → B) (xs : List A) (ys : List B) (d : A) → length ys ≡ length xs
    → ((i : ℕ) (e : B) → i < length xs → get_or ys i e ≡ f (get_or xs i d)) → ys ≡ map f xs
made-of-each f xs ys d n h =
    same_lists ys (map f xs) (n ∙ sym (length-map xs f)) (λ i e b. h i e (omega arith) ∙ sym (get_or-map f xs i d e (omega arith)))

abbrev pub span_of : Val → Span
span_of v = record { low = v; high = v }

pub spans-are : (n : ℕ) (l : List Val) → regs_of n (map span_of l) ≡ map single (values_of n l)
unfolding regs_of values_of
spans-are zero l = refl
spans-are (suc n) [] = refl
spans-are (suc n) (v ∷ l) = ap (λ (r : Regs). single v.0 ∷ r) (spans-are n l)

-- ---- an expression

module _ (zs : List ℤ) (rs : Regs) (known : rs ≡ map single zs) (end : ℕ) where
  module _ (g : Got P.Arith) (a : P.Arith) (e : g ≡ got a end) where
    evaluated : result_in (evaluated_in rs g) ≡ single_of (value_of a zs)
    evaluated = ap (λ (h : Got P.Arith). result_in (evaluated_in rs h)) e ∙ ap (evaluate a) known ∙ evaluate-single a zs

    -- back from the interval of one value
    abbrev pub low_of : R.Result Interval → R.Result ℤ
    low_of (fault r) = fault r
    low_of (value i) = value i.low

    low-single : (v : R.Result ℤ) → low_of (single_of v) ≡ v
    low-single (fault r) = refl
    low-single (value z) = refl

    pub value-told : {x : R.Result Interval} → x ≡ result_in (evaluated_in rs g) → low_of x ≡ value_of a zs
    value-told h = ap low_of (h ∙ evaluated) ∙ low-single (value_of a zs)

  -- ---- a condition

  module _ (n : ℕ) (g : Got P.Condition) (c : P.Condition) (e : g ≡ got c end) where
    checked : {x : R.Result (Unit {0})} → x ≡ result_in (parts_in rs g) → x ≡ has_truth (truth_of c zs)
    checked h = h ∙ ap (λ (k : Got P.Condition). result_in (parts_in rs k)) e ∙ ap (all_parts c) known ∙ parts-single c zs

    fault-of : (v : R.Result Bool) (q : R.Refusal) → fault q ≡ has_truth v → fault q ≡ v
    fault-of (fault r) q k = let z : q ≡ r = cc in ap fault z
    fault-of (value t) q k = absurd (let z : ◌≡◌ {A = ℕ} 0 1 = cc in omega arith)

    pub truth-faults : {b : Branch} {q : Refusal} → Branches n rs g b → b.check ≡ Err q → fault (rule_of q) ≡ truth_of c zs
    truth-faults {b} {q} h k = fault-of (truth_of c zs) (rule_of q) (sym (ap check_of k) ∙ checked h.check)

    open_by : (o : Option (List Span)) → is_some o ≡ is_open (narrowed_of n o)
    open_by None = refl
    open_by (Some l) = refl

    is-value : (x : R.Result (Unit {0})) → value tt ≡ x → IsValue x
    is-value (value u) q = tt
    is-value (fault r) q = absurd (let z : ◌≡◌ {A = ℕ} 0 1 = cc in omega arith)

    pub truth-is : {b : Branch} {u : Unit {0}} → Branches n rs g b → b.check ≡ Ok u → value (is_some b.yes) ≡ truth_of c zs
    truth-is {b} {u} h k =
        let passed : value tt ≡ all_parts c (map single zs) = sym (ap check_of k) ∙ checked h.check ∙ sym (parts-single c zs) in
        let taken : is_open (narrowed_of n b.yes) ≡ is_open (narrow_yes c (map single zs)) =
        ap is_open (h.yes ∙ ap (λ (k : Got P.Condition). left_in (yes_in rs k)) e ∙ ap (narrow_yes c) known) in
        ap value (open_by b.yes ∙ taken) ∙ sym (truth-by-yes c zs (is-value (all_parts c (map single zs)) passed))
