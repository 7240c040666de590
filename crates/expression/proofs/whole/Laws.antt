-- Where the bytes of a statement read as a tree, its value and its branch are the rules' on that tree. Assumes nothing.
use Prim.Native.Nat.{ℕ}
use mathlib.Core.Path.{◌≡◌, ap, ◌∙◌}
use Rattle.rules.specs.Program.{Arith, Condition}
use Rattle.rules.specs.Expression.{Regs, evaluate, all_parts, narrow_yes, narrow_no}
use Rattle.rules.specs.Format.{Got, got}
use Rattle.std.specs.Prelude.{Result}
use Rattle.refusal.specs.declared.Refusal.{Refusal}
use Rattle.interval.specs.declared.Span.{Span}
use Rattle.interval.specs.Shape.{result_of}
use Rattle.expression.specs.declared.whole.Branch.{Branch}
use Rattle.expression.specs.Evaluation.{evaluated_in}
use Rattle.expression.specs.Parts.{check_of, parts_in}
use Rattle.expression.specs.Comparison.{narrowed_of}
use Rattle.expression.specs.Narrowing.{yes_in, no_in}
use Rattle.expression.specs.Whole.{result_in, left_in, Branches}
use Rattle.expression.proofs.parts.Laws.{sides_are, faults_same}
use Rattle.expression.proofs.narrowing.Laws.{comparison_yes, comparison_no}

module _ (rs : Regs) (q : ℕ) where
  pub value-of-tree : (g : Got Arith) (a : Arith) (v : Result Span Refusal) → g ≡ got a q → result_of v ≡ result_in (evaluated_in rs g) → result_of v ≡ evaluate a rs
  value-of-tree g a v e h = h ∙ ap (λ (x : Got Arith). result_in (evaluated_in rs x)) e

  module _ (n : ℕ) (g : Got Condition) (c : Condition) (b : Branch) (e : g ≡ got c q) (h : Branches n rs g b) where
    pub check-of-tree : check_of b.check ≡ all_parts c rs
    check-of-tree = h.check ∙ ap (λ (x : Got Condition). result_in (parts_in rs x)) e

    pub yes-of-tree : narrowed_of n b.yes ≡ narrow_yes c rs
    yes-of-tree = h.yes ∙ ap (λ (x : Got Condition). left_in (yes_in rs x)) e

    pub no-of-tree : narrowed_of n b.no ≡ narrow_no c rs
    no-of-tree = h.no ∙ ap (λ (x : Got Condition). left_in (no_in rs x)) e

-- ---- a comparison: its parts, and what yes and no leave
pub ruleset pair = (sides_are, faults_same, comparison_yes, comparison_no)
