-- What narrowing by a condition gives, from the rules' narrowing by the tree that the same bytes read as.
use Rattle.std.specs.Prelude.{Bool, true, false, List, ℕ}
use Rattle.std.specs.Prelude as P
use Rattle.std.proofs.Math.Option.{Option, none, some}
use Rattle.rules.specs.Program.{Condition}
use Rattle.rules.specs.Expression.{Regs, narrow_yes, narrow_no}
use Rattle.rules.specs.Format.{Got}
use Rattle.interval.specs.declared.Span.{Span}
use Rattle.expression.specs.Evaluation.{Found, found_of, seen}
use Rattle.expression.specs.Comparison.{narrowed_of}

abbrev pub narrowed_at_of : ℕ → P.Option (P.Option (List Span) × ℕ) → Found (Option Regs)
narrowed_at_of n o = seen (narrowed_of n) o

abbrev pub yes_in : Regs → Got Condition → Found (Option Regs)
yes_in rs g = found_of (λ c. narrow_yes c rs) g

abbrev pub no_in : Regs → Got Condition → Found (Option Regs)
no_in rs g = found_of (λ c. narrow_no c rs) g

abbrev pub narrow_by : Bool → Condition → Regs → Option Regs
narrow_by true = narrow_yes
narrow_by false = narrow_no

abbrev pub narrowed_in : Bool → Regs → Got Condition → Found (Option Regs)
narrowed_in wanted rs g = found_of (λ c. narrow_by wanted c rs) g

-- the second, unless the first is empty
abbrev pub unless_empty : Option Regs → Option Regs → Option Regs
unless_empty none y = none
unless_empty (some x) y = y
