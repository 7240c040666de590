-- What working out every part of a condition gives: the first fault from the left, or none.
use Rattle.std.specs.Prelude.{ℕ, Option, Result, Ok, Err}
use Rattle.rules.specs.Refusal as R
use Rattle.rules.specs.Refusal.{value, fault, on_both}
use Rattle.rules.specs.Program.{Condition}
use Rattle.rules.specs.Format.{Got}
use Rattle.rules.specs.Expression.{Regs, all_parts}
use Rattle.refusal.specs.declared.Refusal.{Refusal}
use Rattle.refusal.specs.Shape.{rule_of}
use Rattle.expression.specs.Evaluation.{Found, found_of, seen}

-- whether there is a value, or the fault that stands in its way
abbrev pub check_of : {A : Type 0} → Result A Refusal → R.Result (Unit {0})
check_of (Ok a) = value tt
check_of (Err r) = fault (rule_of r)

abbrev pub checked_of : Option (Result (Unit {0}) Refusal × ℕ) → Found (R.Result (Unit {0}))
checked_of o = seen check_of o

abbrev pub parts_in : Regs → Got Condition → Found (R.Result (Unit {0}))
parts_in rs g = found_of (λ c. all_parts c rs) g

-- of two results the first fault
abbrev pub first_fault : {A B : Type 0} → R.Result A → R.Result B → R.Result (Unit {0})
first_fault x y = on_both (λ _ _. value tt) x y
