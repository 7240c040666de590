-- Registers and variables whose values are known, and what an expression on them comes to.
use Rattle.std.specs.Prelude.{ℕ, Bool, List, map, take, ℤ, Result, Ok, Err}
use Rattle.rules.specs.Refusal as R
use Rattle.refusal.specs.declared.Refusal.{Refusal}
use Rattle.refusal.specs.Shape.{rule_of}
use Rattle.interval.specs.declared.Val.{Val}

abbrev pub number_of : Val → ℤ
number_of v = v.0

-- the first n of the code's eight are the thread's, or the sheet's
unfoldable pub values_of : ℕ → List Val → List ℤ
values_of n l = take n (map number_of l)

-- a result of the code in the rules, where f says what its value is there
abbrev pub in_rules : {A B : Type 0} → (A → B) → Result A Refusal → R.Result B
in_rules f (Ok a) = R.value (f a)
in_rules f (Err r) = R.fault (rule_of r)

abbrev pub value_in : Result Val Refusal → R.Result ℤ
value_in = in_rules number_of

abbrev pub truth_in : Result Bool Refusal → R.Result Bool
truth_in = in_rules (λ b. b)
