-- What a value of each of the code's types is in the rules.
use Rattle.std.specs.Prelude.{pos, Result, Ok, Err}
use Rattle.rules.specs.Refusal as R
use Rattle.rules.specs.Refusal.{value, fault}
use Rattle.rules.specs.Interval as I
use Rattle.rules.specs.Interval.{Interval, interval}
use Rattle.refusal.specs.declared.Refusal.{Refusal}
use Rattle.refusal.specs.Shape.{rule_of}
use Rattle.interval.specs.declared.Span.{Span}
use Rattle.interval.specs.declared.Operator.{Operator}
use Rattle.interval.specs.declared.Operator.TheVariants.{Plus, Minus, Times, Divide}

abbrev pub interval_of : Span → Interval
interval_of s = interval s.low.0 s.high.0

-- the span of 0 alone
abbrev pub zero_span : Span
zero_span = record { low = record { 0 = pos 0 }; high = record { 0 = pos 0 } }

-- a span is its interval, a fault the refusal of 01 that it names
abbrev pub result_of : Result Span Refusal → R.Result Interval
result_of (Ok s) = value (interval_of s)
result_of (Err r) = fault (rule_of r)

abbrev pub operator_of : Operator → I.Operator
operator_of Plus = I.plus
operator_of Minus = I.minus
operator_of Times = I.times
operator_of Divide = I.divide
