-- What a code is in the rules.
use Rattle.std.specs.Prelude.{Option, Some, None}
use Rattle.rules.specs.Program.{Arith, Condition, always, never, equal, less}
use Rattle.rules.specs.Format as F
use Rattle.interval.specs.Shape.{operator_of}
use Rattle.expression.specs.declared.kind.ArithKind.{ArithKind}
use Rattle.expression.specs.declared.kind.ArithKind.TheVariants.{Constant, Register, Operation}
use Rattle.expression.specs.declared.kind.Relation.{Relation}
use Rattle.expression.specs.declared.kind.Relation.TheVariants.{Equal, Less}
use Rattle.expression.specs.declared.kind.ConditionKind.{ConditionKind}
use Rattle.expression.specs.declared.kind.ConditionKind.TheVariants.{Always, Never, Negation, Conjunction, Comparison}

abbrev pub arith_kind_of : Option ArithKind → F.ArithKind
arith_kind_of (Some Constant) = F.a_constant
arith_kind_of (Some Register) = F.a_register
arith_kind_of (Some (Operation o)) = F.an_operator (operator_of o)
arith_kind_of None = F.unknown

-- the condition that a relation makes of its two sides
abbrev pub relation_of : Relation → Arith → Arith → Condition
relation_of Equal = equal
relation_of Less = less

abbrev pub condition_kind_of : Option ConditionKind → F.ConditionKind
condition_kind_of (Some Always) = F.leaf always
condition_kind_of (Some Never) = F.leaf never
condition_kind_of (Some Negation) = F.a_negation
condition_kind_of (Some Conjunction) = F.a_conjunction
condition_kind_of (Some (Comparison o)) = F.comparison (relation_of o)
condition_kind_of None = F.unknown_condition
