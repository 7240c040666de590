-- What the rules read at a place of a walk, and on which registers.
use Rattle.std.specs.Prelude.{ℕ}
use Rattle.rules.specs.Program.{Arith, Condition}
use Rattle.rules.specs.Expression.{Regs}
use Rattle.rules.specs.Format.{Got, read_arith, read_condition}
use Rattle.expression.specs.declared.kind.Relation.{Relation}
use Rattle.expression.specs.declared.walk.Walk.{Walk}
use Rattle.expression.specs.Kind.{relation_of}
use Rattle.expression.specs.Reading.{pair_at}
use Rattle.expression.specs.Evaluation.{regs_of}

abbrev pub registers_in : Walk → Regs
registers_in w = regs_of w.n w.regs

-- an expression, a condition, and the two sides of a comparison, where depth d is left
abbrev pub arith_in : Walk → ℕ → ℕ → Got Arith
arith_in w d at = read_arith d w.s.now w.end w.n at

abbrev pub condition_in : Walk → ℕ → ℕ → Got Condition
condition_in w d at = read_condition d w.s.now w.end w.n at

abbrev pub sides_in : Walk → Relation → ℕ → ℕ → Got Condition
sides_in w o d at = pair_at d w.s.now w.end w.n at (relation_of o)
