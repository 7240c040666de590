-- What each loop of `field::ranges::read_variables` keeps, and what falls.
use Rattle.std.specs.Prelude.{◌-◌}
use Rattle.rules.specs.Constants.{most_variables}
use Rattle.rules.specs.Format.{read_range, variable_here, read_variables}
use Rattle.field.proofs.Loops.{Turn}
use Rattle.field.proofs.ranges.read_variables.Given as goal

abbrev pub invariant-loop-end : goal.invariant-loop-end
invariant-loop-end l = Turn (λ n p. variable_here l.s p) (λ p. read_range l.s p) most_variables (read_variables l.s l.at) l.count l.end

abbrev pub decreases-loop-end : goal.decreases-loop-end
decreases-loop-end l = most_variables - l.count
