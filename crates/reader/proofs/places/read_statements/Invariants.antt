-- What each loop of `reader::places::read_statements` keeps, and what falls.
use Rattle.std.specs.Prelude.{◌-◌}
use Rattle.rules.specs.Constants.{most_statements}
use Rattle.field.specs.Outcome.{names_of}
use Rattle.reader.proofs.places.Laws.{StatementsSoFar}
use Rattle.reader.proofs.places.read_statements.Given as goal

abbrev pub invariant-loop-place : goal.invariant-loop-place
invariant-loop-place l = StatementsSoFar (names_of l.names) l.s l.at l.initial.places l.places l.count l.end

abbrev pub decreases-loop-place : goal.decreases-loop-place
decreases-loop-place l = most_statements - l.count
