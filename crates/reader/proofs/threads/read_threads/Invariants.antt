-- What each loop of `reader::threads::read_threads` keeps, and what falls.
use Rattle.std.specs.Prelude.{◌-◌}
use Rattle.rules.specs.Constants.{most_threads}
use Rattle.reader.proofs.threads.Tables.{ThreadsSoFar}
use Rattle.reader.proofs.threads.read_threads.Given as goal

abbrev pub invariant-loop-end : goal.invariant-loop-end
invariant-loop-end l = ThreadsSoFar l.vars l.locks l.s l.at l.initial.places l.places l.entries l.count l.end

abbrev pub decreases-loop-end : goal.decreases-loop-end
decreases-loop-end l = most_threads - l.count
