-- What the loop of `search::turn::expand` keeps.
use Rattle.search.proofs.ExpandLaws.{Expanding}
use Rattle.search.proofs.turn.expand.Given as goal

abbrev pub invariant-loop-t : goal.invariant-loop-t
invariant-loop-t l = Expanding l.taken l.latest.0 l.bound.0 l.initial.stack l.stack l.made l.t
