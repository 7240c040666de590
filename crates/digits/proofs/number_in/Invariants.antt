-- What the loop of `digits::number_in` keeps.
use Rattle.digits.proofs.Laws.{SoFar}
use Rattle.digits.proofs.number_in.Given as goal

abbrev pub invariant-loop-d : goal.invariant-loop-d
invariant-loop-d l = SoFar l.word l.n l.d-index
