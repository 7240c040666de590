-- What each loop of `scan::words::numeral_at` keeps.
use Rattle.scan.proofs.WordLaws.{SoFar}
use Rattle.scan.proofs.words.numeral_at.Given as goal

abbrev pub invariant-loop-q : goal.invariant-loop-q
invariant-loop-q l = SoFar l.s l.v l.p l.w l.q
