-- What the loop of `notation::conditions::nots_at` keeps, and what falls.
use Rattle.std.proofs.Common.{◌-◌, length}
use Rattle.notation.proofs.NotLaws.{NotsSoFar}
use Rattle.notation.proofs.conditions.nots_at.Given as goal

abbrev pub invariant-loop-out : goal.invariant-loop-out
invariant-loop-out l = NotsSoFar l.s l.p l.initial.out l.at l.out l.nots.place l.nots.end l.nots.some

abbrev pub decreases-loop-out : goal.decreases-loop-out
decreases-loop-out l = length l.s - l.nots.place
