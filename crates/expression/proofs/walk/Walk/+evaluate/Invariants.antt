-- The depth that is left falls.
use Rattle.expression.proofs.walk.Walk.+evaluate.Given as goal

abbrev pub decreases-evaluate : goal.decreases-evaluate
decreases-evaluate l = l.depth
