-- The depth that is left falls.
use Rattle.expression.proofs.reading.+read_arith.Given as goal

abbrev pub decreases-read_arith : goal.decreases-read_arith
decreases-read_arith l = l.depth
