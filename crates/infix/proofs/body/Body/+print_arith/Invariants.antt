-- The depth that is left falls.
use Rattle.infix.proofs.body.Body.+print_arith.Given as goal

abbrev pub decreases-print_arith : goal.decreases-print_arith
decreases-print_arith l = l.depth
