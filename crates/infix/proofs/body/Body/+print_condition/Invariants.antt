-- The depth that is left falls.
use Rattle.infix.proofs.body.Body.+print_condition.Given as goal

abbrev pub decreases-print_condition : goal.decreases-print_condition
decreases-print_condition l = l.depth
