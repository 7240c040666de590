-- The depth that is left falls.
use Rattle.expression.proofs.walk.Walk.+all_parts.Given as goal

abbrev pub decreases-all_parts : goal.decreases-all_parts
decreases-all_parts l = l.depth
