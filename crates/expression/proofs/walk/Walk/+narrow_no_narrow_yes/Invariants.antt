-- The depth that is left falls.
use Rattle.expression.proofs.walk.Walk.+narrow_no_narrow_yes.Given as goal

abbrev pub decreases-narrow_no : goal.decreases-narrow_no
decreases-narrow_no l = l.depth

abbrev pub decreases-narrow_yes : goal.decreases-narrow_yes
decreases-narrow_yes l = l.depth
