-- Definitions of the rule, and of the rules' format, that the search opens in a function's proof.
use Rattle.rules.specs.Format.{need, has_body, due, sized, and_then}
use Rattle.recorded.specs.Follow as F

unfoldable pub start_value : Unit {0}
unfolding F.start_value due sized need has_body and_then
start_value = tt

unfoldable pub follow_event : Unit {0}
unfolding F.follow_event F.at_field due sized need has_body and_then
follow_event = tt

unfoldable pub follow_record : Unit {0}
unfolding F.follow_record need and_then
follow_record = tt
