-- To name `pair_reading` on an `unfolding` line is to unfold each step of reading a pair, so that the code's tests decide the rule's.
use Rattle.rules.specs.Format as F
use Rattle.shelf.specs.Pairs as P

unfoldable pub pair_reading : Unit {0}
unfolding P.read_pair P.read_name P.pass_sheet F.due F.sized F.need F.and_then F.map_got F.has_head F.has_body
pair_reading = tt
