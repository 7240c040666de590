-- The claims of `specs/Claims.antt`, proved.
use Rattle.text.specs.Claims.{ConvertClaims}
use Rattle.text.proofs.Worked.{rows_hold}
use Rattle.text.proofs.InTurn.{in_turn}
use Rattle.text.proofs.CannotGoOn.{place_inside, cannot_go_on}
use Rattle.text.proofs.CompletesText.{can_go_on}
use Rattle.text.proofs.Answer.{too_long_lem, unread, full, writes, writes_sheet}

pub convert-claims : ConvertClaims
convert-claims = record {
  rows_hold = rows_hold;
  writes_sheet = writes_sheet;
  in_turn = in_turn;
  place_inside = place_inside;
  cannot_go_on = cannot_go_on;
  can_go_on = can_go_on;
  too_long_lem = λ room text t r h l. too_long_lem room text t r h l;
  unread = λ room text t r n p h short e. unread room text t r h short n p e;
  full = λ room text t r g e h short reads l. full room text t r h short g e reads l;
  writes = λ room text t r g e h short reads l. writes room text t r h short g e reads l;
}
