-- What the search leaves of `convert::convert_text`.
use lib.ListN.{length}
use Rattle.text.proofs.Claims.{convert-claims}
use Rattle.convert.proofs.convert_text.Goals as goal

pub returns-in-Ok-clause-converts_well : goal.returns-in-Ok-clause-converts_well
returns-in-Ok-clause-converts_well c = convert-claims.writes_sheet (length c.args.sheet.now) c.args.text.now
