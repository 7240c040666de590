-- What the search leaves of `print::actions::put_named`.
use Rattle.writing.proofs.Written.{then-writes}
use Rattle.print.proofs.actions.put_named.Goals as goal

pub returns : goal.returns
returns c =
    then-writes _ _ _ _ _ _ _ _ c.put_bytes-at.ensures c.put_decimal.ensures
