-- What the search leaves of `writing::put_number`.
use Rattle.writing.proofs.Written.{then-writes}
use Rattle.writing.proofs.put_number.Goals as goal

pub returns : goal.returns
returns c =
    then-writes _ _ _ _ _ _ _ _ c.put_decimal-at.ensures c.put.ensures
