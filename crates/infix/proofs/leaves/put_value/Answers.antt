-- What the search leaves of `infix::leaves::put_value`.
use Rattle.std.proofs.Common.{arith}
use Rattle.writing.proofs.Written.{then-writes, same_text}
use Rattle.infix.proofs.LeafLaws.{value-small, value-large}
use Rattle.infix.proofs.leaves.put_value.Goals as goal

pub returns-then-n-lt-SIGN : goal.returns-then-n-lt-SIGN
returns-then-n-lt-SIGN c =
    same_text _ _ _ _ _ _ (value-small _ c.if-n-lt-SIGN.true) c.put_decimal.ensures

pub returns-else-n-lt-SIGN : goal.returns-else-n-lt-SIGN
returns-else-n-lt-SIGN c =
    same_text _ _ _ _ _ _ (value-large _ _ c.if-n-lt-SIGN.false (omega arith)) (then-writes _ _ _ _ _ _ _ _ c.put-at.ensures c.put_decimal-else-n-lt-SIGN.ensures)
