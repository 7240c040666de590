-- What the search leaves of `writing::put_bytes`.
use Rattle.writing.proofs.Written.{none_written, next-writes}
use Rattle.writing.proofs.put_bytes.Goals as goal

pub loop-b-init : goal.loop-b-init
loop-b-init c =
    none_written _ _

pub loop-b-preserved : goal.loop-b-preserved
loop-b-preserved c =
    next-writes _ _ c.loop-b-test.true _ _ _ _ _ _ c.loop-b.invariant c.put-at.ensures
