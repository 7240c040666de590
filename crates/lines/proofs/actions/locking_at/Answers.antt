-- What the search leaves of `lines::actions::locking_at`.
use Rattle.lines.proofs.NamedLaws.{locking-acts}
use Rattle.lines.proofs.actions.locking_at.Goals as goal

pub returns-clause-by_index : goal.returns-clause-by_index
returns-clause-by_index c =
    locking-acts _ _ _ _ _ _ _ _ _ _ _ c.put_small.ensures c.past.ensures c.in_ok-lock.ensures.reads c.in_ok-n.ensures.reads
