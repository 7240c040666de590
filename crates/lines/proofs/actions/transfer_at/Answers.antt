-- What the search leaves of `lines::actions::transfer_at`.
use borrow.Author.Tests.{lt-ltb, le-ltb}
use Rattle.lines.proofs.ActionLaws.{and-of, and-not}
use Rattle.lines.proofs.NamedLaws.{transfer-acts}
use Rattle.lines.proofs.actions.transfer_at.Goals as goal

pub returns-then-n-lt256-clause-by_index : goal.returns-then-n-lt256-clause-by_index
returns-then-n-lt256-clause-by_index c =
    transfer-acts _ _ _ _ _ _ _ _ c.put_small.ensures c.put_small-2.ensures c.past.ensures _ _ _ _ _ _ _ _ _ c.in_ok-first.ensures.reads
    c.in_ok-n.ensures.reads
    c.in_ok-second.ensures.reads c.in_ok-v.ensures.reads (and-of (lt-ltb _ _ c.if-n-lt256.true))

pub returns-else-n-lt256-clause-by_index : goal.returns-else-n-lt256-clause-by_index
returns-else-n-lt256-clause-by_index c =
    transfer-acts _ _ _ _ _ _ _ _ c.put_small.ensures c.put_small-2.ensures c.past.ensures _ _ _ _ _ _ _ _ _ c.in_ok-first.ensures.reads
    c.in_ok-n.ensures.reads
    c.in_ok-second.ensures.reads c.in_ok-v.ensures.reads (and-not _ (le-ltb _ _ c.if-n-lt256.false))
