-- What the search leaves of `lines::actions::jump_at`.
use borrow.Author.Tests.{lt-ltb, le-ltb}
use Rattle.scan.specs.Writing.{Builds}
use Rattle.lines.proofs.ActionLaws.{and-of, and-not}
use Rattle.lines.proofs.StatementLaws.{jump-acts}
use Rattle.lines.proofs.actions.jump_at.Goals as goal

pub returns-then-n-lt256-clause-acts : goal.returns-then-n-lt256-clause-acts
unfolding Builds
returns-then-n-lt256-clause-acts c =
    jump-acts _ _ _ _ _ _ _ _ _ _ c.requires.2 c.past.ensures c.put_small.ensures
    (and-of (lt-ltb _ _ c.if-n-lt256.true)) _ _ _ c.in_ok-test.ensures.reads
    c.in_ok-x.ensures.builds c.in_ok-target.ensures.reads c.in_ok-n.ensures.reads

pub returns-else-n-lt256-clause-acts : goal.returns-else-n-lt256-clause-acts
unfolding Builds
returns-else-n-lt256-clause-acts c =
    jump-acts _ _ _ _ _ _ _ _ _ _ c.requires.2 c.past.ensures c.put_small.ensures
    (and-not _ (le-ltb _ _ c.if-n-lt256.false)) _ _ _ c.in_ok-test.ensures.reads
    c.in_ok-x.ensures.builds c.in_ok-target.ensures.reads c.in_ok-n.ensures.reads
