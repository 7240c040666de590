-- What the search leaves of `lines::actions::assignment_at`.
use borrow.Author.Tests.{lt-ltb, le-ltb}
use Rattle.scan.specs.Writing.{Builds}
use Rattle.lines.proofs.ActionLaws.{and-of, and-not}
use Rattle.lines.proofs.StatementLaws.{assignment-acts}
use Rattle.lines.proofs.actions.assignment_at.Goals as goal

pub returns-then-n-lt256-clause-acts : goal.returns-then-n-lt256-clause-acts
unfolding Builds
returns-then-n-lt256-clause-acts c =
    assignment-acts _ _ _ _ _ _ _ _ _ _ c.requires.2 c.past.ensures c.put_small.ensures
    (and-of (lt-ltb _ _ c.if-n-lt256.true)) _ _ c.in_ok-n.ensures.reads
    c.in_ok-right.ensures.reads c.in_ok-x.ensures.builds

pub returns-else-n-lt256-clause-acts : goal.returns-else-n-lt256-clause-acts
unfolding Builds
returns-else-n-lt256-clause-acts c =
    assignment-acts _ _ _ _ _ _ _ _ _ _ c.requires.2 c.past.ensures c.put_small.ensures
    (and-not _ (le-ltb _ _ c.if-n-lt256.false)) _ _ c.in_ok-n.ensures.reads
    c.in_ok-right.ensures.reads c.in_ok-x.ensures.builds
