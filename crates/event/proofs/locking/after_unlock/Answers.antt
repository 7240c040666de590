-- What the search leaves of `event::locking::after_unlock`.
use Rattle.std.proofs.Common.{sym, ◌∙◌}
use Rattle.event.proofs.ActLaws.{freed, kept-owner}
use Rattle.event.proofs.locking.after_unlock.Goals as goal

pub returns-then-o-owner : goal.returns-then-o-owner
returns-then-o-owner c = freed c.args.t c.args.o (c.if-o-owner.true ∙ c.owner.ensures)

pub returns-else-o-owner : goal.returns-else-o-owner
returns-else-o-owner c = kept-owner c.args.t c.args.o (λ e. c.if-o-owner.false (e ∙ sym c.owner.ensures))
