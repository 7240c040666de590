-- What the search leaves of `event::locking::may_take`.
use Rattle.event.proofs.ActLaws.{free-may, owned-may}
use Rattle.event.proofs.locking.may_take.Goals as goal

pub returns-then-o-eq0 : goal.returns-then-o-eq0
returns-then-o-eq0 c = free-may c.args.t c.args.o c.if-o-eq0.true

pub returns-else-o-eq0 : goal.returns-else-o-eq0
returns-else-o-eq0 c = rw c.owner.ensures (owned-may c.args.t c.args.o c.if-o-eq0.false)
