-- What the search leaves of `notation::closing::condition_only`.
use Rattle.scan.specs.Writing.{Builds}
use Rattle.notation.proofs.CloseLaws.{requires_no}
use Rattle.notation.proofs.closing.condition_only.Goals as goal

pub returns-else-x-clause-condition : goal.returns-else-x-clause-condition
unfolding Builds
returns-else-x-clause-condition c = λ out at after g m. requires_no m _ c.if-x.false c.spaces_end.ensures.reads
