-- What the search leaves of `mend_main::put_change`.
use Rattle.std.proofs.Common.{arith}
use Rattle.mend_main.proofs.Laws.{change-ends}
use Rattle.mend_main.proofs.put_change.Goals as goal

pub returns-clause-upper_bound : goal.returns-clause-upper_bound
returns-clause-upper_bound c =
    change-ends c.args.kind c.args.place (omega arith) (omega arith) _ _ _ _ c.put_line.ensures.writes
