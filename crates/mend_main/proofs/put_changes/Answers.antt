-- What the search leaves of `mend_main::put_changes`.
use Rattle.std.proofs.Common.{arith}
use Rattle.mend_main.proofs.Laws.{rest-next, rest-none, lines-put}
use Rattle.mend_main.proofs.put_changes.Goals as goal

pub loop-kind-preserved : goal.loop-kind-preserved
loop-kind-preserved c =
    let inv = c.loop-kind.invariant in
    let put = c.put_change-at.ensures in (
      rest-next _ _ _ _ _ _ _ _ c.loop-kind-test.true inv.0 put.writes,
      λ h. let b = inv.1 h in let d = put.upper_bound (omega arith) in omega arith,
    )

pub returns-clause-writes : goal.returns-clause-writes
returns-clause-writes c =
    lines-put c.args.changes.now _ c.as_chunks.ensures.front _ _ _ _ (rest-none _ _ _ _ _ _ c.loop-kind-test.false c.loop-kind.invariant.0)
