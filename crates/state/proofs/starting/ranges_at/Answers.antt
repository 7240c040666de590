-- What the search leaves of `state::starting::ranges_at`.
use Rattle.std.proofs.Common.{arith, refl, length-set}
use Rattle.state.proofs.Initial.{range-put, no-ranges}
use Rattle.state.proofs.starting.ranges_at.Goals as goal

pub loop-i-init : goal.loop-i-init
loop-i-init c = record { eight = refl; read = no-ranges _ _ _ }

pub loop-i-preserved : goal.loop-i-preserved
loop-i-preserved c = record {
  eight = simp length-set (c.loop-i.invariant.eight);
  read = range-put _ _ _ _ _ (omega (arith, c.loop-i.invariant.eight)) c.loop-i.invariant.read c.range_at.ensures;
}
