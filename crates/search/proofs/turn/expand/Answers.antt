-- What the search leaves of `search::turn::expand`.
use mathlib.Core.Path.{◌∙◌}
use native.Mathlib.Omega.{arith}
use Rattle.search.proofs.ExpandLaws.{expand-start, expand-later}
use Rattle.search.proofs.turn.expand.Goals as goal

pub loop-t-init : goal.loop-t-init
loop-t-init c =
    let a = c.args in
    expand-start a.taken.now a.latest.0 a.bound.0 a.taken.now.plan.threads a.stack.now c.requires.0.threads

pub loop-t-preserved : goal.loop-t-preserved
loop-t-preserved c =
    let at = c.loop-t.invariant in
    let same = c.before-made.ensures.same in
    record {
      inside = omega arith;
      same = (same.0 ∙ at.same.0, same.1 ∙ at.same.1);
      made = c.before-made.ensures.makes c.args.stack.now at.same (expand-later at c.loop-t-test.true);
    }
