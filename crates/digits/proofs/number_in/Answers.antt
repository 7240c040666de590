-- What the search leaves of `digits::number_in`.
use Rattle.std.proofs.Common.{arith}
use Rattle.digits.proofs.Laws.{one_more}
use Rattle.digits.proofs.number_in.Goals as goal

pub loop-d-preserved : goal.loop-d-preserved
loop-d-preserved c =
    let in_range = c.if-not-is_ascii_digit.ensures.cases in
    one_more _ _ _ c.loop-d.invariant c.loop-d-test.true (omega (arith, in_range)) (omega (arith, in_range)) _ c.with_digit-n.ensures
