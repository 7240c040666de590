-- What the search leaves of `lines::registers::registers_ahead`.
use Rattle.lines.proofs.CountLaws.{counted-over, counted-falls, counted-more}
use Rattle.lines.proofs.registers.registers_ahead.Goals as goal

pub loop-x-smaller : goal.loop-x-smaller
loop-x-smaller c =
    counted-falls _ _ _ _ c.loop-x.invariant _ c.range_line.ensures.result_value _ c.in-Ok.is c.in-Ok.ensures.onward.1

pub loop-x-preserved : goal.loop-x-preserved
loop-x-preserved c =
    counted-more _ _ _ _ c.loop-x.invariant _ c.range_line.ensures.result_value _ c.in-Ok.is c.in-Ok.ensures.onward.1
    c.saturating_add-n.ensures

pub returns : goal.returns
returns c = counted-over _ _ _ _ c.loop-x.invariant _ c.range_line.ensures.result_value c.in_default.is
