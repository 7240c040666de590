-- What the search leaves of `field::ranges::read_variables`.
use Rattle.std.specs.Prelude.{[]}
use Rattle.std.proofs.Common.{refl, arith}
use Rattle.rules.specs.Format.{read_variables}
use Rattle.field.proofs.outcome.Laws.{exits, fails, finds}
use Rattle.field.proofs.Loops.{turn-wrong, turn-done, turn-full, turn-bad, turn_more}
use Rattle.field.proofs.ranges.read_variables.Goals as goal

pub loop-end-init : goal.loop-end-init
unfolding read_variables
loop-end-init c = record { items = []; count = refl; top = omega arith; rest = refl }

pub returns-in_err-variable_here : goal.returns-in_err-variable_here
returns-in_err-variable_here c =
    exits c.from_residual.ensures.1 (fails (turn-wrong c.loop-end.invariant c.in_err-variable_here.ensures))

pub returns-in_err-need : goal.returns-in_err-need
returns-in_err-need c =
    exits c.from_residual-in_err-need.ensures.1
    (fails (turn-full c.loop-end.invariant c.in_ok-variable_here.ensures c.if-branch.true c.in_err-need.ensures))

pub returns-in_err-end : goal.returns-in_err-end
returns-in_err-end c =
    exits c.from_residual-in_err-end.ensures.1
    (fails (turn-bad c.loop-end.invariant c.in_ok-variable_here.ensures c.if-branch.true c.in_ok-need.ensures c.in_err-end.ensures))

pub loop-end-preserved : goal.loop-end-preserved
loop-end-preserved c =
    turn_more c.loop-end.invariant c.in_ok-variable_here.ensures c.if-branch.true c.in_ok-need.ensures c.in_ok-end.ensures

pub returns : goal.returns
returns c =
    finds (turn-done c.loop-end.invariant c.in_ok-variable_here.ensures c.if-branch.false) c.loop-end.invariant.count
