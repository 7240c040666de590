-- What the search leaves of `convert::head::head_at`.
use Rattle.scan.proofs.Readings.{exits}
use Rattle.convert.specs.Head.{Heads}
use Rattle.convert.proofs.HeadLaws.{headed}
use Rattle.convert.proofs.HeadReading.{limit-stops, budget-stops, label-stops, three-read}
use Rattle.convert.proofs.head.head_at.Goals as goal

pub returns-in_err-limit-clause-heads : goal.returns-in_err-limit-clause-heads
returns-in_err-limit-clause-heads c =
    exits (Heads _ _ _) c.from_residual.ensures.1 (limit-stops c.args.s.now c.in_err-limit.ensures.result_value)

pub returns-in_err-budget-clause-heads : goal.returns-in_err-budget-clause-heads
returns-in_err-budget-clause-heads c =
    exits (Heads _ _ _) c.from_residual-in_err-budget.ensures.1
    (budget-stops c.args.s.now _ c.in_ok-limit.budget_at c.in_ok-limit.ensures.onward.1 c.in_ok-limit.ensures.result_value
    c.in_err-budget.ensures.result_value)

pub returns-in_err-label-clause-heads : goal.returns-in_err-label-clause-heads
returns-in_err-label-clause-heads c =
    exits (Heads _ _ _) c.from_residual-in_err-label.ensures.1
    (label-stops c.args.s.now _ c.in_ok-limit.budget_at c.in_ok-limit.ensures.onward.1 c.in_ok-limit.ensures.result_value
    _ c.in_ok-budget.label_at c.in_ok-budget.ensures.onward.1 c.in_ok-budget.ensures.result_value c.in_err-label.ensures.result_value)

pub returns-clause-heads : goal.returns-clause-heads
returns-clause-heads c =
    headed c.args.s.now c.args.out.now _ _ _ _ _ _ _ _
    (three-read c.args.s.now _ c.in_ok-limit.budget_at c.in_ok-limit.ensures.onward.1 c.in_ok-limit.ensures.result_value
    _ c.in_ok-budget.label_at c.in_ok-budget.ensures.onward.1 c.in_ok-budget.ensures.result_value c.in_ok-label.label
    c.in_ok-label.ensures.result_value)
    c.fault_at.ensures c.put_fitting.ensures.value c.put_fitting.ensures.out_after
