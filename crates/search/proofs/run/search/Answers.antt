-- What the search leaves of `search::run::search`.
use mathlib.Core.Path.{refl, sym, ◌∙◌}
use mathlib.Core.List.{[], ◌∷◌}
use native.Mathlib.Omega.{arith}
use Rattle.rules.specs.Search as S
use Rattle.rules.specs.Search.{unseen}
use Rattle.reader.specs.Facts.{program_in}
use Rattle.state.specs.Shape.{sizes_of, state_of}
use Rattle.state.specs.Cells.{decode}
use Rattle.state.proofs.Ownership.{sound-of}
use Rattle.search.specs.Run.{window_of}
use Rattle.search.proofs.RunLaws.{Turning, goes-start, goes-out, goes-short, goes-refused, goes-full, goes-ended, goes_on, same-stack, same-size}
use Rattle.search.proofs.run.search.Goals as goal
use Rattle.search.proofs.run.search.Goals.{After-turn}

pub loop-stack-init : goal.loop-stack-init
loop-stack-init c = goes-start _ _ c.args.stack.now _ c.args.first
    (sound-of c.args.first c.well_formed.1.1.1.0.0 c.well_formed.1.1.1.0.1.1) (refl, refl) c.store.ensures refl

pub returns-then-steps-budget-clause-result_value : goal.returns-then-steps-budget-clause-result_value
returns-then-steps-budget-clause-result_value c =
    let fault = rw c.from.ensures at c.refused.ensures in
    fault ∙ sym (goes-short c.loop-stack.invariant c.loop-stack-test.true c.if-steps-budget.true)

-- the turn of the state that was taken from the stack
turning : (c : After-turn) → Turning (S.search c.args.budget (program_in c.args.sheet.now) c.args.stack.now.slots
    (state_of (sizes_of (program_in c.args.sheet.now)) c.args.first ∷ []) unseen 0)
    (program_in c.args.sheet.now) c.args.budget c.args.stack.now
    c.loop-stack.stack c.loop-stack.steps (window_of c.loop-stack.found) c.turn.new.stack c.turn.result
turning c =
    let most = c.loop-stack.invariant.in_budget in
    let other = c.if-steps-budget.false in
    record {
      at = c.loop-stack.invariant;
      some = c.loop-stack-test.true;
      more = omega arith;
      state = decode c.top-cells.result;
      top = c.top-cells.ensures.0;
      same = c.turn.ensures.same;
      made = c.turn.ensures.turns;
    }

pub returns-in-Err-clause-result_value : goal.returns-in-Err-clause-result_value
returns-in-Err-clause-result_value c =
    let t = turning (goal.at.returns-in-Err-clause-result_value c).After-turn in
    c.refused-in-Err.ensures ∙ sym (goes-refused (rw c.in-Err.is at t))

pub loop-stack-preserved-in-Ok-Some : goal.loop-stack-preserved-in-Ok-Some
loop-stack-preserved-in-Ok-Some c =
    let t = turning (goal.at.loop-stack-preserved-in-Ok-Some c).After-turn in
    goes-ended (rw (c.in-Ok-Some.is, c.in-Ok-Some.field-0-is) at t) c.widened-found.ensures

pub returns-in-Ok-None-clause-result_value : goal.returns-in-Ok-None-clause-result_value
returns-in-Ok-None-clause-result_value c =
    let t = turning (goal.at.returns-in-Ok-None-clause-result_value c).After-turn in
    let fault = rw c.from-in-Ok-None.ensures at c.refused-in-Ok-None.ensures in
    fault ∙ sym (goes-full (rw (c.in-Ok-None.is, c.in-Ok-None.field-0-is) at t) c.if-stack.true)

pub loop-stack-preserved : goal.loop-stack-preserved
loop-stack-preserved c =
    let t = turning (goal.at.loop-stack-preserved c).After-turn in
    goes_on (rw (c.in-Ok-None.is, c.in-Ok-None.field-0-is) at t) c.if-stack.false

pub returns-clause-result_value : goal.returns-clause-result_value
returns-clause-result_value c = sym (goes-out c.loop-stack.invariant (omega (arith, c.loop-stack-test.false)))

-- ---- the stack

pub returns-in-Err-clause-same : goal.returns-in-Err-clause-same
returns-in-Err-clause-same c = same-stack (turning (goal.at.returns-in-Err-clause-same c).After-turn)

pub returns-in-Err-clause-work_len_unchanged : goal.returns-in-Err-clause-work_len_unchanged
returns-in-Err-clause-work_len_unchanged c = same-size (turning (goal.at.returns-in-Err-clause-work_len_unchanged c).After-turn)

pub returns-in-Ok-None-clause-same : goal.returns-in-Ok-None-clause-same
returns-in-Ok-None-clause-same c = same-stack (turning (goal.at.returns-in-Ok-None-clause-same c).After-turn)

pub returns-in-Ok-None-clause-work_len_unchanged : goal.returns-in-Ok-None-clause-work_len_unchanged
returns-in-Ok-None-clause-work_len_unchanged c = same-size (turning (goal.at.returns-in-Ok-None-clause-work_len_unchanged c).After-turn)
