-- What the search leaves of `reader::places::read_statements`.
use Rattle.std.proofs.Common.{refl}
use Rattle.field.proofs.outcome.Laws.{exits}
use Rattle.field.proofs.Loops.{turn-wrong, turn-done, turn-full, turn-bad}
use Rattle.reader.proofs.places.Laws.{read-failed, read_found, statements-start, statements_more}
use Rattle.reader.proofs.places.read_statements.Goals as goal

pub loop-place-init : goal.loop-place-init
loop-place-init c = statements-start _ _ _ _

pub returns-in_err-statement_here : goal.returns-in_err-statement_here
returns-in_err-statement_here c =
    read-failed _ _ (exits c.from_residual.ensures.1 refl) (turn-wrong c.loop-place.invariant.turn c.in_err-statement_here.ensures)

pub returns-in_err-need : goal.returns-in_err-need
returns-in_err-need c =
    read-failed _ _ (exits c.from_residual-in_err-need.ensures.1 refl)
    (turn-full c.loop-place.invariant.turn c.in_ok-statement_here.ensures c.if-branch.true c.in_err-need.ensures)

pub returns-in_err-end : goal.returns-in_err-end
returns-in_err-end c =
    read-failed _ _ (exits c.from_residual-in_err-end.ensures.1 refl)
    (turn-bad c.loop-place.invariant.turn c.in_ok-statement_here.ensures c.if-branch.true c.in_ok-need.ensures c.in_err-end.ensures.end)

pub loop-place-preserved : goal.loop-place-preserved
loop-place-preserved c =
    statements_more c.loop-place.invariant c.in_ok-statement_here.ensures c.if-branch.true c.in_ok-need.ensures c.in_ok-end.ensures.end

pub returns : goal.returns
returns c =
    let i = c.loop-place.invariant in
    read_found _ _ (turn-done i.turn c.in_ok-statement_here.ensures c.if-branch.false) i.turn.count i.table i.turn.top
