-- What the search leaves of `state::cells::put_spans`.
use Rattle.std.proofs.Common.{rules, ◌≡◌, ◌∙◌, arith}
use Rattle.state.specs.Cells.{span_cells_from, spans_cells}
use Rattle.state.proofs.Writing.{spans-put, drop_all}
use Rattle.state.proofs.cells.put_spans.Goals as goal

pub loop-i-init : goal.loop-i-init
unfolding span_cells_from
loop-i-init c = search rules

pub loop-i-preserved : goal.loop-i-preserved
loop-i-preserved c = c.put_span.ensures ∙ spans-put c.args.v c.loop-i.i _ _ c.loop-i.invariant (omega arith)

pub returns : goal.returns
unfolding spans_cells
returns c =
    let all : c.loop-i.i ≡ 8 = omega arith in
    rw all at c.loop-i.invariant ∙ drop_all _ c.args.cells.now 16 (omega arith)
