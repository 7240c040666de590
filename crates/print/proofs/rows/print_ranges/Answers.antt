-- What the search leaves of `print::rows::print_ranges`.
use mathlib.Core.Path.{sym, ◌∙◌}
use Rattle.print.proofs.RowLaws.{ranges-none, ranges-turn, ranges-done}
use Rattle.print.proofs.rows.print_ranges.Goals as goal

pub loop-i-init : goal.loop-i-init
loop-i-init c =
    ranges-none _ _ _ _ _

pub loop-i-preserved : goal.loop-i-preserved
loop-i-preserved c =
    let arg = c.args in
    c.loop-i.invariant ∙ ranges-turn arg.word.now arg.s.now arg.place arg.n c.loop-i.i _ _ _ _ c.loop-i-test.true c.print_range-at.ensures

pub returns : goal.returns
returns c =
    let arg = c.args in
    sym (c.loop-i.invariant ∙ ranges-done arg.word.now arg.s.now _ arg.n c.loop-i.i _ c.loop-i-test.false)
