-- What the search leaves of `print::rows::print_range`.
use Rattle.writing.proofs.Written.{then-writes, same_text}
use Rattle.print.proofs.RowLaws.{range-whole}
use Rattle.print.proofs.rows.print_range.Goals as goal

pub returns : goal.returns
returns c =
    let arg = c.args in
    same_text _ _ _ _ _ _ (range-whole arg.word.now arg.s.now arg.p _ _ c.num32_at-low.ensures c.num32_at-high.ensures)
    (then-writes _ _ _ _ _ _ _ _ c.put_bytes-first.ensures
    (then-writes _ _ _ _ _ _ _ _ c.put_value-second.ensures
    (then-writes _ _ _ _ _ _ _ _ c.put_bytes-third.ensures (then-writes _ _ _ _ _ _ _ _ c.put_value-fourth.ensures c.put.ensures))))
