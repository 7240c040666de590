-- What the search leaves of `print::rows::print_times`.
use Rattle.writing.proofs.Written.{then-writes, same_text}
use Rattle.print.proofs.StatementLaws.{times_none, times-some}
use Rattle.print.proofs.rows.print_times.Goals as goal

pub returns-then-halts : goal.returns-then-halts
returns-then-halts c =
    times_none _ _ _ _ _ c.if-halts.true

pub returns : goal.returns
returns c =
    let arg = c.args in
    same_text _ _ _ _ _ _ (times-some arg.halts arg.least arg.greatest c.if-halts.false)
    (then-writes _ _ _ _ _ _ _ _ c.put_decimal-first.ensures (then-writes _ _ _ _ _ _ _ _ c.put_named-second.ensures c.put.ensures))
