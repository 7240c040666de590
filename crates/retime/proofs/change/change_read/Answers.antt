-- What the search leaves of `retime::change::change_read`.
use Rattle.std.proofs.Common.{sym}
use Rattle.std.proofs.lemmas.Result.{err_from_is_err_and}
use Rattle.rules.specs.Format.{read_sheet}
use Rattle.reader.proofs.Facts.{rejected}
use Rattle.retimed.proofs.Change.{sheet-unread}
use Rattle.retime.proofs.Changing.{given-refused}
use Rattle.retime.proofs.change.change_read.Goals as goal

pub returns-in_err-index : goal.returns-in_err-index
returns-in_err-index c =
    let a = c.args in
    let p = err_from_is_err_and c.from_residual.result c.from_residual.ensures.1 in
    rw (p.1, p.2) (given-refused a.sheet.now a.asked.thread a.asked.statement a.asked.least a.asked.greatest _
    (sheet-unread a.sheet.now a.asked.thread a.asked.statement _ (rejected (read_sheet a.sheet.now) (sym c.in_err-index.ensures))))
