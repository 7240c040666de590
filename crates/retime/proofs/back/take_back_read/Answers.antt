-- What the search leaves of `retime::back::take_back_read`.
use Rattle.std.proofs.Common.{sym}
use Rattle.std.proofs.lemmas.Result.{err_from_is_err_and}
use Rattle.rules.specs.Format.{read_sheet}
use Rattle.reader.proofs.Facts.{rejected}
use Rattle.retimed.proofs.Change.{sheet-unread}
use Rattle.retime.specs.Shape.{change_of}
use Rattle.retime.proofs.TakingBack.{back-given}
use Rattle.retime.proofs.back.take_back_read.Goals as goal

pub returns-in_err-index : goal.returns-in_err-index
returns-in_err-index c =
    let s = c.args.sheet.now in
    let d = change_of c.args.change in
    let p = err_from_is_err_and c.from_residual.result c.from_residual.ensures.1 in
    rw (p.1, p.2) (back-given s d _ (sheet-unread s d.thread d.statement _ (rejected (read_sheet s) (sym c.in_err-index.ensures))))
