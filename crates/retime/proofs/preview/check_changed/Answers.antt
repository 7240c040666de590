-- What the search leaves of `retime::preview::check_changed`.
use Rattle.std.proofs.Common.{length, sym}
use Rattle.std.proofs.lemmas.Result.{err_from_is_err_and}
use Rattle.retime.proofs.Previewing.{preview-kept, preview-checked}
use Rattle.retime.proofs.preview.check_changed.Goals as goal

pub returns-in_err-_made : goal.returns-in_err-_made
returns-in_err-_made c =
    let a = c.args in
    let p = err_from_is_err_and c.from_residual-in_err-_made.result c.from_residual-in_err-_made.ensures.1 in
    rw (p.1, p.2) (preview-kept a.sheet.now (length a.copy.now) (length a.work.now) a.asked.thread a.asked.statement a.asked.least a.asked.greatest
    (sym c.in_ok-index.ensures) c.in-Some.ensures.lookup.0.1 c.copy_from_slice.ensures.after _ c.in_err-_made.ensures)

pub returns : goal.returns
returns c =
    let a = c.args in
    preview-checked a.sheet.now (length a.copy.now) (length a.work.now) a.asked.thread a.asked.statement a.asked.least a.asked.greatest
    (sym c.in_ok-index.ensures) c.in-Some.ensures.lookup.0.1 c.copy_from_slice.ensures.after _ c.in_ok-_made.ensures c.check.result
    c.check.ensures.follows_the_rules
