-- What the search leaves of `search::whole::search_read`.
use mathlib.Core.Path.{sym}
use Rattle.std.proofs.lemmas.Result.{err_from_is_err_and}
use Rattle.search.proofs.WholeLaws.{searched-read, searched-unread}
use Rattle.search.proofs.whole.search_read.Goals as goal

pub returns-in_err-index-clause-result_value : goal.returns-in_err-index-clause-result_value
returns-in_err-index-clause-result_value c =
    let p = err_from_is_err_and c.from_residual.result c.from_residual.ensures.1 in
    rw (p.1, p.2) (searched-unread _ _ _ (sym c.in_err-index.ensures))

pub returns-clause-result_value : goal.returns-clause-result_value
returns-clause-result_value c = searched-read c.args.sheet.now c.in_ok-index.index
    (sym c.in_ok-index.ensures) _ _ c.search_slots.ensures.result_value
