-- What the search leaves of `record::known::value_of`.
use Rattle.std.proofs.lemmas.Result.{err_from_is_err_and}
use Rattle.record.specs.Known.{values_of}
use Rattle.record.proofs.known.Laws.{value-told}
use Rattle.record.proofs.known.value_of.Goals as goal

pub returns-in_err-span : goal.returns-in_err-span
returns-in_err-span c =
    let arg = c.args in
    let p = err_from_is_err_and c.from_residual.result c.from_residual.ensures.1 in
    λ a e. rw (p.1, p.2) (value-told (values_of arg.n arg.regs) _ (c.single_spans.ensures arg.n) arg.end _ a e c.in_err-span.ensures)

pub returns : goal.returns
returns c =
    let arg = c.args in
    λ a e. value-told (values_of arg.n arg.regs) _ (c.single_spans.ensures arg.n) arg.end _ a e c.in_ok-span.ensures
