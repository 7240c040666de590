-- What the search leaves of `record::known::truth_of`.
use Rattle.std.proofs.Common.{◌≡◌, ap, ◌∙◌, Ok, Err, rules}
use Rattle.std.proofs.lemmas.Result.{err_from_is_err_and}
use Rattle.rules.specs.Refusal.{value}
use Rattle.record.specs.Known.{values_of}
use Rattle.record.proofs.known.Laws.{truth-faults, truth-is}
use Rattle.record.proofs.known.truth_of.Goals as goal

pub returns-in_err-branch : goal.returns-in_err-branch
returns-in_err-branch c =
    let arg = c.args in
    let checked : c.branch_on-branch.result.check ≡ Err c.in_err-branch.field-0.0 = search rules in
    let p = err_from_is_err_and c.from_residual.result c.from_residual.ensures.1 in
    λ a e. rw (p.1, p.2) (truth-faults (values_of arg.n arg.regs) _ (c.single_spans.ensures arg.n) arg.end arg.n _ a e c.branch_on-branch.ensures checked)

pub returns : goal.returns
returns c =
    let arg = c.args in
    let checked : c.branch_on-branch.result.check ≡ Ok tt = search rules in
    λ a e. ap value c.is_some.ensures ∙ truth-is (values_of arg.n arg.regs) _ (c.single_spans.ensures arg.n) arg.end arg.n _ a e c.branch_on-branch.ensures checked
