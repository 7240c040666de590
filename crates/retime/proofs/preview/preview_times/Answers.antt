-- What the search leaves of `retime::preview::preview_times`.
use Rattle.std.proofs.Common.{◌≡◌, length, sym, ap, subst, ◌∙◌, rules}
use Rattle.rules.specs.Search.{Answer}
use Rattle.label.specs.Shape.{answer_of}
use Rattle.retimed.specs.Retime.{preview_answer}
use Rattle.retimed.specs.Claims.{HoldsRetimed}
use Rattle.retimed.proofs.Claims.{accepted-preview}
use Rattle.retime.proofs.preview.preview_times.Goals as goal

pub returns-clause-holds_retimed : goal.returns-clause-holds_retimed
returns-clause-holds_retimed c =
    let a = c.args in
    let q = a.asked in
    let same : answer_of c.unwrap_or_else-a.result ≡ preview_answer a.sheet.now (length a.copy.now) (length a.work.now) q.thread q.statement q.least q.greatest =
    search rules in
    λ z. subst (HoldsRetimed a.sheet.now q.thread q.statement q.least q.greatest) (sym same)
    (accepted-preview a.sheet.now (length a.copy.now) (length a.work.now) q.thread q.statement q.least q.greatest (sym (ap (λ (x : Answer). x.refusal) same) ∙ z))
