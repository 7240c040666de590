-- What the search leaves of `record::known::single_spans`.
use Rattle.std.proofs.Common.{◌≡◌, map, ap, ◌∙◌, arith, rules}
use Rattle.expression.specs.Evaluation.{regs_of}
use Rattle.record.specs.Replay.{zero_val}
use Rattle.record.proofs.known.Laws.{made-of-each, span_of, spans-are}
use Rattle.record.proofs.known.single_spans.Goals as goal

pub returns : goal.returns
returns c =
    let a = c.args in
    let made : c.map.result ≡ map span_of a.regs =
    made-of-each span_of a.regs c.map.result zero_val (omega arith)
    (λ i e h. let (p, q, k) = c.map.ensures.items.at i zero_val e (omega arith) in search rules) in
    λ n. ap (regs_of n) made ∙ spans-are n a.regs
