-- What the search leaves of `record::threads::thread_allows`.
use Rattle.std.proofs.Common.{◌∙◌, arith}
use Rattle.record.proofs.step.Laws.{allows-is}
use Rattle.record.proofs.threads.thread_allows.Goals as goal

pub returns : goal.returns
returns c =
    let a = c.args in
    let r = c.requires in
    c.allows.ensures ∙ allows-is a.sheet.now.bytes.now a.x.now (omega arith) r.0.planned.facts.threads_few a.u r.1 c.fetch.result c.fetch.ensures a.e.0
