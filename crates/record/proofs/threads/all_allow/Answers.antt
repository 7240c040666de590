-- What the search leaves of `record::threads::all_allow`.
use Rattle.std.specs.Prelude.{IsTrue}
use Rattle.std.proofs.Common.{ℕ, ◌<◌, rules}
use Rattle.std.proofs.iter.runs.Sources.{ranges}
use Rattle.record.specs.Replay.{state_of}
use Rattle.record.specs.Sheet.{program_of, sizes_in}
use Rattle.record.specs.Step.{allows_at}
use Rattle.record.proofs.step.Laws.{all-is}
use Rattle.record.proofs.threads.all_allow.Goals as goal

pub returns : goal.returns
returns c =
    let a = c.args in
    let n = a.sheet.now.plan.threads in
    let f = allows_at (program_of a.sheet.now) (state_of (sizes_in a.sheet.now) a.x.now) a.e.0 in
    let forth : IsTrue c.all.result → (u : ℕ) → u < n → IsTrue (f u) = search (rules, ranges) in
    let back : ((u : ℕ) → u < n → IsTrue (f u)) → IsTrue c.all.result = search (rules, ranges) in
    all-is _ n f c.all.result c.requires.planned.threads forth back
