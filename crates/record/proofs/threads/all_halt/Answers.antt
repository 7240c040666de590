-- What the search leaves of `record::threads::all_halt`.
use Rattle.std.specs.Prelude.{IsTrue}
use Rattle.std.proofs.Common.{ℕ, ◌<◌, Bool, not, rules}
use Rattle.std.proofs.iter.runs.Sources.{ranges}
use Rattle.rules.specs.Run.{live, finished}
use Rattle.record.specs.Replay.{state_of}
use Rattle.record.specs.Sheet.{program_of, sizes_in}
use Rattle.record.proofs.step.Laws.{all-is}
use Rattle.record.proofs.threads.all_halt.Goals as goal

pub returns : goal.returns
unfolding finished
returns c =
    let a = c.args in
    let n = a.sheet.now.plan.threads in
    let g = program_of a.sheet.now in
    let f : ℕ → Bool = λ u. not (live g (state_of (sizes_in a.sheet.now) a.x.now) u) in
    let forth : IsTrue c.all.result → (u : ℕ) → u < n → IsTrue (f u) = search (rules, ranges) in
    let back : ((u : ℕ) → u < n → IsTrue (f u)) → IsTrue c.all.result = search (rules, ranges) in
    all-is _ n f c.all.result c.requires.planned.threads forth back
