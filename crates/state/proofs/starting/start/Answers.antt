-- What the search leaves of `state::starting::start`.
use Rattle.std.proofs.Common.{rules, ℕ, ◌<◌, get_or, lit<, arith}
use Rattle.rules.specs.Constants.{most_threads}
use Rattle.reader.specs.Index.{no_entry}
use Rattle.state.specs.Access.{zero_thread}
use Rattle.state.specs.Cells.{Timed}
use Rattle.state.specs.Start.{ThreadStarts}
use Rattle.state.proofs.Initial.{asked-of-each, entries-fit, variables-fit, state-starts}
use Rattle.state.proofs.starting.start.Goals as goal

pub map-requires : goal.map-requires
map-requires c = (
  lit< tt,
  (lit< tt, (lit< tt, asked-of-each _ _ no_entry _ _ (λ q x v r. search rules) (λ k h. let fits = entries-fit c.args.sheet.now c.args.index c.requires k (omega arith) in search rules))),
)

pub ranges_at-requires : goal.ranges_at-requires
ranges_at-requires c = variables-fit c.args.sheet.now c.args.index c.requires

pub returns : goal.returns
returns c =
    let sheet = c.args.sheet.now in
    let index = c.args.index in
    let threads = c.map.result in
    let made : (t : ℕ) → t < most_threads → ThreadStarts sheet (get_or index.entries t no_entry) (get_or threads t zero_thread) × Timed (get_or threads t zero_thread) =
    (λ t h. let called = c.map.ensures.items.at t no_entry zero_thread h in search rules) in
    record {
      starts = λ g e reads. state-starts sheet index c.requires g e reads threads c.ranges_at.result c.map.ensures.items.long (λ t h. (made t h).0) c.ranges_at.ensures;
      timed = record { timed = λ t h. (made t h).1 };
      others = tt;
    }
