-- What the search leaves of `convert::whole::line_behind`.
use Rattle.convert.proofs.Laying.{lays, part_length}
use Rattle.convert.proofs.whole.line_behind.Goals as goal

pub returns-clause-lays : goal.returns-clause-lays
returns-clause-lays c =
    let k = c.field_place-k in
    lays c.args.out.now _ _ k.result k.ensures.upper_bound (part_length k.result c.args.out.now) c.line_at.auto.out
    c.args.s.now c.args.from c.args.whole k.ensures.value _ c.line_at.result c.line_at.ensures.lines
