-- What the search leaves of `state::parts::registers_of`.
use Rattle.std.proofs.Common.{rules, ◌∙◌, ◌+◌, ◌*◌}
use Rattle.interval.specs.Shape.{zero_span}
use Rattle.state.proofs.Slot.{spans-are, registers-are}
use Rattle.state.proofs.parts.registers_of.Goals as goal

pub returns : goal.returns
returns c =
    let b = c.args.cells.now in
    let t = c.args.t in
    spans-are b (t * 19 + 3) c.from_fn.result c.from_fn.ensures.items.long
    (λ i h. let called = c.from_fn.ensures.items.at i zero_span h in search rules)
    ∙ registers-are b t c.requires
