-- What the search leaves of `state::parts::take_slot`.
use Rattle.std.proofs.Common.{rules, ◌≡◌, ap, arith}
use Rattle.state.specs.Cells.{slot_of, decode}
use Rattle.state.proofs.Ownership.{each-small}
use Rattle.state.proofs.Written.{small-timed}
use Rattle.state.proofs.parts.take_slot.Goals as goal

pub returns : goal.returns
returns c =
    let cells = c.unwrap.result in
    let held = c.unwrap.type_inv in
    let same : cells ≡ slot_of c.args.work.now c.args.slot = search rules in
    (ap decode same, small-timed cells (λ k h. each-small cells held.0 held.1.1 k (omega (arith, held.1.0.1))))
