-- What the search leaves of `state::parts::clock_of`.
use mathlib.Core.Path.{ap, ◌∙◌}
use Prim.Native.Nat.{◌+◌, ◌*◌}
use Rattle.state.specs.Cells.{time_of, cell_at}
use Rattle.state.proofs.Writing.{again}
use Rattle.state.proofs.Slot.{clock_is}
use borrow.Author.Rules.{rules}
use Rattle.state.proofs.parts.clock_of.Goals as goal

pub returns : goal.returns
returns c =
    let b = c.args.cells.now in
    let p = c.args.t * 19 in
    let low = c.cell_time.ensures.0 ∙ ap time_of (again (cell_at b (p + 1)) (search rules)) in
    let high = c.cell_time-2.ensures.0 ∙ ap time_of (again (cell_at b (p + 2)) (search rules)) in (
      (λ i. record { low = record { 0 = low i }; high = record { 0 = high i } }) ∙ clock_is b c.args.t c.requires,
      (c.cell_time.ensures.1, c.cell_time-2.ensures.1),
    )
