-- What the search leaves of `state::moves::put_moved`.
use Rattle.std.proofs.Common.{rules, ap, ◌∙◌}
use Rattle.state.specs.Cells.{decode}
use Rattle.state.proofs.Written.{move-written}
use Rattle.state.proofs.moves.put_moved.Goals as goal

pub returns : goal.returns
returns c =
    ap decode (rw c.copy_from_slice.ensures.after at c.put_stand.ensures)
    ∙ move-written c.args.cells.now c.args.m c.told-cells c.requires.1.thread (search rules)
