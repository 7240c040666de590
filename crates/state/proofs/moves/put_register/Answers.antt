-- What the search leaves of `state::moves::put_register`.
use mathlib.Core.Path.{ap, ◌∙◌}
use Rattle.state.proofs.Slot.{decode-sound}
use Rattle.state.proofs.Written.{register-written}
use Rattle.state.specs.Access.{thread_at}
use Rattle.state.specs.Cells.{decode}
use Rattle.state.proofs.moves.put_register.Goals as goal

pub returns : goal.returns
returns c =
    let b = c.args.cells.now in
    let m = c.args.m in
    ap decode c.put_span.ensures
    ∙ register-written c.put_moved.new.slot (decode b) m (thread_at (decode b) m.thread).regs (decode-sound b).four
    c.requires.1.0.thread c.put_moved.ensures (c.put_moved.auto.slot ∙ c.requires.0) c.args.i c.args.v c.requires.1.1
