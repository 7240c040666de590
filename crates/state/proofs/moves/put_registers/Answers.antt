-- What the search leaves of `state::moves::put_registers`.
use mathlib.Core.Path.{ap, ◌∙◌}
use Rattle.state.proofs.Slot.{decode-sound}
use Rattle.state.proofs.Written.{registers-written}
use Rattle.state.specs.Access.{thread_at}
use Rattle.state.specs.Cells.{decode}
use borrow.Rule.Slice.PartMut.{put_mid}
use mathlib.Core.List.{List}
use lib.IntN.{ℤ}
use Prim.Native.Nat.{◌+◌, ◌*◌, ◌-◌}
use borrow.Author.Rules.{rules}
use Rattle.state.proofs.moves.put_registers.Goals as goal

pub returns : goal.returns
returns c =
    let b = c.args.cells.now in
    let m = c.args.m in
    let p = m.thread * 19 + 3 in
    let slot = c.put_moved.new.slot in
    ap (λ (l : List ℤ). decode (put_mid p (p + 16 - p) slot l)) c.put_spans.ensures
    ∙ registers-written slot (decode b) m (thread_at (decode b) m.thread).regs (decode-sound b).four
    c.requires.1.thread c.put_moved.ensures (c.put_moved.auto.slot ∙ c.requires.0) c.args.regs (search rules)
