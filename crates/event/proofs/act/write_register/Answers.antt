-- What the search leaves of `event::act::write_register`.
use Rattle.std.proofs.Common.{rules, ◌≡◌, get_or, set}
use Rattle.state.specs.Access.{thread_at}
use Rattle.state.specs.Cells.{decode}
use Rattle.state.specs.Move.{moved_to}
use Rattle.state.proofs.Shape.{regs-set}
use Rattle.event.proofs.ActLaws.{moved-pushed}
use Rattle.event.proofs.act.write_register.Goals as goal

pub returns-clause-grows : goal.returns-clause-grows
returns-clause-grows c =
    let s = decode c.args.cells.now in
    let m = c.onward-m.result in
    let r = c.args.r in
    let i = c.args.i in
    let put = c.push.ensures.pushed in
    let wrote : decode put.1 ≡ moved_to s m (set (thread_at s m.thread).regs r i) = search (rules, put.2) in
    λ z. rw (← regs-set (get_or z.regs c.args.v.thread 0) (thread_at s c.args.v.thread).regs r i)
    (moved-pushed put.1 s c.args.v _ c.onward-m.ensures (put.3 z) (λ t. set (thread_at s t).regs r i) wrote)
