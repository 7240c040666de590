-- What the search leaves of `event::act::skip`.
use Rattle.std.proofs.Common.{rules, ◌≡◌}
use Rattle.state.specs.Access.{thread_at}
use Rattle.state.specs.Cells.{decode}
use Rattle.state.specs.Move.{moved_to}
use Rattle.event.proofs.ActLaws.{moved-pushed}
use Rattle.event.proofs.act.skip.Goals as goal

pub returns-clause-grows : goal.returns-clause-grows
returns-clause-grows c =
    let s = decode c.args.cells.now in
    let m = c.onward-m.result in
    let put = c.push.ensures.pushed in
    let wrote : decode put.1 ≡ moved_to s m (thread_at s m.thread).regs = search (rules, put.2) in
    λ z. moved-pushed put.1 s c.args.v _ c.onward-m.ensures (put.3 z) (λ t. (thread_at s t).regs) wrote
