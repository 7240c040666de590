-- What the search leaves of `event::branching::way`.
use Rattle.std.proofs.Common.{rules, ◌≡◌}
use Rattle.rules.specs.Search.{unless_empty}
use Rattle.state.specs.Cells.{decode}
use Rattle.state.specs.Move.{moved_to}
use Rattle.event.proofs.PushLaws.{none-pushed}
use Rattle.event.proofs.ActLaws.{moved-pushed}
use Rattle.event.proofs.branching.way.Goals as goal

pub returns-in-Some-clause-grows : goal.returns-in-Some-clause-grows
unfolding unless_empty
returns-in-Some-clause-grows c =
    let s = decode c.args.cells.now in
    let regs = c.in-Some.regs in
    let put = c.push.ensures.pushed in
    let wrote : decode put.1 ≡ moved_to s c.move_to-m.result regs = search (rules, put.2) in
    λ z. rw c.in-Some.is (moved-pushed put.1 s c.args.v c.args.at c.move_to-m.ensures (put.3 z) (λ t. regs) wrote)

pub returns-in_default-clause-grows : goal.returns-in_default-clause-grows
unfolding unless_empty
returns-in_default-clause-grows c = λ z. rw c.in_default.is (none-pushed c.args.stack.now.high)
