-- What the search leaves of `event::act::assign`.
use Rattle.std.proofs.Common.{rules, ◌≡◌, Ok, Err}
use Rattle.expression.proofs.whole.Laws.{value-of-tree}
use Rattle.state.specs.Access.{thread_at}
use Rattle.state.specs.Cells.{decode}
use Rattle.event.proofs.ActLaws.{assign-faults, assigns}
use Rattle.event.proofs.act.assign.Goals as goal

pub returns-in_err-value-clause-leaves : goal.returns-in_err-value-clause-leaves
returns-in_err-value-clause-leaves c =
    let v = c.args.v in
    let s = decode c.args.cells.now in
    let stack = c.args.stack.now in
    let q = c.in_err-value.field-0.0 in
    let refused : c.from_residual.result ≡ Err q = search rules in
    let made = rw c.registers_of-regs.ensures at c.in_err-value.ensures in
    λ z a n read. rw refused (assign-faults z stack.slots stack.work.now stack.height s v (thread_at s v.thread) c.args.r a q
    (value-of-tree _ c.args.end _ a (Err q) read made))

pub returns-clause-leaves : goal.returns-clause-leaves
returns-clause-leaves c =
    let v = c.args.v in
    let s = decode c.args.cells.now in
    let stack = c.args.stack.now in
    let i = c.in_ok-value.value in
    let made = rw c.registers_of-regs.ensures at c.in_ok-value.ensures in
    λ z a n read. assigns z stack.slots stack.work.now stack.height s v (thread_at s v.thread) c.args.r a
    _ _ i n (value-of-tree _ c.args.end _ a (Ok i) read made) (c.write_register.ensures.grows z)
