-- What the search leaves of `event::branching::branch`.
use Rattle.std.proofs.Common.{rules, ◌≡◌, Ok, Err, suc, ap, sym, ◌∙◌}
use Rattle.expression.specs.Parts.{check_of}
use Rattle.expression.specs.Comparison.{narrowed_of}
use Rattle.expression.proofs.whole.Laws.{check-of-tree, yes-of-tree, no-of-tree}
use Rattle.state.specs.Access.{thread_at}
use Rattle.state.specs.Cells.{decode}
use Rattle.event.proofs.ActLaws.{branch-faults, branches-on}
use Rattle.event.proofs.branching.branch.Goals as goal

pub returns-in_err-check-clause-leaves : goal.returns-in_err-check-clause-leaves
returns-in_err-check-clause-leaves c =
    let v = c.args.v in
    let s = decode c.args.cells.now in
    let stack = c.args.stack.now in
    let b = c.branch_on-check.result in
    let q = c.in_err-check.field-0.0 in
    let refused : c.from_residual.result ≡ Err q = search rules in
    let checked : b.check ≡ Err q = search rules in
    let made = rw c.registers_of-regs.ensures at c.branch_on-check.ensures in
    λ z a n read. rw refused (branch-faults z stack.slots stack.work.now stack.height s v (thread_at s v.thread) c.args.target a q
    (sym (ap check_of checked) ∙ check-of-tree _ c.args.end v.registers _ a b read made))

pub returns-clause-leaves : goal.returns-clause-leaves
returns-clause-leaves c =
    let v = c.args.v in
    let s = decode c.args.cells.now in
    let stack = c.args.stack.now in
    let b = c.branch_on-check.result in
    let checked : b.check ≡ Ok tt = search rules in
    let made = rw c.registers_of-regs.ensures at c.branch_on-check.ensures in
    λ z a n read. branches-on z stack.slots stack.work.now stack.height s v (thread_at s v.thread) c.args.target a
    _ _ _ _ c.next.result (λ k. narrowed_of k b.yes) (λ k. narrowed_of k b.no) n
    (c.next.ensures ∙ ap suc c.at_of.ensures) (sym (ap check_of checked) ∙ check-of-tree _ c.args.end v.registers _ a b read made)
    (yes-of-tree _ c.args.end v.registers _ a b read made) (no-of-tree _ c.args.end v.registers _ a b read made)
    (c.way.ensures.grows z) (rw c.way.ensures.same.1 at (c.way-2.ensures.grows z))
