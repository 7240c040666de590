-- What the search leaves of `event::locking::lock`.
use Rattle.std.proofs.Common.{rules, ◌≡◌, ℕ, refl, sym, ap, ◌∙◌}
use Rattle.rules.specs.Lock.{may_take}
use Rattle.rules.specs.Search.{effect}
use Rattle.state.specs.Access.{thread_at, with_owner}
use Rattle.state.specs.Cells.{decode}
use Rattle.state.specs.Move.{moved_to}
use Rattle.state.specs.Shape.{owner_of}
use Rattle.event.proofs.ActLaws.{pushed-as, moved-pushed, owner-pushed, locks, waits-on}
use Rattle.event.proofs.locking.lock.Goals as goal

pub returns-then-may_take-clause-leaves : goal.returns-then-may_take-clause-leaves
unfolding effect
returns-then-may_take-clause-leaves c =
    let v = c.args.v in
    let s = decode c.args.cells.now in
    let m = c.onward-m.result in
    let o = c.owner-o.result in
    let put = c.push.ensures.pushed in
    let wrote : decode put.1 ≡ with_owner (moved_to s m (thread_at s m.thread).regs) c.args.l o = search (rules, put.2) in
    let may = sym (ap (λ (x : ℕ). may_take v.thread (owner_of x)) c.owner_of.ensures) ∙ sym c.may_take.ensures ∙ c.if-may_take.true in
    λ z h. (
      refl,
      pushed-as (locks z s v c.args.l h o c.owner-o.ensures may) (owner-pushed put.1 s v _ c.onward-m.ensures (put.3 z) c.args.l o wrote),
    )

pub returns-else-may_take-clause-leaves : goal.returns-else-may_take-clause-leaves
unfolding effect
returns-else-may_take-clause-leaves c =
    let v = c.args.v in
    let s = decode c.args.cells.now in
    let m = c.move_to-m.result in
    let put = c.push-else-may_take.ensures.pushed in
    let wrote : decode put.1 ≡ moved_to s m (thread_at s m.thread).regs = search (rules, put.2) in
    let waits = sym (ap (λ (x : ℕ). may_take v.thread (owner_of x)) c.owner_of.ensures) ∙ sym c.may_take.ensures ∙ c.if-may_take.false in
    λ z h. (
      refl,
      pushed-as (waits-on z s v c.args.l h c.at_of.result c.at_of.ensures waits)
          (moved-pushed put.1 s v c.at_of.result c.move_to-m.ensures (put.3 z) (λ t. (thread_at s t).regs) wrote),
    )
