-- What the search leaves of `event::locking::unlock`.
use Rattle.std.proofs.Common.{rules, ◌≡◌, ℕ, refl, ap, ◌∙◌}
use Rattle.rules.specs.Lock.{after_unlock}
use Rattle.rules.specs.Search.{effect}
use Rattle.state.specs.Access.{thread_at, with_owner}
use Rattle.state.specs.Cells.{decode}
use Rattle.state.specs.Move.{moved_to}
use Rattle.state.specs.Shape.{owner_of}
use Rattle.event.proofs.ActLaws.{pushed-as, owner-pushed, unlocks}
use Rattle.event.proofs.locking.unlock.Goals as goal

pub returns-clause-leaves : goal.returns-clause-leaves
unfolding effect
returns-clause-leaves c =
    let v = c.args.v in
    let s = decode c.args.cells.now in
    let m = c.onward-m.result in
    let o = c.after_unlock-o.result in
    let put = c.push.ensures.pushed in
    let wrote : decode put.1 ≡ with_owner (moved_to s m (thread_at s m.thread).regs) c.args.l o = search (rules, put.2) in
    let owner = c.after_unlock-o.ensures ∙ ap (λ (x : ℕ). after_unlock v.thread (owner_of x)) c.owner_of.ensures in
    λ z h. (refl, pushed-as (unlocks z s v c.args.l h o owner) (owner-pushed put.1 s v _ c.onward-m.ensures (put.3 z) c.args.l o wrote))
