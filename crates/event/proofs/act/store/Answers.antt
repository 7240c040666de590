-- What the search leaves of `event::act::store`.
use Rattle.std.proofs.Common.{rules, ◌≡◌, suc, refl, sym, ap, ◌∙◌, get_or, set}
use Rattle.rules.specs.Search.{effect}
use Rattle.rules.specs.Interval.{Interval}
use Rattle.interval.specs.Shape.{interval_of}
use Rattle.state.specs.Access.{thread_at, with_var}
use Rattle.state.specs.Cells.{decode}
use Rattle.state.specs.Move.{moved_to}
use Rattle.state.specs.Shape.{state_of}
use Rattle.state.proofs.Shape.{regs-get}
use Rattle.event.specs.Act.{moved_with}
use Rattle.event.proofs.ActLaws.{pushed-as, variable-pushed}
use Rattle.event.proofs.act.store.Goals as goal

pub returns-clause-leaves : goal.returns-clause-leaves
unfolding effect
returns-clause-leaves c =
    let v = c.args.v in
    let s = decode c.args.cells.now in
    let m = c.onward-m.result in
    let i = c.register_of-i.result in
    let put = c.push.ensures.pushed in
    let wrote : decode put.1 ≡ with_var (moved_to s m (thread_at s m.thread).regs) c.args.k i = search (rules, put.2) in
    λ z h.
    let value = ap interval_of c.register_of-i.ensures ∙ sym (regs-get (get_or z.regs v.thread 0) (thread_at s v.thread).regs c.args.r h) in (
      refl,
      pushed-as (ap (λ (x : Interval). moved_with z s v (suc (thread_at s v.thread).at) (set (state_of z s).vars c.args.k x) (state_of z s).owners) value)
          (variable-pushed put.1 s v _ c.onward-m.ensures (put.3 z) c.args.k i wrote),
    )
