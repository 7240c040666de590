-- What the search leaves of `event::act::load`.
use Rattle.std.proofs.Common.{suc, refl, sym, ap, ◌∙◌, get_or, set}
use Rattle.rules.specs.Search.{effect}
use Rattle.rules.specs.Interval.{Interval}
use Rattle.interval.specs.Shape.{interval_of}
use Rattle.expression.specs.Evaluation.{regs_of}
use Rattle.state.specs.Access.{thread_at}
use Rattle.state.specs.Cells.{decode}
use Rattle.state.proofs.Shape.{state-var}
use Rattle.event.specs.Act.{moved_by}
use Rattle.event.proofs.ActLaws.{pushed-as}
use Rattle.event.proofs.act.load.Goals as goal

pub returns-clause-leaves : goal.returns-clause-leaves
unfolding effect
returns-clause-leaves c =
    let v = c.args.v in
    let s = decode c.args.cells.now in
    let x = thread_at s v.thread in
    λ z h.
    let value = ap interval_of c.variable_of.ensures ∙ sym (state-var z s c.args.k h) in (
      refl,
      pushed-as (ap (λ (i : Interval). moved_by z s v (suc x.at) (set (regs_of (get_or z.regs v.thread 0) x.regs) c.args.r i)) value)
          (c.write_register.ensures.grows z),
    )
