-- What the search leaves of `event::stack::Stack::push`.
use Rattle.std.proofs.Common.{rules, refl}
use Rattle.event.proofs.PushLaws.{slot_pushed}
use Rattle.event.proofs.stack.Stack.push.Goals as goal

pub returns-clause-pushed : goal.returns-clause-pushed
returns-clause-pushed g c =
    let stack = c.args.self.now in (
      _,
      c.put.new.arg2,
      record { shown = _; shows = refl; left = _; met = c.put.ensures; leaves = refl },
      λ z. slot_pushed stack.work.now c.put.new.arg2 stack.height c.min-from.result c.min-self.result _ (search rules)
          stack.high stack.room c.min-from.ensures c.min-self.ensures refl,
    )
