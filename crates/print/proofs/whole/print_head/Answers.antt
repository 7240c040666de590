-- What the search leaves of `print::whole::print_head`.
use Rattle.writing.proofs.Written.{then-writes, same_text}
use mathlib.Core.Path.{refl}
use Rattle.print.proofs.WholeLaws.{head-text}
use Rattle.print.proofs.whole.print_head.Goals as goal

pub returns : goal.returns
returns c =
    let i = c.args.index.now in
    same_text _ _ _ _ _ _ (head-text i _ _ _ _ refl refl refl refl)
    (then-writes _ _ _ _ _ _ _ _ c.put_named-first.ensures
    (then-writes _ _ _ _ _ _ _ _ c.put_named-second.ensures
    (then-writes _ _ _ _ _ _ _ _ c.put_named-third.ensures
    (then-writes _ _ _ _ _ _ _ _ c.put_named-fourth.ensures (then-writes _ _ _ _ _ _ _ _ c.put_named-fifth.ensures c.put.ensures)))))
