-- What the search leaves of `print::actions::put_both`.
use Rattle.writing.proofs.Written.{then-writes, same_text}
use mathlib.Core.List.{◌++◌, append_assoc}
use Rattle.rules.specs.Product.{decimal}
use Rattle.print.proofs.actions.put_both.Goals as goal

pub returns : goal.returns
returns c =
    let arg = c.args in
    same_text _ _ _ _ _ _ (append_assoc arg.first.now (decimal arg.n) (arg.second.now ++ decimal arg.m))
    (then-writes _ _ _ _ _ _ _ _ c.put_named-at.ensures c.put_named.ensures)
