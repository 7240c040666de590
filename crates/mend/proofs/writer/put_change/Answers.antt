-- What the search leaves of `mend::writer::put_change`.
use mathlib.Core.List.{[], ◌∷◌}
use Rattle.writing.proofs.Written.{then-writes}
use Rattle.mend.proofs.writer.put_change.Goals as goal

pub returns : goal.returns
returns c =
    let kind = c.from.ensures in
    then-writes (_ ∷ []) (c.args.place ∷ []) _ _ _ _ _ _ (rw kind at c.put_element-second.ensures) c.put_element.ensures
