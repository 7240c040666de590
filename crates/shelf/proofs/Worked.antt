-- The worked rows, by computing the rule on them.
use mathlib.Core.Path.{refl}
use Rattle.rules.specs.Base.{nil, ◌&◌}
use Rattle.rules.proofs.Compute.{every-rule}
use Rattle.shelf.specs.Pairs.{read_name, pass_sheet, read_pair, on_pair, look_pairs, look_in}
use Rattle.shelf.specs.Lookup.{look_on, lookup}
use Rattle.shelf.specs.Worked.{rows, RowsHold}

pub rows_hold : RowsHold
unfolding rows every-rule read_name pass_sheet read_pair on_pair look_pairs look_in look_on lookup
rows_hold =
    refl & refl & refl & refl & refl & refl & refl & refl & refl & refl & refl & refl & refl & refl & refl & refl & refl & refl & refl & refl & refl & refl & refl
    & refl & refl & nil
