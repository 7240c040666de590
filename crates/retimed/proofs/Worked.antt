-- The worked rows, by computing the rule on them.
use mathlib.Core.Path.{refl}
use Rattle.rules.specs.Base.{Each, nil, ◌&◌}
use Rattle.rules.proofs.Compute.{every-rule}
use Rattle.retimed.specs.Retime.{retimed, is_statement, may_have, on_statement, changed, change, checked, preview_answer, preview}
use Rattle.retimed.specs.Worked.{rows, Holds}

pub rows_hold : Each Holds rows
unfolding rows every-rule retimed is_statement may_have on_statement changed change checked preview_answer preview
rows_hold =
    refl & refl & refl & refl & refl & refl & refl & refl & refl & refl & refl & refl & refl & refl & refl & refl & refl & refl & refl & refl
    & refl & refl & refl & refl & refl & refl & refl & refl & refl & refl & refl & refl & refl & refl & refl & refl & refl & refl & refl & refl
    & refl & refl & refl & refl & refl & refl & refl & refl & refl & refl & refl & refl & refl & refl & refl & refl & refl & nil
