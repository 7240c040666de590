-- The worked texts, by computing what they mean and what they make.
use mathlib.Core.Path.{refl}
use Rattle.rules.specs.Base.{Each, nil, ◌&◌}
use Rattle.rules.proofs.Compute.{every-rule}
use Rattle.text.specs.Worked.{repeated, rows, Holds}
use Rattle.text.proofs.Compute.{every-text}

pub rows_hold : Each Holds rows
unfolding rows repeated every-text every-rule
rows_hold =
    refl & refl & refl & refl & refl & refl & refl & refl & refl & refl & refl & refl & refl & refl & refl & refl & refl & refl & refl & refl
    & refl & refl & refl & refl & refl & refl & refl & refl & refl & refl & refl & refl & refl & refl & refl & refl & refl & refl & refl & refl
    & refl & refl & refl & refl & refl & refl & refl & refl & refl & refl & refl & refl & refl & refl & refl & refl & refl & refl & refl & refl
    & refl & refl & refl & refl & refl & refl & refl & refl & refl & refl & refl & refl & refl & refl & refl & nil
