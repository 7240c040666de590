-- The worked rows, by computing the definition on them.
use mathlib.Core.Path.{refl}
use Rattle.rules.specs.Base.{Each, nil, ◌&◌}
use Rattle.rules.proofs.Compute.{every-rule}
use Rattle.mended.specs.Mend.{is_field, reversed, exchange, mended_field, open_after, closes_at, added, on_field, mend_fields, mend_from, mended, original, at_place, mend_sheet, numbers_of, mend_into, mend}
use Rattle.mended.specs.Worked.{skips, rows, Holds}

pub rows_hold : Each Holds rows
unfolding rows skips every-rule is_field reversed exchange mended_field open_after closes_at added on_field mend_fields mend_from mended original at_place mend_sheet numbers_of mend_into mend
rows_hold =
    refl & refl & refl & refl & refl & refl & refl & refl & refl & refl & refl & refl & refl & refl & refl & refl & refl & refl & refl & refl
    & refl & refl & refl & refl & refl & refl & refl & refl & refl & refl & refl & nil
