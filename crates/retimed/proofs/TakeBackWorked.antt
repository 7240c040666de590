-- The worked rows of changes taken back, by computing the rule on them.
use mathlib.Core.Path.{refl}
use Rattle.rules.specs.Base.{Each, nil, ◌&◌}
use Rattle.rules.proofs.Compute.{every-rule}
use Rattle.retimed.specs.Retime.{retimed, is_statement, may_have, on_statement, changed, change}
use Rattle.retimed.specs.TakeBack.{shows, taken_back, take_back, none, one_more, take_all_back}
use Rattle.retimed.specs.TakeBackWorked.{rows, Holds}

pub back-rows-hold : Each Holds rows
unfolding rows every-rule retimed is_statement may_have on_statement changed change shows taken_back take_back take_all_back
back-rows-hold =
    refl & refl & refl & refl & refl & refl & refl & refl & refl & refl & refl & refl & refl & refl & refl & refl
    & refl & refl & refl & refl & refl & refl & refl & refl & refl & refl & refl & refl & refl & refl & refl & refl
    & refl & refl & refl & refl & refl & refl & refl & refl & refl
    & one_more 0 0 1 6 (one_more 0 0 2 5 none refl) refl & refl & one_more 0 0 2 3 (one_more 0 0 2 5 none refl) refl
    & refl & one_more 1 0 2 6 (one_more 0 0 1 5 none refl) refl & refl & refl & refl & refl & refl & refl & nil
