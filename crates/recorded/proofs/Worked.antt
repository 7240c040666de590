-- The worked rows, by computing the rule on them.
use mathlib.Core.Path.{refl}
use Rattle.rules.specs.Base.{nil, ◌&◌}
use Rattle.rules.proofs.Compute.{every-rule}
use Rattle.interval.specs.Bounds.{holds}
use Rattle.recorded.specs.Follow.{start_value, start_values, start_threads, start_replay, gap, tick_after, replayed, replay, at_field, follow_event, follow_events, follow_from, follow_record}
use Rattle.recorded.specs.Follow.{answer_of, follow_with, follow}
use Rattle.recorded.specs.Worked.{rows, RowsHold}

pub rows_hold : RowsHold
unfolding rows every-rule holds start_value start_values start_threads start_replay gap tick_after replayed replay at_field follow_event follow_events follow_from follow_record answer_of follow_with follow
rows_hold =
    refl & refl & refl & refl & refl & refl & refl & refl & refl & refl & refl & refl & refl & refl & refl & refl & refl & refl & refl & refl
    & refl & refl & refl & refl & refl & refl & refl & refl & refl & refl & refl & refl & refl & refl & refl & refl & refl & refl & refl & refl
    & refl & refl & refl & refl & refl & refl & refl & refl & refl & refl & refl & refl & refl & refl & refl & refl & refl & refl & refl & refl
    & refl & refl & refl & refl & refl & refl & refl & refl & refl & refl & refl & refl & refl & refl & refl & refl & refl & refl & refl & refl
    & refl & refl & refl & refl & refl & refl & refl & refl & refl & refl & nil
