-- What the action of an event gives.
use Rattle.std.specs.Prelude.{◌≡◌, ℕ, ◌<◌, slice_index, Result}
use Rattle.rules.specs.Constants.{most_threads, most_statements}
use Rattle.rules.specs.Refusal as Ref
use Rattle.rules.specs.Refusal.{value, on_value}
use Rattle.rules.specs.Program as P
use Rattle.rules.specs.Run.{RunState, act}
use Rattle.refusal.specs.declared.Refusal.{Refusal}
use Rattle.state.specs.Shape.{Sizes}
use Rattle.recorded.specs.Follow as F
use Rattle.record.specs.Replay.{thread_at, thread_of, state_of, replayed_of, after}
use Rattle.record.specs.declared.replay.Replay.{Replay}
use Rattle.record.specs.declared.act.Event.{Event}

-- what an event at tick e makes of what its statement does
abbrev pub at_tick : ℕ → Ref.Result RunState → Ref.Result F.Replay
at_tick e y = on_value (λ s. value (after e s)) y

-- the replay state after event v, whose statement does a, for a program of sizes z
abbrev pub Acts : Sizes → Replay → Event → P.Action → Result Replay Refusal → Type 0
Acts z x v a r = replayed_of z r ≡ at_tick v.tick.0 (act (state_of z x) v.thread (thread_of v.registers (thread_at x v.thread)) v.tick.0 a)

-- the sizes have as many registers for the event's thread as the event says
abbrev pub Sized : Sizes → Event → Type 0
Sized z v = slice_index z.regs v.thread ≡ v.registers

-- the event's thread stands at a statement
abbrev pub Stands : Replay → Event → Type 0
Stands x v = (v.thread < most_threads) × ((thread_at x v.thread).at < most_statements)
