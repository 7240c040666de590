-- What the code's replay state is in the rules: of its four threads, eight registers each, eight variables and eight locks, as
-- many as the program has.
use Rattle.std.specs.Prelude.{ℕ, List, [], ◌∷◌, pos, slice_index, slice_index_or, Result}
use Rattle.rules.specs.Refusal as Ref
use Rattle.rules.specs.Run as R
use Rattle.rules.specs.Run.{standing}
use Rattle.refusal.specs.declared.Refusal.{Refusal}
use Rattle.interval.specs.declared.Val.{Val}
use Rattle.state.specs.Shape.{Sizes, owners_of}
use Rattle.recorded.specs.Follow as F
use Rattle.record.specs.Known.{values_of, in_rules}
use Rattle.record.specs.declared.replay.RunThread.{RunThread}
use Rattle.record.specs.declared.replay.Replay.{Replay}

-- what stands where no value or no thread does
abbrev pub zero_val : Val
zero_val = record { 0 = pos 0 }

abbrev pub zero_thread : RunThread
zero_thread = record { at = 0; clock = record { 0 = 0 }; regs = [] }

abbrev pub thread_at : Replay → ℕ → RunThread
thread_at x t = slice_index_or x.threads t zero_thread

-- a thread with n registers
abbrev pub thread_of : ℕ → RunThread → R.RunThread
thread_of n x = record { at = x.at; clock = x.clock.0; regs = values_of n x.regs }

-- one count of registers for each thread of the sheet
unfoldable pub threads_of : List ℕ → List RunThread → List R.RunThread
threads_of [] xs = []
threads_of (n ∷ ns) [] = []
threads_of (n ∷ ns) (x ∷ xs) = thread_of n x ∷ threads_of ns xs

unfoldable pub state_of : Sizes → Replay → R.RunState
state_of z x = record { threads = threads_of z.regs x.threads; vars = values_of z.vars x.vars; owners = owners_of z.locks x.owners }

abbrev pub replay_of : Sizes → Replay → F.Replay
replay_of z x = record { state = state_of z x; tick = x.tick.0 }

-- the replay state that an event leaves, or its refusal
abbrev pub replayed_of : Sizes → Result Replay Refusal → Ref.Result F.Replay
replayed_of z = in_rules (replay_of z)

-- the state after an event at tick e
abbrev pub after : ℕ → R.RunState → F.Replay
after e s = record { state = s; tick = e }

-- thread t stands at a statement, with clock e and these registers, variables and owners
abbrev pub stood : Sizes → Replay → ℕ → ℕ → ℕ → List Val → List Val → List ℕ → F.Replay
stood z x t at e regs vars owners =
    after e (standing (state_of z x) t at e (values_of (slice_index z.regs t) regs) (values_of z.vars vars) (owners_of z.locks owners))
