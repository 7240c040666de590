-- The parts of a state, and a state with a part replaced.
use Rattle.std.specs.Prelude.{ℕ, [], get_or, set}
use Rattle.interval.specs.declared.Span.{Span}
use Rattle.interval.specs.Shape.{zero_span}
use Rattle.state.specs.declared.Clock.{Clock}
use Rattle.state.specs.declared.Thread.{Thread}
use Rattle.state.specs.declared.State.{State}

-- what stands where no thread does
abbrev pub zero_clock : Clock
zero_clock = record { low = record { 0 = 0 }; high = record { 0 = 0 } }

abbrev pub zero_thread : Thread
zero_thread = record { at = 0; clock = zero_clock; regs = [] }

abbrev pub thread_at : State → ℕ → Thread
thread_at s t = get_or s.threads t zero_thread

abbrev pub var_at : State → ℕ → Span
var_at s v = get_or s.vars v zero_span

abbrev pub owner_at : State → ℕ → ℕ
owner_at s l = get_or s.owners l 0

abbrev pub reg_at : Thread → ℕ → Span
reg_at th i = get_or th.regs i zero_span

-- ---- a part replaced

abbrev pub with_thread : State → ℕ → Thread → State
with_thread s t th = record { threads = set s.threads t th; vars = s.vars; owners = s.owners }

abbrev pub with_var : State → ℕ → Span → State
with_var s v span = record { threads = s.threads; vars = set s.vars v span; owners = s.owners }

abbrev pub with_owner : State → ℕ → ℕ → State
with_owner s l o = record { threads = s.threads; vars = s.vars; owners = set s.owners l o }
