-- When a thread's event may end at a tick, and what one event does to a replay state.
use Rattle.std.specs.Prelude.{◌≡◌, ℕ, ◌+◌, ◌^◌, ◌<◌, Bool, not, ◌&&◌, ◌||◌, nat_le, Result, OnErr}
use Rattle.rules.specs.Program.{Program}
use Rattle.rules.specs.Run.{RunState, thread_of, statement_of, live}
use Rattle.refusal.specs.declared.Refusal.{Refusal}
use Rattle.recorded.specs.Follow as F
use Rattle.record.specs.Known.{in_rules}
use Rattle.record.specs.Replay.{replay_of}
use Rattle.record.specs.Sheet.{program_of, sizes_in, IsReady}
use Rattle.record.specs.declared.replay.Replay.{Replay}
use Rattle.record.specs.declared.sheet.Sheet.{Sheet}

-- a thread at this clock allows an event end at tick e: "e is at least every thread's clock, and each live thread's clock plus
-- its greatest time is at least e"
abbrev pub allows : ℕ → Bool → ℕ → ℕ → Bool
allows clock halted greatest e = nat_le clock e && (halted || nat_le e (clock + greatest))

-- a live thread at this clock may end its statement at tick e, as far as its least time goes
abbrev pub is_due : ℕ → Bool → ℕ → ℕ → Bool
is_due clock halted least e = not halted && nat_le (clock + least) e

-- the same of thread u of a program
unfoldable pub allows_at : Program → RunState → ℕ → ℕ → Bool
allows_at g s e u = nat_le (thread_of s u).clock e && (not (live g s u) || nat_le e ((thread_of s u).clock + (statement_of g s u).greatest))

abbrev pub due_at : Program → RunState → ℕ → ℕ → Bool
due_at g s e t = live g s t && nat_le ((thread_of s t).clock + (statement_of g s t).least) e

-- ---- one event

-- the sheet is ready, and the next tick is below 2^32
abbrev pub Asks : Sheet → Replay → Type 0
Asks sheet x = IsReady sheet × (x.tick.0 + 65535 < 2 ^ 32)

-- from state x, the event of a thread and a clock leaves y or is refused, as `replay` says; refused, it leaves x
pub record Takes (sheet : Sheet) (x : Replay) (t clock : ℕ) (y : Replay) (c : Result (Unit {0}) Refusal) : Type 0 where
  pub replays : in_rules (λ _. replay_of (sizes_in sheet) y) c ≡ F.replay (program_of sheet) (replay_of (sizes_in sheet) x) t clock
  pub kept : OnErr c (y ≡ x)
