-- What starting a thread asks of its entry in the index, what it gives, and the state in which a search starts.
use Rattle.std.specs.Prelude.{◌≡◌, ℕ, ◌+◌, ◌*◌, ◌≤◌, length}
use Rattle.rules.specs.Constants.{most_registers}
use Rattle.rules.specs.Base.{Free}
use Rattle.rules.specs.Expression.{Regs}
use Rattle.rules.specs.Program.{Program}
use Rattle.rules.specs.Format.{Bytes, got, read_sheet}
use Rattle.rules.specs.Search.{ThreadState, start}
use Rattle.reader.specs.declared.threads.ThreadEntry.{ThreadEntry}
use Rattle.reader.specs.Facts.{ranges}
use Rattle.state.specs.declared.Thread.{Thread}
use Rattle.state.specs.declared.State.{State}
use Rattle.state.specs.Cells.{AllTimed}
use Rattle.state.specs.Shape.{thread_of, sizes_of, state_of}

-- the registers' ranges stand in the sheet
pub record EntryFits (s : Bytes) (e : ThreadEntry) : Type 0 where
  pub few : e.registers ≤ most_registers
  pub room : e.place + 4 + 11 * e.registers ≤ length s

-- at statement 0, its clock at 0
abbrev pub starts_with : Regs → ThreadState
starts_with rs = record { at = 0; low = 0; high = 0; regs = rs }

abbrev pub ThreadStarts : Bytes → ThreadEntry → Thread → Type 0
ThreadStarts s e r = thread_of e.registers r ≡ starts_with (ranges s (e.place + 4) e.registers)

-- the starting state of a sheet that reads
pub record StartsAs (sheet : Bytes) (s : State) : Type 0 where
  pub starts : (g : Program) (e : ℕ) → read_sheet sheet ≡ got g e → state_of (sizes_of g) s ≡ start g
  pub timed : AllTimed s
  -- of what the sheet does not have (more threads, registers, variables, locks) the state may say anything
  pub others : Free s
