-- The program of the sheet that is followed.
use Rattle.std.specs.Prelude.{◌≡◌, length}
use Rattle.rules.specs.Program.{Program}
use Rattle.reader.specs.Facts.{program_in}
use Rattle.state.specs.Shape.{Sizes, sizes_of}
use Rattle.event.specs.Plan.{Ready}
use Rattle.record.specs.declared.sheet.Sheet.{Sheet}

abbrev pub program_of : Sheet → Program
program_of s = program_in s.bytes.now

abbrev pub sizes_in : Sheet → Sizes
sizes_in s = sizes_of (program_of s)

-- the sheet reads, and the places, the plan and the count are its own
pub record IsReady (s : Sheet) : Type 0 where
  pub planned : Ready s.bytes.now s.plan s.places.now
  pub counted : s.variables ≡ length (program_of s).vars
