-- What stands in a state that was taken from the stack, as the rules have it.
use Rattle.std.specs.Prelude.{List, ℕ, drop}
use Rattle.rules.specs.Program.{Program}
use Rattle.rules.specs.Search as S
use Rattle.rules.specs.Search.{Live, live_from}
use Rattle.state.specs.Cells.{decode}
use Rattle.state.specs.Shape.{Sizes, sizes_of, state_of}
use Rattle.reader.specs.Facts.{program_in}
use Rattle.event.specs.Plan.{Ready}
use Rattle.search.specs.declared.taken.Taken.{Taken}

-- the plan and the table of places are those of the program that the sheet reads as
abbrev pub IsReady : Taken → Type 0
IsReady x = Ready x.sheet.now x.plan x.places.now

abbrev pub program_of : Taken → Program
program_of x = program_in x.sheet.now

abbrev pub sizes_in : Taken → Sizes
sizes_in x = sizes_of (program_of x)

-- the state itself
abbrev pub rules_state : Taken → S.State
rules_state x = state_of (sizes_in x) (decode x.cells.now)

-- ---- the live threads

-- from number t on
abbrev pub live_after : Program → S.State → ℕ → List Live
live_after g s t = live_from t (drop t g.threads) (drop t s.threads)

abbrev pub live_in : Taken → ℕ → List Live
live_in x t = live_after (program_of x) (rules_state x) t
