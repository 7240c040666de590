-- A plan of the program that a sheet reads as.
use Rattle.std.specs.Prelude.{◌≡◌, List, ℕ, ◌+◌, ◌*◌, ◌<◌, length, get_or}
use Rattle.rules.specs.Constants.{most_statements}
use Rattle.rules.specs.Program.{Program}
use Rattle.rules.specs.Format.{Bytes}
use Rattle.reader.specs.declared.Index.{Index}
use Rattle.reader.specs.Index.{no_entry, entry_of}
use Rattle.reader.specs.Facts.{program_in, thread_in, statement_in, ProgramFacts}
use Rattle.event.specs.declared.plan.Plan.{Plan}

-- the plan and the table of places are those of the program g, which the sheet reads as
pub record Planned (s : Bytes) (g : Program) (p : Plan) (places : List ℕ) : Type 0 where
  pub facts : ProgramFacts s g
  pub threads : p.threads ≡ length g.threads
  pub limit : p.limit.0 ≡ g.header.limit
  pub entries : (t : ℕ) → t < length g.threads → get_or p.entries t no_entry ≡ entry_of (thread_in g t)
  pub places_are : (t k : ℕ) → t < length g.threads → k < length (thread_in g t).statements
      → get_or places (t * most_statements + k) 0 ≡ (statement_in g t k).place

-- what a plan has of an index
abbrev pub plan_of : Index → Plan
plan_of i = record { threads = i.threads; limit = i.limit; entries = i.entries }

abbrev pub Ready : Bytes → Plan → List ℕ → Type 0
Ready s p places = Planned s (program_in s) p places
