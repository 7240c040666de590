-- What the code fetches of a statement.
use Rattle.std.specs.Prelude.{◌≡◌, false, ℕ, ◌+◌, ◌≤◌, ◌<◌, length}
use Rattle.rules.specs.Constants.{most_threads, most_statements, most_registers, most_variables, most_locks}
use Rattle.rules.specs.Program.{is_halt, Statement, Program}
use Rattle.rules.specs.Format.{Bytes, Names}
use Rattle.field.specs.Decoded.{body_end, action_of}
use Rattle.reader.specs.Facts.{thread_in, names_in, Named, Targets, Expresses}
use Rattle.event.specs.declared.fetch.Fetched.{Fetched}

-- the names of thread t
abbrev pub names_of : Program → ℕ → Names
names_of g t = names_in (length g.vars) g.locks (thread_in g t)

-- f is the statement x, at which a thread with number `at` stands
pub record Fetches (s : Bytes) (ns : Names) (at : ℕ) (x : Statement) (f : Fetched) : Type 0 where
  pub place : f.place ≡ x.place
  pub least : f.statement.least.0 ≡ x.least
  pub greatest : f.statement.greatest.0 ≡ x.greatest
  pub least_small : f.statement.least.0 < 65536
  pub greatest_small : f.statement.greatest.0 < 65536
  pub action : f.statement.action ≡ action_of (x.place + 9) (body_end s x.place) x.action
  pub named : Named ns x.action
  pub targets : Targets most_statements x.action
  pub expresses : Expresses s ns.regs (x.place + 9) (body_end s x.place) x.action
  pub body : is_halt x.action ≡ false → body_end s x.place ≤ length s
  pub inside : is_halt x.action ≡ false → at < most_statements

-- t is a thread of the program, with n registers
pub record OfProgram (g : Program) (t n : ℕ) : Type 0 where
  pub there : t < length g.threads
  pub registers : n ≡ length (thread_in g t).regs
  pub threads_few : length g.threads ≤ most_threads
  pub regs_few : n ≤ most_registers
  pub vars_few : length g.vars ≤ most_variables
  pub locks_few : g.locks ≤ most_locks
