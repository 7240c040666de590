-- What holds of a sheet that reads, of the program that it reads as, and of its index: what later layers rely on.
use Rattle.std.specs.Prelude.{◌≡◌, true, false, List, [], ◌∷◌, ℕ, zero, suc, ◌+◌, ◌-◌, ◌*◌, ◌≤◌, ◌<◌, length, get_or, ◌≤ℤ◌}
use Rattle.rules.specs.Base.{Each}
use Rattle.rules.specs.Constants.{longest_sheet, deepest, most_locks, most_variables, most_registers, most_threads, most_statements}
use Rattle.rules.specs.Interval.{Interval, interval}
use Rattle.rules.specs.Program.{Action, halt, skip, assign, branch, store, load, unlock, lock, is_halt, Statement, Thread, Program, no_statement, no_thread}
use Rattle.rules.specs.Format.{Bytes, int32, Got, bad, got, Names, read_arith, read_condition, read_statement, read_sheet}
use Rattle.rules.specs.Fits.{HeaderFits}
use Rattle.field.specs.Decoded.{body_end, statement_at, statement_of}
use Rattle.reader.specs.declared.Index.{Index}
use Rattle.reader.specs.Index.{no_entry, entry_of}

-- ---- the program that a sheet reads as

-- of a sheet that does not read, a program with no threads
abbrev pub program_of : Got Program → Program
program_of (bad r p) = record { header = record { limit = 0; budget = 0; label_low = 0; label_high = 0 }; locks = 0; vars = []; threads = [] }
program_of (got g e) = g

unfoldable pub program_in : Bytes → Program
program_in s = program_of (read_sheet s)

-- ---- parts of a program by number

abbrev pub thread_in : Program → ℕ → Thread
thread_in g t = get_or g.threads t no_thread

abbrev pub statement_in : Program → ℕ → ℕ → Statement
statement_in g t k = get_or (thread_in g t).statements k no_statement

-- what the statements of a thread may name
abbrev pub names_in : ℕ → ℕ → Thread → Names
names_in vars locks t = record { regs = length t.regs; vars = vars; locks = locks }

-- ---- ranges, where they stand

-- the interval in the body of the field at p
abbrev pub range_at : Bytes → ℕ → Interval
range_at s p = interval (int32 s (p + 3)) (int32 s (p + 7))

-- the intervals of k fields, one behind the other
unfoldable pub ranges : Bytes → ℕ → ℕ → List Interval
ranges s p zero = []
ranges s p (suc k) = range_at s p ∷ ranges s (p + 11) k

abbrev pub Ordered : Interval → Type 0
Ordered i = i.low ≤ℤ i.high

-- ---- a statement

-- the names that it gives are there
abbrev pub Named : Names → Action → Type 0
Named ns halt = Unit {0}
Named ns skip = Unit {0}
Named ns (assign r a) = r < ns.regs
Named ns (branch t c) = Unit {0}
Named ns (store r v) = (r < ns.regs) × (v < ns.vars)
Named ns (load r v) = (r < ns.regs) × (v < ns.vars)
Named ns (unlock l) = l < ns.locks
Named ns (lock l) = l < ns.locks

-- its target is one of the thread's n statements
abbrev pub Targets : ℕ → Action → Type 0
Targets n halt = Unit {0}
Targets n skip = Unit {0}
Targets n (assign r a) = Unit {0}
Targets n (branch t c) = t < n
Targets n (store r v) = Unit {0}
Targets n (load r v) = Unit {0}
Targets n (unlock l) = Unit {0}
Targets n (lock l) = Unit {0}

-- its expression is what the bytes of its field read as, up to the body's end e
abbrev pub Expresses : Bytes → ℕ → ℕ → ℕ → Action → Type 0
Expresses s n p e halt = Unit {0}
Expresses s n p e skip = Unit {0}
Expresses s n p e (assign r a) = read_arith deepest s e n p ≡ got a e
Expresses s n p e (branch t c) = read_condition deepest s e n p ≡ got c e
Expresses s n p e (store r v) = Unit {0}
Expresses s n p e (load r v) = Unit {0}
Expresses s n p e (unlock l) = Unit {0}
Expresses s n p e (lock l) = Unit {0}

-- a statement whose names are ns, read at its place
pub record StatementFacts (ns : Names) (s : Bytes) (x : Statement) : Type 0 where
  pub reads : read_statement ns s x.place ≡ got x (body_end s x.place)
  pub decoded : statement_at s x.place ≡ statement_of s x
  pub head : x.place + 8 ≤ length s
  pub body : body_end s x.place ≤ length s
  pub named : Named ns x.action
  pub expresses : Expresses s ns.regs (x.place + 9) (body_end s x.place) x.action
  pub in_order : x.least ≤ x.greatest
  pub takes_time : is_halt x.action ≡ false → 1 ≤ x.least

-- ---- a thread, whose sheet has so many variables and locks

pub record ThreadFacts (vars locks : ℕ) (s : Bytes) (t : Thread) : Type 0 where
  pub head : t.place + 3 ≤ length s
  pub regs : t.regs ≡ ranges s (t.place + 4) (length t.regs)
  pub regs_few : length t.regs ≤ most_registers
  pub regs_ordered : Each Ordered t.regs
  pub some : 1 ≤ length t.statements
  pub few : length t.statements ≤ most_statements
  pub statements : Each (StatementFacts (names_in vars locks t) s) t.statements
  pub targets : Each (λ x. Targets (length t.statements) x.action) t.statements
  pub last_halts_lem : is_halt (get_or t.statements (length t.statements - 1) no_statement).action ≡ true

-- ---- the sheet and its index

pub record ProgramFacts (s : Bytes) (g : Program) : Type 0 where
  pub fits : length s ≤ longest_sheet
  pub header : HeaderFits g.header
  pub locks_few : g.locks ≤ most_locks
  pub vars : g.vars ≡ ranges s 23 (length g.vars)
  pub vars_few : length g.vars ≤ most_variables
  pub vars_ordered : Each Ordered g.vars
  pub threads_some : 1 ≤ length g.threads
  pub threads_few : length g.threads ≤ most_threads
  pub threads : Each (ThreadFacts (length g.vars) g.locks s) g.threads

pub record IndexFacts (s : Bytes) (g : Program) (i : Index) : Type 0 where
  pub limit : i.limit.0 ≡ g.header.limit
  pub budget : i.budget ≡ g.header.budget
  pub label_low_lem : i.label_low.0 ≡ g.header.label_low
  pub label_high_lem : i.label_high.0 ≡ g.header.label_high
  pub locks : i.locks ≡ g.locks
  pub variables : i.variables ≡ length g.vars
  pub threads : i.threads ≡ length g.threads
  pub entries : (t : ℕ) → t < length g.threads → get_or i.entries t no_entry ≡ entry_of (thread_in g t)
  pub places : (t k : ℕ) → t < length g.threads → k < length (thread_in g t).statements → get_or i.places (t * most_statements + k) 0 ≡ (statement_in g t k).place
