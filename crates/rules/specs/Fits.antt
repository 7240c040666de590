-- Which programs have a sheet: what 01 asks of counts, ranges, times, names, targets and nesting, said of the program and not of
-- bytes. And the claims: reading (`Format.read_sheet`) and writing (`Encoding.encode`) are inverse.
use Rattle.std.specs.Prelude.{◌≡◌, List, [], ◌∷◌, ℕ, zero, suc, ◌≤◌, ◌<◌, T, ℤ, length}
use Rattle.std.specs.Int.Signed.{le_z}
use Rattle.rules.specs.Base.{Each}
use Rattle.rules.specs.Constants.{longest_sheet, deepest, greatest_limit, greatest_budget, greatest_time, most_variables, most_registers, most_locks, most_threads, most_statements, half32}
use Rattle.rules.specs.Interval.{Interval, in_range}
use Rattle.rules.specs.Program.{Arith, constant, register, operation, Condition, always, never, negation, conjunction, equal, less}
use Rattle.rules.specs.Program.{Action, halt, skip, assign, branch, store, load, unlock, lock, is_halt, Statement, Thread, Header, Program}
use Rattle.rules.specs.Format.{Bytes, AreBytes, got, Names, times_fit, target_fits, read_sheet}
use Rattle.rules.specs.Encoding.{code_of, encode, placed}

-- "Time limit 1..1,000,000; budget 1..10,000,000; label low at most label high, high at most the limit"
pub record HeaderFits (h : Header) : Type 0 where
  pub limit_some : 1 ≤ h.limit
  pub limit_most : h.limit ≤ greatest_limit
  pub budget_some : 1 ≤ h.budget
  pub budget_most : h.budget ≤ greatest_budget
  pub label_ordered : h.label_low ≤ h.label_high
  pub label_most : h.label_high ≤ h.limit

-- a 32-bit value
abbrev pub Value : ℤ → Type 0
Value z = T (in_range half32 z)

-- "every low at most its high"
pub record RangeFits (i : Interval) : Type 0 where
  pub low : Value i.low
  pub high : Value i.high
  pub ordered : T (le_z i.low i.high)

-- "may nest twelve deep (a leaf is one deep)": so deep at most, and n registers may be named
abbrev pub ArithFits : ℕ → ℕ → Arith → Type 0
ArithFits zero n a = ⊥
ArithFits (suc d) n (constant z) = Value z
ArithFits (suc d) n (register r) = r < n
ArithFits (suc d) n (operation o a b) = ArithFits d n a × ArithFits d n b

abbrev pub ConditionFits : ℕ → ℕ → Condition → Type 0
ConditionFits zero n c = ⊥
ConditionFits (suc d) n always = Unit {0}
ConditionFits (suc d) n never = Unit {0}
ConditionFits (suc d) n (negation c) = ConditionFits d n c
ConditionFits (suc d) n (conjunction a b) = ConditionFits d n a × ConditionFits d n b
ConditionFits (suc d) n (equal a b) = ArithFits d n a × ArithFits d n b
ConditionFits (suc d) n (less a b) = ArithFits d n a × ArithFits d n b

-- "Names and targets are one byte from 0": a name is of something that is there (a target: see the thread)
abbrev pub ActionFits : Names → Action → Type 0
ActionFits ns halt = Unit {0}
ActionFits ns skip = Unit {0}
ActionFits ns (assign r a) = (r < ns.regs) × ArithFits deepest ns.regs a
ActionFits ns (branch t c) = ConditionFits deepest ns.regs c
ActionFits ns (store r v) = (r < ns.regs) × (v < ns.vars)
ActionFits ns (load r v) = (r < ns.regs) × (v < ns.vars)
ActionFits ns (unlock l) = l < ns.locks
ActionFits ns (lock l) = l < ns.locks

-- "Halt has times 0 and 0; all others have least at least 1, greatest at most 65,535."
pub record StatementFits (ns : Names) (x : Statement) : Type 0 where
  pub times : T (times_fit (code_of x.action) x.least x.greatest)
  pub two_bytes : x.greatest ≤ greatest_time
  pub action : ActionFits ns x.action

-- "A thread's last statement is halt"
abbrev pub LastHalts : List Statement → Type 0
LastHalts [] = ⊥
LastHalts (x ∷ []) = T (is_halt x.action)
LastHalts (x ∷ y ∷ ys) = LastHalts (y ∷ ys)

-- a thread of a sheet with so many variables and locks
pub record ThreadFits (vars locks : ℕ) (t : Thread) : Type 0 where
  pub regs_few : length t.regs ≤ most_registers
  pub regs : Each RangeFits t.regs
  pub few : length t.statements ≤ most_statements
  pub statements : Each (StatementFits (record { regs = length t.regs; vars = vars; locks = locks })) t.statements
  pub last_halts_lem : LastHalts t.statements
  pub targets : Each (λ (x : Statement). T (target_fits (length t.statements) x.action)) t.statements

pub record ProgramFits (g : Program) : Type 0 where
  pub header : HeaderFits g.header
  pub locks_few : g.locks ≤ most_locks
  pub vars_few : length g.vars ≤ most_variables
  pub vars : Each RangeFits g.vars
  pub some : 1 ≤ length g.threads
  pub few : length g.threads ≤ most_threads
  pub threads : Each (ThreadFits (length g.vars) g.locks) g.threads
  pub short : length (encode g) ≤ longest_sheet

-- ---- the claims

-- s is the sheet of g: its bytes are those that are written, and its fields stand where g says
pub record SheetOf (s : Bytes) (g : Program) : Type 0 where
  pub written : encode g ≡ s
  pub places : placed g ≡ g
  pub fits : ProgramFits g

pub record Inverse : Type 0 where
  -- a sheet that reads is the sheet of what it reads as, to its last byte
  pub reads_written : (s : Bytes) → AreBytes s → (g : Program) (e : ℕ) → read_sheet s ≡ got g e → SheetOf s g × (e ≡ length s)
  -- what is written of a program that fits reads as that program, at the places where the writer puts its fields
  pub written_reads : (g : Program) → ProgramFits g → read_sheet (encode g) ≡ got (placed g) (length (encode g))
  -- and what is written are bytes: each number stands in those that the format has for it
  pub written_bytes : (g : Program) → ProgramFits g → AreBytes (encode g)
