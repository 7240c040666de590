-- What a sheet says, as data: expressions, conditions, statements, threads.
use Rattle.std.specs.Prelude.{Bool, true, false, List, [], ℕ, ℤ}
use Rattle.rules.specs.Interval.{Interval, Operator}

-- "Arithmetic: 16 constant, 17 register, 18 +, 19 -, 20 times, 21 divide."
pub data Arith : Type 0 where
  constant : ℤ → Arith
  register : ℕ → Arith
  operation : Operator → Arith → Arith → Arith

-- "Conditions: 32 true, 33 false, 34 not, 35 and, 36 equal, 37 less."
pub data Condition : Type 0 where
  always : Condition
  never : Condition
  negation : Condition → Condition
  conjunction : Condition → Condition → Condition
  equal : Arith → Arith → Condition
  less : Arith → Arith → Condition

-- "0 halt, 1 skip, 2 assign (register, arithmetic), 3 if (target, condition), 4 store (register, variable),
-- 5 load (register, variable), 6 unlock (lock), 7 lock (lock)"
pub data Action : Type 0 where
  halt : Action
  skip : Action
  assign : ℕ → Arith → Action
  branch : ℕ → Condition → Action
  store : ℕ → ℕ → Action
  load : ℕ → ℕ → Action
  unlock : ℕ → Action
  lock : ℕ → Action

unfoldable pub is_halt : Action → Bool
is_halt halt = true
is_halt skip = false
is_halt (assign r a) = false
is_halt (branch t c) = false
is_halt (store r v) = false
is_halt (load r v) = false
is_halt (unlock l) = false
is_halt (lock l) = false

-- a statement: where its field stands, its least and greatest time, what it does
pub record Statement : Type 0 where
  pub place : ℕ
  pub least : ℕ
  pub greatest : ℕ
  pub action : Action

-- a thread: where its field of tag 4 stands, the starting values of its registers, its statements
pub record Thread : Type 0 where
  pub place : ℕ
  pub regs : List Interval
  pub statements : List Statement

-- the field of tag 1
pub record Header : Type 0 where
  pub limit : ℕ
  pub budget : ℕ
  pub label_low : ℕ
  pub label_high : ℕ

pub record Program : Type 0 where
  pub header : Header
  pub locks : ℕ
  pub vars : List Interval
  pub threads : List Thread

-- where a number names no statement or thread: never reached in a sheet that reads
abbrev pub no_statement : Statement
no_statement = record { place = 0; least = 0; greatest = 0; action = halt }

abbrev pub no_thread : Thread
no_thread = record { place = 0; regs = []; statements = [] }
