-- Zero or too big? (02, ticket 1): which of 10 and 16 is told, worked out on expressions, conditions, whole sheets and runs; what
-- each of them says of the values; and that an expression or a condition has the same fault in the search and in a run where every
-- value is known.
use Rattle.std.specs.Prelude.{◌≡◌, Bool, List, [], ◌∷◌, ◌++◌, map, ℕ, ℤ, pos, negsuc, ◌≤ℤ◌}
use Rattle.rules.specs.Base.{Each}
use Rattle.rules.specs.Refusal.{Refusal, Result, value, fault, no_reading, off_scale}
use Rattle.rules.specs.Interval.{Interval, interval, ◌∈◌, Operator, plus, minus, times, divide, calculate, combine}
use Rattle.rules.specs.Program.{Arith, Condition}
use Rattle.rules.specs.Program as P
use Rattle.rules.specs.Format.{Bytes}
use Rattle.rules.specs.Run.{no_result, value_of, truth_of}
use Rattle.rules.specs.Expression.{evaluate, all_parts}
use Rattle.rules.specs.Search.{five}
use Rattle.rules.specs.Sheets as S
use Rattle.rules.specs.Sheets.{header, locks, thread, register, halt, skip, assign, branch}
use Rattle.rules.specs.Worked.{Fact, gives, evaluates, checks, Holds, divided, only}
use Rattle.rules.specs.Edges.{with_register, lowest}
use Rattle.rules.specs.Runs.{Played, Plays, row, ends, one}

-- ---- two expressions at fault, as trees and as bytes

abbrev pub zero_divisor : Arith
zero_divisor = P.operation divide (P.constant (pos 1)) (P.constant (pos 0))

-- the highest value plus 1
abbrev pub past_highest : Arith
past_highest = P.operation plus (P.constant (pos 2147483647)) (P.constant (pos 1))

abbrev pub zero_divisor_bytes : Bytes
zero_divisor_bytes = S.divide (S.constant 1) (S.constant 0)

abbrev pub past_highest_bytes : Bytes
past_highest_bytes = S.plus (S.constant 2147483647) (S.constant 1)

-- an operator on two expressions without registers
abbrev pub tells : Operator → Arith → Arith → Refusal → Fact
tells o a b r = evaluates (P.operation o a b) [] (fault r)

-- a condition on register 0 from 0 to 1
abbrev pub tests : Condition → Refusal → Fact
tests c r = checks c (only (pos 0) (pos 1)) (fault r)

-- comparisons with 0
abbrev pub equal_0 : Arith → Condition
equal_0 a = P.equal a (P.constant (pos 0))

abbrev pub less_0 : Arith → Condition
less_0 a = P.less a (P.constant (pos 0))

-- two threads that each assign an expression to their register, in the times given; each expression has 11 bytes, so their statements
-- stand at 38 and 81
abbrev pub side_by_side : ℕ → Bytes → ℕ → Bytes → Bytes
side_by_side a x b y =
    header 10 100 0 10 ++ locks 0
    ++ thread 1 ++ register 0 0 ++ assign a a 0 x ++ halt
    ++ thread 1 ++ register 0 0 ++ assign b b 0 y ++ halt

unfoldable pub faults : List Fact
faults =
    -- "the left operand speaks first, then the right"
    tells plus zero_divisor past_highest no_reading
    ∷ tells plus past_highest zero_divisor off_scale
    ∷ tells minus zero_divisor past_highest no_reading
    ∷ tells minus past_highest zero_divisor off_scale
    ∷ tells times zero_divisor past_highest no_reading
    ∷ tells times past_highest zero_divisor off_scale
    ∷ tells divide zero_divisor past_highest no_reading
    ∷ tells divide past_highest zero_divisor off_scale
    -- "then the operator": its own zero or size comes after a fault of an operand
    ∷ tells divide past_highest (P.constant (pos 0)) off_scale
    ∷ tells divide (P.constant (negsuc 2147483647)) zero_divisor no_reading
    ∷ tells times (P.constant (pos 65536)) (P.constant (pos 32768)) off_scale
    -- "for a divide, zero before size": the lowest value by -1..0
    ∷ evaluates (divided (negsuc 2147483647)) (only (negsuc 0) (pos 0)) (fault no_reading)
    -- "Expressions, conditions and the search all pass it up": left side, then right side
    ∷ tests (P.equal zero_divisor past_highest) no_reading
    ∷ tests (P.equal past_highest zero_divisor) off_scale
    ∷ tests (P.less zero_divisor past_highest) no_reading
    ∷ tests (P.less past_highest zero_divisor) off_scale
    -- of "and" left, then right, also where the left is false; and under a negation
    ∷ tests (P.conjunction (equal_0 zero_divisor) (less_0 past_highest)) no_reading
    ∷ tests (P.conjunction (less_0 past_highest) (equal_0 zero_divisor)) off_scale
    ∷ tests (P.conjunction P.never (less_0 past_highest)) off_scale
    ∷ tests (P.negation (P.conjunction (equal_0 past_highest) (less_0 zero_divisor))) off_scale
    -- with the registers before narrowing: r0 less 1 and the highest value plus r0 less 0
    ∷ tests (P.conjunction (P.less (P.register 0) (P.constant (pos 1))) (less_0 (P.operation plus (P.constant (pos 2147483647)) (P.register 0)))) off_scale
    -- the first thread that has an event and a fault; the second, where the first is passed over
    ∷ gives (side_by_side 1 past_highest_bytes 1 zero_divisor_bytes) 12000 (five 16 38 1 0 0)
    ∷ gives (side_by_side 1 zero_divisor_bytes 1 past_highest_bytes) 12000 (five 10 38 1 0 0)
    ∷ gives (side_by_side 5 zero_divisor_bytes 1 past_highest_bytes) 12000 (five 16 81 1 0 0)
    -- "tried where 10 is": after 12, before 14
    ∷ gives (side_by_side 11 past_highest_bytes 11 zero_divisor_bytes) 12000 (five 12 0 1 0 0)
    ∷ gives (header 10 100 0 10 ++ locks 0 ++ thread 0 ++ skip 1 1 ++ halt ++ thread 0 ++ skip 1 1 ++ halt ++ thread 1 ++ register 0 0 ++ assign 1 1 0 past_highest_bytes ++ halt)
    100 (five 16 78 1 0 0)
    -- an if, at its place
    ∷ gives (with_register 0 0 (branch 1 1 1 (S.less past_highest_bytes zero_divisor_bytes) ++ halt)) 12000 (five 16 38 1 0 0)
    ∷ []

-- ---- a run tells in the same order: register 0 starts with a value, and the first event is the last

abbrev pub run_tells : Bytes → ℤ → Refusal → Played
run_tells statement z r = row (with_register lowest 2147483647 (statement ++ halt)) (one 0 0 z) (ends 0 1 ∷ []) (no_result r)

unfoldable pub run_faults : List Played
run_faults =
    run_tells (assign 1 1 0 (S.plus zero_divisor_bytes past_highest_bytes)) (pos 0) no_reading
    ∷ run_tells (assign 1 1 0 (S.plus past_highest_bytes zero_divisor_bytes)) (pos 0) off_scale
    ∷ run_tells (assign 1 1 0 (S.divide past_highest_bytes (S.constant 0))) (pos 0) off_scale
    ∷ run_tells (assign 1 1 0 (S.divide (S.constant lowest) (S.reg 0))) (pos 0) no_reading
    ∷ run_tells (assign 1 1 0 (S.divide (S.constant lowest) (S.reg 0))) (negsuc 0) off_scale
    ∷ run_tells (branch 1 1 1 (S.equal zero_divisor_bytes past_highest_bytes)) (pos 0) no_reading
    ∷ run_tells (branch 1 1 1 (S.less past_highest_bytes zero_divisor_bytes)) (pos 0) off_scale
    ∷ []

-- ---- what a fault of an operator on two intervals says of the values on them

-- two values on the intervals have no result, by refusal r
pub record LacksResult (n : ℕ) (o : Operator) (i j : Interval) (r : Refusal) : Type 0 where
  pub left : ℤ
  pub right : ℤ
  pub left_in_lem : left ∈ i
  pub right_in : right ∈ j
  pub lacks : calculate n o left right ≡ fault r

-- ---- where every value is known

abbrev pub single : ℤ → Interval
single z = interval z z

abbrev pub single_of : Result ℤ → Result Interval
single_of (value z) = value (single z)
single_of (fault r) = fault r

-- that a condition has a truth, whichever it is, or the fault
abbrev pub has_truth : Result Bool → Result (Unit {0})
has_truth (value b) = value tt
has_truth (fault r) = fault r

-- the claim
pub record SaysWhich : Type 0 where
  pub faults_told : Each Holds faults
  pub run_faults_told : Each Plays run_faults
  -- for every width, on intervals that hold a value: 10 and 16 are told only where two values have no result for that reason
  pub told_of_values : (n : ℕ) (o : Operator) (i j : Interval) (r : Refusal) → i.low ≤ℤ i.high → j.low ≤ℤ j.high → combine n o i j ≡ fault r
      → LacksResult n o i j r
  -- and 10 wherever two values have a zero divisor: "zero before size"
  pub zero_is_told : (n : ℕ) (o : Operator) (i j : Interval) → LacksResult n o i j no_reading → combine n o i j ≡ fault no_reading
  -- on registers of one value each, an expression has the same value or the same fault in the search and in a run
  pub assign_alike : (a : Arith) (zs : List ℤ) → evaluate a (map single zs) ≡ single_of (value_of a zs)
  -- and a condition has no fault in either, or the same in both
  pub if_alike : (c : Condition) (zs : List ℤ) → all_parts c (map single zs) ≡ has_truth (truth_of c zs)
