-- Worked examples beside the starred sheets: the source documents' own, as sheets (names are numbers here, targets count from
-- 0, halt has times 0 and 0, and a waiting thread tries its lock afresh), and some of arithmetic.
use Rattle.std.specs.Prelude.{List, [], ◌∷◌, ◌++◌, ℕ, pos, negsuc}
use Rattle.rules.specs.Base.{Each}
use Rattle.rules.specs.Format.{Bytes}
use Rattle.rules.specs.Search.{five}
use Rattle.rules.specs.Refusal.{value, fault, no_reading, off_scale}
use Rattle.rules.specs.Interval.{interval, plus, minus, times, divide}
use Rattle.rules.specs.Program.{Arith, Condition}
use Rattle.rules.specs.Program as P
use Rattle.rules.specs.Sheets as S
use Rattle.rules.specs.Sheets.{header, locks, variable, thread, register, halt, assign, branch, store, load, lock, unlock, constant, reg, less}
use Rattle.rules.specs.Worked.{Fact, gives, evaluates, checks, Holds, only}

-- source document 001, section 7: p is register 0, r register 1, x variable 0. Two threads alike but for their times, the number
-- that p is compared with, and the start of p
abbrev pub count_up : ℕ → ℕ → Bytes
count_up least greatest = assign least greatest 0 (S.plus (reg 0) (constant 1))

-- r := r + 2 * p + 3
abbrev pub add_up : ℕ → ℕ → Bytes
add_up least greatest = assign least greatest 1 (S.plus (S.plus (reg 1) (S.times (constant 2) (reg 0))) (constant 3))

abbrev pub section_7 : Bytes
section_7 =
    header 42 5473 27 42 ++ locks 1 ++ variable 0 0
    ++ thread 2 ++ register 0 0 ++ register 0 0
    ++ count_up 2 2 ++ add_up 1 1 ++ branch 1 2 0 (less (reg 0) (constant 2))
    ++ lock 1 2 0 ++ load 2 3 0 0 ++ assign 1 1 0 (S.plus (reg 0) (reg 1)) ++ store 2 3 0 0 ++ unlock 2 3 0 ++ halt
    ++ thread 2 ++ register 2 2 ++ register 0 0
    ++ count_up 2 2 ++ add_up 1 1 ++ branch 4 5 0 (less (reg 0) (constant 4))
    ++ lock 5 6 0 ++ load 2 5 0 0 ++ assign 2 2 0 (S.plus (reg 0) (reg 1)) ++ store 2 4 0 0 ++ unlock 2 3 0 ++ halt

-- source document 000, section 5: x, y, z are variables 0, 1, 2, each r is register 0, and r <= 3 is r < 4
abbrev pub section_5 : Bytes
section_5 =
    header 9 334 3 9 ++ locks 0 ++ variable 1 1 ++ variable 5 5 ++ variable 0 0
    ++ thread 1 ++ register 0 0 ++ load 1 5 0 0 ++ store 1 3 0 1 ++ halt
    ++ thread 1 ++ register 0 0 ++ load 1 6 0 1 ++ store 2 3 0 2 ++ halt
    ++ thread 1 ++ register 2 4 ++ branch 1 3 2 (less (reg 0) (constant 4)) ++ store 2 3 0 0 ++ halt

-- register 0
abbrev pub r0 : Arith
r0 = P.register 0

-- "Narrowing by the left of "and" before looking for a zero divisor on the right" would miss this one: 0 less r0 and 10 / r0 less 5
abbrev pub guarded_division : Condition
guarded_division = P.conjunction (P.less (P.constant (pos 0)) r0) (P.less (P.operation divide (P.constant (pos 10)) r0) (P.constant (pos 5)))

unfoldable pub examples : List Fact
examples =
    gives section_7 12000 (five 0 0 5473 27 42)
    ∷ gives section_5 12000 (five 0 0 334 3 9)
    ∷ checks guarded_division (only (pos 0) (pos 5)) (fault no_reading)
    ∷ checks guarded_division (only (pos 1) (pos 5)) (value tt)
    -- -3..4 times itself: the ends are -3 times 4 and 4 times 4
    ∷ evaluates (P.operation times r0 r0) (only (negsuc 2) (pos 4)) (value (interval (negsuc 11) (pos 16)))
    ∷ evaluates (P.operation plus r0 (P.constant (pos 2147483647))) (only (pos 0) (pos 0)) (value (interval (pos 2147483647) (pos 2147483647)))
    ∷ evaluates (P.operation plus r0 (P.constant (pos 2147483647))) (only (pos 0) (pos 1)) (fault off_scale)
    ∷ evaluates (P.operation minus r0 r0) (only (pos 3) (pos 4)) (value (interval (negsuc 0) (pos 1)))
    ∷ []

-- the claim: each of them holds
abbrev pub ExamplesHold : Type 0
ExamplesHold = Each Holds examples
