-- Facts that pin the definitions where they could slip: the sheets to try that 01 does not star, G and H as whole sheets, and what
-- other sentences say at their edges. A wrong definition fails here on a figure.
use Rattle.std.proofs.Math.Option.{some}
use Rattle.std.specs.Prelude.{List, [], ◌∷◌, ◌++◌, ℕ, zero, suc, pos, negsuc, take}
use Rattle.rules.specs.Base.{Each}
use Rattle.rules.specs.Format.{Bytes}
use Rattle.rules.specs.Search.{five}
use Rattle.rules.specs.Program as P
use Rattle.rules.specs.Sheets.{header, locks, thread, register, halt, skip, assign, branch, lock, unlock, constant, reg, divide, always, not, equal, less}
use Rattle.rules.specs.Worked.{Fact, gives, narrows, Holds, only, B}

-- a sheet with limit 10, budget 100, label 0..10 and n locks, and its first thread's statements
abbrev pub routine : ℕ → Bytes → Bytes
routine n statements = header 10 100 0 10 ++ locks n ++ thread 0 ++ statements

-- the same with no locks and register 0 from a to b
abbrev pub with_register : ℕ → ℕ → Bytes → Bytes
with_register a b statements = header 10 100 0 10 ++ locks 0 ++ thread 1 ++ register a b ++ statements

-- -1, -2, -4, -7 and the lowest value, as four bytes hold them
abbrev pub minus_1 : ℕ
minus_1 = 4294967295

abbrev pub minus_2 : ℕ
minus_2 = 4294967294

abbrev pub minus_4 : ℕ
minus_4 = 4294967292

abbrev pub minus_7 : ℕ
minus_7 = 4294967289

abbrev pub lowest : ℕ
lowest = 2147483648

-- a condition under two and under ten negations
abbrev pub not_not : Bytes → Bytes
not_not c = not (not c)

abbrev pub ten_nots : Bytes → Bytes
ten_nots c = not_not (not_not (not_not (not_not (not_not c))))

-- n statements alike
unfoldable pub row_of : ℕ → Bytes → Bytes
row_of zero b = []
row_of (suc n) b = b ++ row_of n b

-- a jump to the next statement on a condition
abbrev pub jumps_on : Bytes → Bytes
jumps_on c = routine 0 (branch 1 1 1 c ++ halt)

-- a division by 0
abbrev pub by_zero : Bytes
by_zero = assign 1 1 0 (divide (constant 1) (constant 0))

unfoldable pub edges : List Fact
edges =
    -- "B's first 42 bytes: 1 at 35; first 35: 7 at 27; first 27: 1 at 27; none: 1 at 0."
    gives (take 42 B) 12000 (five 1 35 0 0 0)
    ∷ gives (take 35 B) 12000 (five 7 27 0 0 0)
    ∷ gives (take 27 B) 12000 (five 1 27 0 0 0)
    ∷ gives [] 12000 (five 1 0 0 0 0)
    -- "limit 1,000,001 is 4"; "high at most the limit"
    ∷ gives (header 1000001 100 0 10 ++ locks 0 ++ thread 0 ++ halt) 12000 (five 4 0 0 0 0)
    ∷ gives (header 10 100 0 11 ++ locks 0 ++ thread 0 ++ halt) 12000 (five 4 0 0 0 0)
    -- "skip with least time 0 is 4, greatest 65,535 is read"
    ∷ gives (routine 0 (skip 0 1 ++ halt)) 12000 (five 4 27 0 0 0)
    ∷ gives (header 65535 100 1 65535 ++ locks 0 ++ thread 0 ++ skip 1 65535 ++ halt) 12000 (five 0 0 2 1 65535)
    -- "Nesting twelve is read, thirteen is 6"
    ∷ gives (jumps_on (not (ten_nots always))) 12000 (five 0 0 2 1 1)
    ∷ gives (jumps_on (not_not (ten_nots always))) 12000 (five 6 27 0 0 0)
    -- "64 statements, then a 65th is 8"
    ∷ gives (header 63 100 63 63 ++ locks 0 ++ thread 0 ++ row_of 63 (skip 1 1) ++ halt) 12000 (five 0 0 64 63 63)
    ∷ gives (header 64 100 64 64 ++ locks 0 ++ thread 0 ++ row_of 64 (skip 1 1) ++ halt) 12000 (five 8 539 0 0 0)
    -- a target that is absent is 5, at its statement
    ∷ gives (routine 0 (branch 1 1 2 always ++ halt)) 12000 (five 5 27 0 0 0)
    -- G as whole sheets: 10 by -1..1, the lowest value by -1, and -7 by 2, which is -4
    ∷ gives (with_register minus_1 1 (assign 1 1 0 (divide (constant 10) (reg 0)) ++ halt)) 12000 (five 10 38 1 0 0)
    ∷ gives (with_register minus_1 minus_1 (assign 1 1 0 (divide (constant lowest) (reg 0)) ++ halt)) 12000 (five 16 38 1 0 0)
    ∷ gives (with_register minus_7 minus_7 (assign 1 1 0 (divide (reg 0) (constant 2)) ++ branch 1 1 3 (equal (reg 0) (constant minus_4)) ++ skip 5 5 ++ halt)) 12000
    (five 0 0 3 2 2)
    -- H as whole sheets
    ∷ gives (with_register 3 4 (branch 1 1 2 (equal (reg 0) (reg 0)) ++ skip 2 2 ++ halt)) 12000 (five 0 0 4 1 3)
    ∷ gives (with_register 3 4 (branch 1 1 2 (less (reg 0) (reg 0)) ++ skip 2 2 ++ halt)) 12000 (five 0 0 3 3 3)
    -- "owned already, it is owned and the thread moves on"
    ∷ gives (routine 1 (lock 1 1 0 ++ lock 1 1 0 ++ halt)) 12000 (five 0 0 3 2 2)
    -- unlock of another's lock "only moves on": the second thread then waits for a lock that a halted thread owns
    ∷ gives (routine 1 (lock 1 1 0 ++ halt ++ thread 0 ++ unlock 2 2 0 ++ lock 1 1 0 ++ halt)) 12000 (five 11 0 3 0 0)
    -- "however often taken": one unlock frees a lock that was taken twice
    ∷ gives (routine 1 (lock 1 1 0 ++ lock 1 1 0 ++ unlock 1 1 0 ++ halt ++ thread 0 ++ skip 4 4 ++ lock 1 1 0 ++ halt)) 12000 (five 0 0 6 5 5)
    -- "otherwise 11, then 12": E with limit 1 is stuck, though its bound is above the limit
    ∷ gives (header 1 100 0 1 ++ locks 2 ++ thread 0 ++ lock 1 1 0 ++ lock 1 1 1 ++ halt ++ thread 0 ++ lock 1 1 1 ++ lock 1 1 0 ++ halt) 12000 (five 11 0 3 0 0)
    -- "An if makes the yes state (jump), then the no state": the yes state is taken first, and its fault is the one given
    ∷ gives (with_register 0 9 (branch 1 1 2 (less (reg 0) (constant 5)) ++ by_zero ++ by_zero ++ halt)) 12000 (five 10 75 2 0 0)
    -- "a left register's high becomes at most right high less 1"; no: "a left register's low is raised to right low"
    ∷ narrows (P.less (P.register 0) (P.constant (pos 5))) (only (pos 0) (pos 9)) (some (only (pos 0) (pos 4))) (some (only (pos 5) (pos 9)))
    -- the same on the right: "a right register's low at least left low plus 1"; no: "a right register's high lowered to left high"
    ∷ narrows (P.less (P.constant (pos 5)) (P.register 0)) (only (pos 0) (pos 9)) (some (only (pos 6) (pos 9))) (some (only (pos 0) (pos 5)))
    -- "each side that is one register becomes the meet"; no: keeps, unless both sides are the same single value
    ∷ narrows (P.equal (P.register 0) (P.constant (negsuc 0))) (only (negsuc 4) (pos 9)) (some (only (negsuc 0) (negsuc 0))) (some (only (negsuc 4) (pos 9)))
    ∷ []

-- the claim: each of them holds
abbrev pub EdgesHold : Type 0
EdgesHold = Each Holds edges
