-- The starred sheets of 01, "Sheets to try": one table of facts, and the claim that each of them holds.
use Rattle.std.specs.Prelude.{◌≡◌, List, [], ◌∷◌, ◌++◌, ℕ, ℤ, pos, negsuc}
use Rattle.std.proofs.Math.Option.{Option, none, some}
use Rattle.rules.specs.Base.{Each}
use Rattle.rules.specs.Refusal.{Result, value, fault, no_reading, off_scale}
use Rattle.rules.specs.Interval.{Interval, interval, divide}
use Rattle.rules.specs.Program.{Arith, Condition}
use Rattle.rules.specs.Program as P
use Rattle.rules.specs.Expression.{Regs, evaluate, all_parts, narrow_yes, narrow_no}
use Rattle.rules.specs.Format.{Bytes}
use Rattle.rules.specs.Search.{Answer, five, answer}
use Rattle.rules.specs.Product.{bytes, printed}
use Rattle.rules.specs.Sheets.{header, locks, thread, register, halt, skip, branch, lock, unlock, constant, reg, equal, less}

-- a fact about the rules
pub data Fact : Type 0 where
  -- a sheet, with a work buffer of a length, gives five numbers
  gives : Bytes → ℕ → Answer → Fact
  -- the program prints of a sheet
  prints : Bytes → Bytes → Fact
  -- an expression on registers comes to an interval, or to a refusal
  evaluates : Arith → Regs → Result Interval → Fact
  -- every part of a condition on registers has a reading, or some part gives a refusal
  checks : Condition → Regs → Result (Unit {0}) → Fact
  -- a condition on registers keeps these for yes, and those for no
  narrows : Condition → Regs → Option Regs → Option Regs → Fact

abbrev pub Holds : Fact → Type 0
Holds (gives s n a) = answer s n ≡ a
Holds (prints s t) = printed s ≡ t
Holds (evaluates e rs r) = evaluate e rs ≡ r
Holds (checks c rs r) = all_parts c rs ≡ r
Holds (narrows c rs y n) = ◌≡◌ {A = Option Regs × Option Regs} (narrow_yes c rs, narrow_no c rs) (y, n)

-- ---- the sheets. "Unless said: limit 10, budget 100, label 0..10, 12,000 numbers."

abbrev pub A : Bytes
A = header 10 100 0 10 ++ locks 0 ++ thread 0 ++ halt

-- B's 43 bytes as 01 prints them
abbrev pub B : Bytes
B = 0x01 ∷ 0x00 ∷ 0x10 ∷ 0x00 ∷ 0x00 ∷ 0x00 ∷ 0x0A ∷ 0x00 ∷ 0x00 ∷ 0x00 ∷ 0x64 ∷ 0x00 ∷ 0x00 ∷ 0x00 ∷ 0x02 ∷ 0x00 ∷ 0x00 ∷ 0x00 ∷ 0x03
    ∷ 0x03 ∷ 0x00 ∷ 0x01 ∷ 0x00 ∷ 0x04 ∷ 0x00 ∷ 0x01 ∷ 0x00
    ∷ 0x06 ∷ 0x00 ∷ 0x05 ∷ 0x00 ∷ 0x02 ∷ 0x00 ∷ 0x03 ∷ 0x01 ∷ 0x06 ∷ 0x00 ∷ 0x05 ∷ 0x00 ∷ 0x00 ∷ 0x00 ∷ 0x00 ∷ 0x00 ∷ []

-- B with another limit, budget and label
abbrev pub B_with : ℕ → ℕ → ℕ → ℕ → Bytes
B_with l b low high = header l b low high ++ locks 0 ++ thread 0 ++ skip 2 3 ++ halt

abbrev pub C : Bytes
C = header 10 100 0 10 ++ locks 0 ++ thread 0 ++ skip 1 4 ++ halt ++ thread 0 ++ skip 2 3 ++ halt

abbrev pub D : Bytes
D = header 10 100 0 10 ++ locks 1
    ++ thread 0 ++ lock 1 1 0 ++ unlock 1 1 0 ++ halt
    ++ thread 0 ++ lock 1 1 0 ++ unlock 1 1 0 ++ halt

abbrev pub E : Bytes
E = header 10 100 0 10 ++ locks 2
    ++ thread 0 ++ lock 1 1 0 ++ lock 1 1 1 ++ halt
    ++ thread 0 ++ lock 1 1 1 ++ lock 1 1 0 ++ halt

abbrev pub F : Bytes
F = header 11 100 0 11 ++ locks 0 ++ thread 1 ++ register 0 9 ++ branch 1 1 2 (less (reg 0) (constant 5)) ++ skip 10 10 ++ halt

-- G: a constant divided by register 0
abbrev pub divided : ℤ → Arith
divided z = P.operation divide (P.constant z) (P.register 0)

abbrev pub only : ℤ → ℤ → Regs
only a b = interval a b ∷ []

-- ---- the table

unfoldable pub table : List Fact
table =
    gives A 12000 (five 0 0 1 0 0)
    ∷ gives B 12000 (five 0 0 2 2 3)
    ∷ prints B (bytes "0 0 2 2 3\n")
    ∷ gives (B_with 10 100 3 3) 12000 (five 15 0 2 2 3)
    ∷ gives (B_with 2 100 0 2) 12000 (five 12 0 1 0 0)
    ∷ gives (B_with 3 100 0 3) 12000 (five 0 0 2 2 3)
    ∷ gives (B_with 10 1 2 3) 12000 (five 13 0 1 0 0)
    ∷ gives C 12000 (five 0 0 5 2 4)
    ∷ gives C 199 (five 14 0 1 0 0)
    ∷ gives C 200 (five 0 0 5 2 4)
    ∷ gives D 12000 (five 0 0 19 3 4)
    ∷ gives E 12000 (five 11 0 3 0 0)
    ∷ gives F 12000 (five 0 0 4 1 11)
    -- G: "10 divided by −1..1: refusal 10. By 1..5: 2..10. −7 by 2: −3. Lowest value by −1: refusal 10." By 02 the third is -4
    -- (ticket 5: "Case G changes its third result") and the last 16 (ticket 1: "Case G's lowest value by −1 changes its number")
    ∷ evaluates (divided (pos 10)) (only (negsuc 0) (pos 1)) (fault no_reading)
    ∷ evaluates (divided (pos 10)) (only (pos 1) (pos 5)) (value (interval (pos 2) (pos 10)))
    ∷ evaluates (divided (negsuc 6)) (only (pos 2) (pos 2)) (value (interval (negsuc 3) (negsuc 3)))
    ∷ evaluates (divided (negsuc 2147483647)) (only (negsuc 0) (negsuc 0)) (fault off_scale)
    -- H: "register 3..4: "r0 equal r0" keeps both branches, "r0 less r0" has no yes state"
    ∷ narrows (P.equal (P.register 0) (P.register 0)) (only (pos 3) (pos 4)) (some (only (pos 3) (pos 4))) (some (only (pos 3) (pos 4)))
    ∷ narrows (P.less (P.register 0) (P.register 0)) (only (pos 3) (pos 4)) none (some (only (pos 3) (pos 4)))
    ∷ []

-- the claim: every fact of the table holds, and the notation of sheets makes B's very bytes
pub record StarredSheets : Type 0 where
  pub all_hold : Each Holds table
  pub notation_is_right : B_with 10 100 2 3 ≡ B
