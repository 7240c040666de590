-- The board rounds down (02, ticket 5): quotients worked out on values, on intervals and in runs; what a quotient is, said by
-- products alone; that on two intervals it lies between the quotients of the ends; and the only quotient that is off the scale.
use Rattle.std.specs.Prelude.{◌≡◌, ◌≢◌, true, false, List, [], ◌∷◌, ◌++◌, ℕ, ◌<◌, ℤ, pos, negsuc, neg_ℤ, ◌*ℤ◌, ◌≤ℤ◌}
use Rattle.rules.specs.Base.{Each}
use Rattle.rules.specs.Refusal.{Result, value, fault, off_scale}
use Rattle.rules.specs.Interval.{Interval, interval, ◌∈◌, divide, quotient, calculate, hull, holds_zero, in_range, fits, combine}
use Rattle.rules.specs.Program as P
use Rattle.rules.specs.Run.{next}
use Rattle.rules.specs.Sheets as S
use Rattle.rules.specs.Sheets.{assign, halt}
use Rattle.rules.specs.Worked.{Fact, evaluates, Holds}
use Rattle.rules.specs.Edges.{with_register, minus_2, lowest}
use Rattle.rules.specs.Runs.{Played, Plays, row, ends, one}

abbrev pub neg : ℕ → ℤ
neg n = neg_ℤ (pos n)

-- register 0 from a to b, divided by register 1 from c to d
abbrev pub quotient_on : ℤ → ℤ → ℤ → ℤ → Result Interval → Fact
quotient_on a b c d r = evaluates (P.operation divide (P.register 0) (P.register 1)) (interval a b ∷ interval c d ∷ []) r

-- one value by another
abbrev pub quotient_is : ℤ → ℤ → ℤ → Fact
quotient_is a b q = quotient_on a a b b (value (interval q q))

unfoldable pub quotients : List Fact
quotients =
    -- "−7 by 2 is −4 and 7 by −2 is −4"
    quotient_is (neg 7) (pos 2) (neg 4)
    ∷ quotient_is (pos 7) (neg 2) (neg 4)
    ∷ quotient_is (pos 7) (pos 2) (pos 3)
    ∷ quotient_is (neg 7) (neg 2) (pos 3)
    -- nothing to round
    ∷ quotient_is (neg 8) (pos 2) (neg 4)
    ∷ quotient_is (pos 8) (neg 2) (neg 4)
    ∷ quotient_is (neg 8) (neg 2) (pos 4)
    ∷ quotient_is (pos 0) (neg 2) (pos 0)
    -- a fraction of less than 1, at the ends of the 32-bit values
    ∷ quotient_is (neg 1) (pos 2147483647) (neg 1)
    ∷ quotient_is (pos 2147483647) (neg 2147483648) (neg 1)
    ∷ quotient_is (neg 1) (neg 2147483648) (pos 0)
    -- the lowest value by 1, 2, -2 and the highest by -1 and -2 are on the scale; the lowest by -1 is not
    ∷ quotient_is (neg 2147483648) (pos 1) (neg 2147483648)
    ∷ quotient_is (neg 2147483648) (pos 2) (neg 1073741824)
    ∷ quotient_is (neg 2147483648) (neg 2) (pos 1073741824)
    ∷ quotient_is (pos 2147483647) (neg 1) (neg 2147483647)
    ∷ quotient_is (pos 2147483647) (neg 2) (neg 1073741824)
    ∷ quotient_on (neg 2147483648) (neg 2147483648) (neg 1) (neg 1) (fault off_scale)
    -- intervals: least and greatest over the ends
    ∷ quotient_on (neg 7) (pos 7) (pos 2) (pos 3) (value (interval (neg 4) (pos 3)))
    ∷ quotient_on (neg 7) (pos 7) (neg 3) (neg 2) (value (interval (neg 4) (pos 3)))
    ∷ quotient_on (neg 7) (neg 5) (pos 2) (pos 4) (value (interval (neg 4) (neg 2)))
    ∷ quotient_on (pos 5) (pos 7) (neg 4) (neg 2) (value (interval (neg 4) (neg 2)))
    ∷ quotient_on (neg 7) (neg 5) (neg 4) (neg 2) (value (interval (pos 1) (pos 3)))
    ∷ []

-- in a run register 0 starts with a value and is divided by a constant
abbrev pub run_divides : ℤ → ℕ → ℤ → Played
run_divides z divisor q =
    row (with_register lowest 2147483647 (assign 1 1 0 (S.divide (S.reg 0) (S.constant divisor)) ++ halt)) (one 0 0 z) (ends 0 1 ∷ []) (next (one 1 1 q))

unfoldable pub quotient_runs : List Played
quotient_runs =
    run_divides (neg 7) 2 (neg 4)
    ∷ run_divides (pos 7) 2 (pos 3)
    ∷ run_divides (neg 8) 2 (neg 4)
    ∷ run_divides (neg 7) minus_2 (pos 3)
    ∷ run_divides (pos 7) minus_2 (neg 4)
    ∷ run_divides (pos 8) minus_2 (neg 4)
    ∷ []

-- ---- what a quotient is

-- z is not above the fraction a / b, b not 0
abbrev pub NotAbove : ℤ → ℤ → ℤ → Type 0
NotAbove z a (pos n) = (z *ℤ pos n) ≤ℤ a
NotAbove z a (negsuc n) = a ≤ℤ (z *ℤ negsuc n)

-- q is the greatest whole number that is not above the fraction
pub record RoundedDown (a b q : ℤ) : Type 0 where
  pub not_above : NotAbove q a b
  pub greatest : (z : ℤ) → NotAbove z a b → z ≤ℤ q

-- the claim, for every size and every width
pub record RoundsDown : Type 0 where
  pub quotients_hold : Each Holds quotients
  pub quotient_runs_play : Each Plays quotient_runs
  pub rounded_down : (a b : ℤ) → b ≢ pos 0 → RoundedDown a b (quotient a b)
  -- a quotient of two values lies between the least and the greatest over the ends, where the divisor's interval holds no 0
  pub between_ends : (i j : Interval) → holds_zero j ≡ false → (a b : ℤ) → a ∈ i → b ∈ j → quotient a b ∈ hull quotient i j
  -- of the values of a width whose half is n, the lowest by -1 is off the scale, and no other quotient is
  pub lowest_off_scale : (n : ℕ) → 0 < n → calculate n divide (neg n) (neg 1) ≡ fault off_scale
  pub only_lowest : (n : ℕ) (a b : ℤ) → in_range n a ≡ true → calculate n divide a b ≡ fault off_scale → (a ≡ neg n) × (b ≡ neg 1)
  -- so 16 is given where these two are on the intervals and 0 is not on the divisor's; and only there, for intervals that hold
  -- values, the dividend's within the width
  pub with_lowest : (n : ℕ) (i j : Interval) → 0 < n → holds_zero j ≡ false → neg n ∈ i → neg 1 ∈ j → combine n divide i j ≡ fault off_scale
  pub only_with_lowest : (n : ℕ) (i j : Interval) → i.low ≤ℤ i.high → j.low ≤ℤ j.high → fits n i ≡ true → combine n divide i j ≡ fault off_scale
      → (neg n ∈ i) × (neg 1 ∈ j)
