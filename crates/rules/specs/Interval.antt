-- Intervals of whole numbers, and arithmetic on values and on intervals, for any width; 01 takes 32 bits.
use Rattle.std.specs.Prelude.{Bool, false, ◌&&◌, ℕ, zero, suc, ◌/◌, ℤ, pos, negsuc, neg_ℤ, ◌+ℤ◌, ◌-ℤ◌, ◌*ℤ◌, ◌≤ℤ◌, if◌then◌else◌}
use Rattle.std.specs.Int.Signed.{le_z, lt_z}
use Rattle.rules.specs.Refusal.{Result, value, fault, no_reading, off_scale}

pub record Interval : Type 0 where
  pub low : ℤ
  pub high : ℤ

abbrev pub interval : ℤ → ℤ → Interval
interval a b = record { low = a; high = b }

-- a value on an interval
infix 4 ◌∈◌
pub record ◌∈◌ (z : ℤ) (i : Interval) : Type 0 where
  pub low : i.low ≤ℤ z
  pub high : z ≤ℤ i.high

unfoldable pub min_z : ℤ → ℤ → ℤ
min_z a b = if le_z a b then a else b

unfoldable pub max_z : ℤ → ℤ → ℤ
max_z a b = if le_z a b then b else a

unfoldable pub eq_z : ℤ → ℤ → Bool
eq_z a b = le_z a b && le_z b a

-- the values of a signed width, whose half is n: from -n up to n less 1
unfoldable pub in_range : ℕ → ℤ → Bool
in_range n z = le_z (neg_ℤ (pos n)) z && lt_z z (pos n)

-- ---- operators

pub data Operator : Type 0 where
  plus minus times divide : Operator

-- a number divided by n, n above 0, and rounded down. A number below 0 is -1 - a (`negsuc a`), and gives -1 - (the whole part of
-- a / n)
unfoldable pub floor_div : ℤ → ℕ → ℤ
floor_div (pos a) n = pos (a / n)
floor_div (negsuc a) n = negsuc (a / n)

-- 02, ticket 5: "The new board's divide goes toward minus infinity", where 01 dropped the fraction toward zero. By a divisor below
-- 0 both signs are changed. By 0 there is no result, and 0 stands here
unfoldable pub quotient : ℤ → ℤ → ℤ
quotient a (pos zero) = pos 0
quotient a (pos (suc n)) = floor_div a (suc n)
quotient a (negsuc n) = floor_div (neg_ℤ a) (suc n)

unfoldable pub operate : Operator → ℤ → ℤ → ℤ
operate plus a b = a +ℤ b
operate minus a b = a -ℤ b
operate times a b = a *ℤ b
operate divide a b = quotient a b

-- ---- on values: "A zero divisor or a result outside [the width's values] has no result." Which of the two is told (02, ticket 1):
-- "for a divide, zero before size"

unfoldable pub divides_by_zero : Operator → ℤ → Bool
divides_by_zero plus b = false
divides_by_zero minus b = false
divides_by_zero times b = false
divides_by_zero divide b = eq_z b (pos 0)

unfoldable pub calculate : ℕ → Operator → ℤ → ℤ → Result ℤ
calculate n o a b =
    let z = operate o a b in
    if divides_by_zero o b then fault no_reading
    else if in_range n z then value z
    else fault off_scale

-- ---- on intervals: "Arithmetic takes least and greatest over the interval ends"

unfoldable pub hull : (ℤ → ℤ → ℤ) → Interval → Interval → Interval
hull f i j =
    let a = f i.low j.low in
    let b = f i.low j.high in
    let c = f i.high j.low in
    let d = f i.high j.high in
    interval (min_z (min_z a b) (min_z c d)) (max_z (max_z a b) (max_z c d))

unfoldable pub holds_zero : Interval → Bool
holds_zero i = le_z i.low (pos 0) && le_z (pos 0) i.high

unfoldable pub may_divide_by_zero : Operator → Interval → Bool
may_divide_by_zero plus j = false
may_divide_by_zero minus j = false
may_divide_by_zero times j = false
may_divide_by_zero divide j = holds_zero j

-- both ends are values of the width
unfoldable pub fits : ℕ → Interval → Bool
fits n i = in_range n i.low && in_range n i.high

-- 16, where not: "a result off the 32-bit values becomes its own number"
unfoldable pub within : ℕ → Interval → Result Interval
within n i = if fits n i then value i else fault off_scale

-- 10: "a divisor that may be 0"; "for a divide, zero before size"
unfoldable pub combine : ℕ → Operator → Interval → Interval → Result Interval
combine n o i j = if may_divide_by_zero o j then fault no_reading else within n (hull (operate o) i j)

-- ---- the common part of two intervals, and the least interval round both

unfoldable pub meet : Interval → Interval → Interval
meet i j = interval (max_z i.low j.low) (min_z i.high j.high)

unfoldable pub join : Interval → Interval → Interval
join i j = interval (min_z i.low j.low) (max_z i.high j.high)
