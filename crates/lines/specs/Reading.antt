-- What the code reads of a line, as the rules' own reading of the bytes that are left.
use Rattle.std.specs.Prelude.{Bool, ℕ, Result, Ok, Err, drop, if◌then◌else◌}
use Rattle.rules.specs.Format.{Bytes}
use Rattle.text.specs.Words.{Read, stop, took, map_read, number, signed}
use Rattle.scan.specs.Reading.{capped, value_code}
use Rattle.lines.specs.declared.ranges.Pair.{Pair}

-- one end of a range: kept up to the bound, or as a value's 32 bits
abbrev pub one_end : Bool → Bytes → Read ℕ
one_end minus t = if minus then map_read value_code (signed t) else map_read capped (number t)

abbrev pub pair : ℕ → ℕ → ℕ × ℕ
pair a b = (a, b)

-- the code's numbers stand for what f says
abbrev pub pair_of : {A : Type 0} → (ℕ → ℕ → A) → Bytes → Result Pair ℕ → Read A
pair_of f s (Ok x) = took (f x.low x.high) (drop x.place s)
pair_of f s (Err q) = stop (drop q s)

abbrev pub pair_place : Result Pair ℕ → ℕ
pair_place (Ok x) = x.place
pair_place (Err q) = q
