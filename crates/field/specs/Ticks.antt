-- A number of ticks as the code's Time.
use Rattle.std.specs.Prelude.{ℕ}
use Rattle.field.specs.declared.ticks.Time.{Time}

abbrev pub tick : ℕ → Time
tick n = record { 0 = n }
