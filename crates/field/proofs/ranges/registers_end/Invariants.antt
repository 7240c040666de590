-- What the loop of `field::ranges::registers_end` keeps: the rules have some registers, and as many are due as the loop has turns left.
use Rattle.std.specs.Prelude.{◌≡◌, List, [], ◌-◌}
use Rattle.rules.specs.Interval.{Interval}
use Rattle.rules.specs.Format.{read_registers}
use Rattle.field.proofs.ranges.registers_end.Given as goal

abbrev pub invariant-loop : goal.invariant-loop
invariant-loop l = (rs : List Interval) × (read_registers l.n [] l.s l.at ≡ read_registers (l.n - l.counter) rs l.s l.end)
