-- What the loop of `writing::put_copies` keeps.
use Rattle.std.proofs.Common.{◌≤◌, ◌-◌, length, replicate}
use Rattle.writing.specs.Out.{Writes}
use Rattle.writing.proofs.put_copies.Given as goal

abbrev pub invariant-loop-i : goal.invariant-loop-i
invariant-loop-i g l = (l.i - l.from ≤ length l.initial.out - l.from) × Writes (replicate (l.i - l.from) l.value) l.initial.out l.from l.out l.i
