-- What the loop of `writing::put_bytes` keeps.
use Rattle.std.proofs.Common.{take}
use Rattle.writing.specs.Out.{Writes}
use Rattle.writing.proofs.put_bytes.Given as goal

abbrev pub invariant-loop-b : goal.invariant-loop-b
invariant-loop-b l = Writes (take l.b-index l.bytes) l.initial.out l.from l.out l.at
