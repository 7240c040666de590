-- What each loop of `scan::output::put_bytes` keeps.
use Rattle.std.proofs.Common.{◌≡◌, ◌+◌, drop}
use Rattle.std.proofs.lemmas.List.Edits.{sets}
use Rattle.scan.proofs.output.put_bytes.Given as goal

abbrev pub invariant-loop-k : goal.invariant-loop-k
invariant-loop-k l = sets l.out (l.at + l.k) (drop l.k l.bytes) ≡ sets l.initial.out l.at l.bytes
