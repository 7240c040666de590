-- What the loop of `mend_main::put_changes` keeps.
use Rattle.std.proofs.Common.{◌+◌, ◌*◌, ◌≤◌, length}
use Rattle.mend_main.proofs.Laws.{Rest}
use Rattle.mend_main.proofs.put_changes.Given as goal

abbrev pub invariant-loop-kind : goal.invariant-loop-kind
invariant-loop-kind l =
    Rest l.pairs l.initial.out l.from l.out l.at l.kind-index
    × (l.from + 22 * length l.pairs ≤ length l.initial.out → l.at ≤ l.from + 22 * l.kind-index)
