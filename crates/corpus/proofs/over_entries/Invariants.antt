use Rattle.corpus.specs.Entries.{Calls}
use Rattle.corpus.proofs.over_entries.Given as goal

abbrev pub invariant-loop : goal.invariant-loop
invariant-loop g l = goal.F-IsAlwaysCallable g l.next × Calls g.F.FnMut l.counter l.initial.next l.initial.from l.initial.so_far l.next l.from l.so_far
