-- What each loop of `convert::whole::lines_at` keeps, and what falls.
use Rattle.convert.proofs.LineByLine.{Loop}
use Prim.Native.Nat.{◌-◌}
use lib.ListN.{length}
use Rattle.convert.proofs.whole.lines_at.Given as goal

abbrev pub invariant-loop-due : goal.invariant-loop-due
invariant-loop-due l = Loop l.s l.p l.initial.out l.target l.initial.w l.out l.w l.q l.due

abbrev pub decreases-loop-due : goal.decreases-loop-due
decreases-loop-due l = length l.s - l.q
