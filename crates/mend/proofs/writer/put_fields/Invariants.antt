-- What each loop of `mend::writer::put_fields` keeps, and what falls.
use Rattle.mend.proofs.writer.Laws.{SoFar}
use mathlib.Core.Path.{◌≡◌}
use Rattle.std.specs.Prelude.{IfSome}
use Prim.Native.Nat.{◌-◌, ◌≤◌, ◌<◌}
use lib.ListN.{length}
use Rattle.rules.specs.Constants.{longest_sheet}
use Rattle.mend.specs.Shape.{last_of}
use Rattle.mend.proofs.writer.put_fields.Given as goal

abbrev pub invariant-loop-out : goal.invariant-loop-out
invariant-loop-out l = (l.at ≤ length l.s) × IfSome l.last (λ p. p < length l.s) × (length l.s ≤ longest_sheet) ×
    (length l.out ≡ length l.initial.out) × (length l.list ≡ length l.initial.list) × SoFar l.s l.initial.out l.initial.list l.out
    l.list l.ends (last_of l.last) l.at

abbrev pub decreases-loop-out : goal.decreases-loop-out
decreases-loop-out l = length l.s - l.at
