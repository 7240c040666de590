-- What each loop of `mend::place::original_place` keeps, and what falls.
use Rattle.mended.specs.Mend.{mend_from, mended, original}
use Rattle.mended.proofs.Applied.{EndsAt}
use mathlib.Core.Path.{◌≡◌}
use Prim.Native.Nat.{◌-◌, ◌≤◌}
use lib.ListN.{length}
use Rattle.rules.specs.Constants.{longest_sheet}
use Rattle.mend.specs.Shape.{last_of}
use Rattle.mend.proofs.place.original_place.Given as goal

abbrev pub invariant-loop-q : goal.invariant-loop-q
invariant-loop-q l = (l.at ≤ length l.s) × (length l.s ≤ longest_sheet) × EndsAt l.s l.at (last_of l.last) ×
    (original l.s (mend_from (last_of l.last) l.s l.at).changes l.p ≡ original l.s (mended l.s).changes l.place)

abbrev pub decreases-loop-q : goal.decreases-loop-q
decreases-loop-q l = length l.s - l.at
