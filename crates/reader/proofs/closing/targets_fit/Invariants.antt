-- What the loop of `reader::closing::targets_fit` keeps: the targets up to the place fit.
use Rattle.std.specs.Prelude.{◌≡◌, length, drop}
use Rattle.reader.specs.Index.{targets_at}
use Rattle.reader.proofs.closing.targets_fit.Given as goal

abbrev pub invariant-loop-place : goal.invariant-loop-place
invariant-loop-place l = targets_at l.s (length l.places) l.places ≡ targets_at l.s (length l.places) (drop l.place-index l.places)
