-- What each loop of `scan::words::word_at` keeps.
use Rattle.std.proofs.Common.{◌+◌, ◌≤◌, length, drop}
use Rattle.scan.specs.Reading.{word_here}
use Rattle.scan.proofs.WordLaws.{Rest}
use Rattle.scan.proofs.words.word_at.Given as goal

abbrev pub invariant-loop-k : goal.invariant-loop-k
invariant-loop-k l = (Rest l.w l.s l.k (l.p + l.k) (word_here l.w (drop l.p l.s))) × (l.p + l.k ≤ length l.s)
