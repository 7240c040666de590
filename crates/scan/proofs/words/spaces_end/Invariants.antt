-- What each loop of `scan::words::spaces_end` keeps.
use Rattle.std.proofs.Common.{◌≡◌, drop}
use Rattle.text.specs.Words.{spaces}
use Rattle.scan.proofs.words.spaces_end.Given as goal

abbrev pub invariant-loop-q : goal.invariant-loop-q
invariant-loop-q l = spaces (drop l.q l.s) ≡ spaces (drop l.p l.s)
