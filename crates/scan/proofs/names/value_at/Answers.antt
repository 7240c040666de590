-- What the search leaves of `scan::names::value_at`.
use Rattle.std.proofs.Common.{arith}
use Rattle.text.specs.Words.{map_read, signed, signed_here, digits}
use Rattle.scan.proofs.WordLaws.{here, over}
use Rattle.scan.proofs.Readings.{map-map}
use Rattle.scan.proofs.names.value_at.Goals as goal

pub returns-in-Some-eq45-clause-reads : goal.returns-in-Some-eq45-clause-reads
unfolding signed signed_here map_read
returns-in-Some-eq45-clause-reads c =
    let r = c.negated.ensures.reads _ _ c.number_at.ensures.reads in
    grind (arith, here, map-map)

pub returns-in_default-clause-reads : goal.returns-in_default-clause-reads
unfolding signed signed_here map_read digits
returns-in_default-clause-reads c =
    let r = c.positive.ensures.reads _ _ c.digits_at.ensures.reads in
    grind (arith, here, over, map-map)
