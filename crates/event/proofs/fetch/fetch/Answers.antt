-- What the search leaves of `event::fetch::fetch`.
use Rattle.std.proofs.Common.{arith}
use Rattle.event.proofs.fetch.Laws.{none-there, index-small, place-head, one-there}
use Rattle.event.proofs.fetch.fetch.Goals as goal

pub returns-else-k-from : goal.returns-else-k-from
returns-else-k-from c = none-there c.requires.0 _ _ c.requires.1 (omega arith) c.none.ensures

pub bounds-places-t : goal.bounds-places-t
bounds-places-t c = rw c.from-k.ensures (index-small c.requires.0 _ _ c.requires.1 (omega arith))

pub fetch_at-requires : goal.fetch_at-requires
fetch_at-requires c = rw (c.from-then-k-from.ensures, c.from-k.ensures) (place-head c.requires.0 _ _ c.requires.1 (omega arith))

pub returns-then-k-from : goal.returns-then-k-from
returns-then-k-from c =
    one-there c.requires.0 _ _ c.requires.1 (omega arith) (rw (c.from-then-k-from.ensures, c.from-k.ensures) at c.fetch_at.ensures)
