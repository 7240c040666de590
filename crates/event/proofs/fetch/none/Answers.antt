-- What the search leaves of `event::fetch::none`.
use Rattle.event.proofs.fetch.Laws.{none-fetches}
use Rattle.event.proofs.fetch.none.Goals as goal

pub returns : goal.returns
returns c =
    none-fetches
