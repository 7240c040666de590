-- What the search leaves of `search::whole::search_index`.
use Rattle.event.proofs.PlanLaws.{ready}
use Rattle.search.proofs.WholeLaws.{from_first}
use Rattle.search.proofs.whole.search_index.Goals as goal

pub search-requires : goal.search-requires
search-requires c = (rw c.from-plan.ensures (ready c.args.sheet.now c.args.index c.requires), c.start-first.ensures.timed)

pub returns-clause-result_value : goal.returns-clause-result_value
returns-clause-result_value c =
    from_first c.args.sheet.now c.args.index c.requires c.args.stack.now.slots c.start-first.result c.start-first.ensures.starts
    c.search.ensures.result_value
