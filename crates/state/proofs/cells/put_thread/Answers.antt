-- What the search leaves of `state::cells::put_thread`.
use Rattle.state.proofs.Writing.{thread-written}
use Rattle.state.proofs.cells.put_thread.Goals as goal

pub returns : goal.returns
returns c = thread-written c.args.cells.now _ _ c.args.th c.requires.0 c.put_stand.ensures c.put_spans.ensures
