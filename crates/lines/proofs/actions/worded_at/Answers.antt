-- What the search leaves of `lines::actions::worded_at`.
use Rattle.lines.proofs.DispatchLaws.{store-names, load-names, unlock-name, lock-name}
use Rattle.rules.specs.Program.{store, load, unlock, lock}
use Rattle.lines.proofs.actions.worded_at.Goals as goal

pub returns-in-Store-clause-acts : goal.returns-in-Store-clause-acts
returns-in-Store-clause-acts c = rw c.in-Store.is (c.transfer_at.ensures.by_index store store-names)

pub returns-in-Load-clause-acts : goal.returns-in-Load-clause-acts
returns-in-Load-clause-acts c = rw c.in-Load.is (c.transfer_at-in-Load.ensures.by_index load load-names)

pub returns-in-Unlock-clause-acts : goal.returns-in-Unlock-clause-acts
returns-in-Unlock-clause-acts c = rw c.in-Unlock.is (c.locking_at.ensures.by_index unlock unlock-name)

pub returns-in-Lock-clause-acts : goal.returns-in-Lock-clause-acts
returns-in-Lock-clause-acts c = rw c.in-Lock.is (c.locking_at-in-Lock.ensures.by_index lock lock-name)
