-- What the search leaves of `record::act::act`.
use Rattle.std.specs.Prelude.{Ok}
use Rattle.record.proofs.act.Laws.{skip-asked, assign-asked, branch-asked, store-asked, load-asked, unlock-asked, lock-asked, halt-out, skip-acts, assign-acts, branch-acts, store-acts, load-acts, unlock-acts, lock-acts}
use Rattle.record.proofs.act.act.Goals as goal

pub skip-requires : goal.skip-requires
skip-requires c = skip-asked c.args.x c.args.v c.requires.0 c.requires.1.1 c.in-Skip.is

pub returns-in-Skip : goal.returns-in-Skip
returns-in-Skip c = λ s w l. skip-acts c.args.x c.args.v c.requires.0 w (Ok c.skip.result) c.in-Skip.is c.skip.ensures

pub assign-requires : goal.assign-requires
assign-requires c = assign-asked c.args.x c.args.v c.requires.0 c.requires.1.1 c.in-Assign.is

pub returns-in-Assign : goal.returns-in-Assign
returns-in-Assign c = λ s w l. assign-acts c.args.x c.args.v c.requires.0 w c.assign.result c.in-Assign.is c.assign.ensures

pub branch-sheet-requires : goal.branch-sheet-requires
branch-sheet-requires c = branch-asked c.args.x c.args.v c.requires.0 c.requires.1.1 c.in-Branch.is

pub returns-in-Branch : goal.returns-in-Branch
returns-in-Branch c = λ s w l. branch-acts c.args.x c.args.v c.requires.0 w c.branch-sheet.result c.in-Branch.is c.branch-sheet.ensures

pub store-requires : goal.store-requires
store-requires c = store-asked c.args.x c.args.v c.requires.0 c.requires.1.1 c.in-Store.is

pub returns-in-Store : goal.returns-in-Store
returns-in-Store c = λ s w l. store-acts c.args.x c.args.v c.requires.0 w (Ok c.store.result) c.in-Store.is c.store.ensures

pub load-requires : goal.load-requires
load-requires c = load-asked c.args.x c.args.v c.requires.0 c.requires.1.1 c.in-Load.is

pub returns-in-Load : goal.returns-in-Load
returns-in-Load c = λ s w l. load-acts c.args.x c.args.v c.requires.0 w (Ok c.load.result) c.in-Load.is c.load.ensures

pub unlock-requires : goal.unlock-requires
unlock-requires c = unlock-asked c.args.x c.args.v c.requires.0 c.requires.1.1 c.in-Unlock.is

pub returns-in-Unlock : goal.returns-in-Unlock
returns-in-Unlock c = λ s w l. unlock-acts c.args.x c.args.v c.requires.0 w (Ok c.unlock.result) c.in-Unlock.is c.unlock.ensures

pub lock-requires : goal.lock-requires
lock-requires c = lock-asked c.args.x c.args.v c.requires.0 c.requires.1.1 c.in-Lock.is

pub returns-in-Lock : goal.returns-in-Lock
returns-in-Lock c = λ s w l. lock-acts c.args.x c.args.v c.requires.0 w (Ok c.lock.result) c.in-Lock.is c.lock.ensures

pub returns-in-Halt : goal.returns-in-Halt
returns-in-Halt c = λ s w l. absurd (halt-out c.args.x c.args.v c.requires.0 w c.in-Halt.is l)
