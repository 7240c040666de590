-- What the search leaves of `event::act::act`.
use Rattle.std.proofs.Common.{rules, ◌≡◌, Err, refl}
use Rattle.rules.specs.Search.{effect}
use Rattle.field.specs.declared.decoding.Action.TheVariants.{Halt, Skip, Assign, Branch, Store, Load, Unlock, Lock}
use Rattle.reader.specs.Facts.{program_in}
use Rattle.state.specs.Access.{thread_at}
use Rattle.state.specs.Cells.{decode}
use Rattle.state.specs.Shape.{sizes_of}
use Rattle.state.proofs.Shape.{sizes-regs}
use Rattle.event.specs.Fetch.{names_of}
use Rattle.event.proofs.PushLaws.{none-pushed}
use Rattle.event.proofs.fetch.Asks.{fetched, sizes-are, skip-asks, assign-asks, branch-asks, store_asks, load_asks, unlock-asks, lock-asks}
use Rattle.event.proofs.act.act.Goals as goal

pub skip-requires : goal.skip-requires
skip-requires c =
    let v = c.args.v in
    record {
      ticks = c.requires.ticks;
      live = skip-asks c.args.sheet.now v.thread v.registers (thread_at (decode c.args.cells.now) v.thread).at c.requires.fetched.0 c.args.f c.requires.program c.requires.fetched.1 c.in-Skip.is;
    }

pub assign-requires : goal.assign-requires
assign-requires c =
    let v = c.args.v in
    let x = c.in-Assign in
    let a = assign-asks c.args.sheet.now v.thread v.registers (thread_at (decode c.args.cells.now) v.thread).at c.requires.fetched.0 c.args.f c.requires.program c.requires.fetched.1 x.register x.at x.end x.is in
    record { ticks = c.requires.ticks; live = a.0; register = a.1.0; few = a.1.1.0; inside = a.1.1.1 }

pub branch-sheet-requires : goal.branch-sheet-requires
branch-sheet-requires c =
    let v = c.args.v in
    let x = c.in-Branch in
    let a = branch-asks c.args.sheet.now v.thread v.registers (thread_at (decode c.args.cells.now) v.thread).at c.requires.fetched.0 c.args.f c.requires.program c.requires.fetched.1 x.target x.at x.end x.is in
    record { ticks = c.requires.ticks; live = a.0; target = a.1.0; few = a.1.1.0; inside = a.1.1.1 }

pub store-requires : goal.store-requires
store-requires c =
    let v = c.args.v in
    let x = c.in-Store in
    let a = store_asks c.args.sheet.now v.thread v.registers (thread_at (decode c.args.cells.now) v.thread).at c.requires.fetched.0 c.args.f c.requires.program c.requires.fetched.1 x.register x.variable x.is in
    record { ticks = c.requires.ticks; live = a.0; register = a.1.0; variable = a.1.1 }

pub load-requires : goal.load-requires
load-requires c =
    let v = c.args.v in
    let x = c.in-Load in
    let a = load_asks c.args.sheet.now v.thread v.registers (thread_at (decode c.args.cells.now) v.thread).at c.requires.fetched.0 c.args.f c.requires.program c.requires.fetched.1 x.register x.variable x.is in
    record { ticks = c.requires.ticks; live = a.0; register = a.1.0; variable = a.1.1 }

pub unlock-requires : goal.unlock-requires
unlock-requires c =
    let v = c.args.v in
    let a = unlock-asks c.args.sheet.now v.thread v.registers (thread_at (decode c.args.cells.now) v.thread).at c.requires.fetched.0 c.args.f c.requires.program c.requires.fetched.1 c.in-Unlock.l c.in-Unlock.is in
    record { ticks = c.requires.ticks; live = a.0; lock = a.1 }

pub lock-requires : goal.lock-requires
lock-requires c =
    let v = c.args.v in
    let a = lock-asks c.args.sheet.now v.thread v.registers (thread_at (decode c.args.cells.now) v.thread).at c.requires.fetched.0 c.args.f c.requires.program c.requires.fetched.1 c.in-Lock.l c.in-Lock.is in
    record { ticks = c.requires.ticks; live = a.0; lock = a.1 }

pub returns-in-Halt-clause-leaves : goal.returns-in-Halt-clause-leaves
unfolding effect
returns-in-Halt-clause-leaves c =
    let sheet = c.args.sheet.now in
    let v = c.args.v in
    let g = program_in sheet in
    λ x w.
    let m = fetched sheet (names_of g v.thread) (thread_at (decode c.args.cells.now) v.thread).at x c.args.f Halt w c.in-Halt.is in
    rw m (refl, none-pushed c.args.stack.now.high)

pub returns-in-Skip-clause-leaves : goal.returns-in-Skip-clause-leaves
unfolding effect
returns-in-Skip-clause-leaves c =
    let sheet = c.args.sheet.now in
    let v = c.args.v in
    let g = program_in sheet in
    λ x w.
    let m = fetched sheet (names_of g v.thread) (thread_at (decode c.args.cells.now) v.thread).at x c.args.f Skip w c.in-Skip.is in
    rw (m, ← sizes-are sheet v.thread v.registers c.requires.program) (refl, c.skip.ensures.grows (sizes_of g))

pub returns-in_ok-assign-in-Assign-clause-leaves : goal.returns-in_ok-assign-in-Assign-clause-leaves
returns-in_ok-assign-in-Assign-clause-leaves c =
    let sheet = c.args.sheet.now in
    let v = c.args.v in
    let g = program_in sheet in
    λ x w.
    let m = fetched sheet (names_of g v.thread) (thread_at (decode c.args.cells.now) v.thread).at x c.args.f (Assign c.in-Assign.register c.in-Assign.at c.in-Assign.end) w c.in-Assign.is in
    rw m.1.0 (c.in_ok-assign-in-Assign.ensures.leaves (sizes_of g) m.0 (sizes-are sheet v.thread v.registers c.requires.program) (rw c.requires.program.registers m.1.1.1.1))

pub returns-in_err-assign-in-Assign-clause-leaves : goal.returns-in_err-assign-in-Assign-clause-leaves
returns-in_err-assign-in-Assign-clause-leaves c =
    let sheet = c.args.sheet.now in
    let v = c.args.v in
    let g = program_in sheet in
    let refused : c.from_residual.result ≡ Err c.in_err-assign-in-Assign.field-0.0 = search rules in
    λ x w.
    let m = fetched sheet (names_of g v.thread) (thread_at (decode c.args.cells.now) v.thread).at x c.args.f (Assign c.in-Assign.register c.in-Assign.at c.in-Assign.end) w c.in-Assign.is in
    rw (refused, m.1.0) (c.in_err-assign-in-Assign.ensures.leaves (sizes_of g) m.0 (sizes-are sheet v.thread v.registers c.requires.program) (rw c.requires.program.registers m.1.1.1.1))

pub returns-in_ok-branch-in-Branch-clause-leaves : goal.returns-in_ok-branch-in-Branch-clause-leaves
returns-in_ok-branch-in-Branch-clause-leaves c =
    let sheet = c.args.sheet.now in
    let v = c.args.v in
    let g = program_in sheet in
    λ x w.
    let m = fetched sheet (names_of g v.thread) (thread_at (decode c.args.cells.now) v.thread).at x c.args.f (Branch c.in-Branch.target c.in-Branch.at c.in-Branch.end) w c.in-Branch.is in
    rw m.1.0 (c.in_ok-branch-in-Branch.ensures.leaves (sizes_of g) m.0 (sizes-are sheet v.thread v.registers c.requires.program) (rw c.requires.program.registers m.1.1.1.1))

pub returns-in_err-branch-in-Branch-clause-leaves : goal.returns-in_err-branch-in-Branch-clause-leaves
returns-in_err-branch-in-Branch-clause-leaves c =
    let sheet = c.args.sheet.now in
    let v = c.args.v in
    let g = program_in sheet in
    let refused : c.from_residual-in_err-branch-in-Branch.result ≡ Err c.in_err-branch-in-Branch.field-0.0 = search rules in
    λ x w.
    let m = fetched sheet (names_of g v.thread) (thread_at (decode c.args.cells.now) v.thread).at x c.args.f (Branch c.in-Branch.target c.in-Branch.at c.in-Branch.end) w c.in-Branch.is in
    rw (refused, m.1.0) (c.in_err-branch-in-Branch.ensures.leaves (sizes_of g) m.0 (sizes-are sheet v.thread v.registers c.requires.program) (rw c.requires.program.registers m.1.1.1.1))

pub returns-in-Store-clause-leaves : goal.returns-in-Store-clause-leaves
returns-in-Store-clause-leaves c =
    let sheet = c.args.sheet.now in
    let v = c.args.v in
    let g = program_in sheet in
    λ x w.
    let m = fetched sheet (names_of g v.thread) (thread_at (decode c.args.cells.now) v.thread).at x c.args.f (Store c.in-Store.register c.in-Store.variable) w c.in-Store.is in
    rw (m.0, ← sizes-are sheet v.thread v.registers c.requires.program) (c.store.ensures.leaves (sizes_of g) (rw (sizes-regs g v.thread) m.1.0))

pub returns-in-Load-clause-leaves : goal.returns-in-Load-clause-leaves
unfolding sizes_of
returns-in-Load-clause-leaves c =
    let sheet = c.args.sheet.now in
    let v = c.args.v in
    let g = program_in sheet in
    λ x w.
    let m = fetched sheet (names_of g v.thread) (thread_at (decode c.args.cells.now) v.thread).at x c.args.f (Load c.in-Load.register c.in-Load.variable) w c.in-Load.is in
    rw (m.0, ← sizes-are sheet v.thread v.registers c.requires.program) (c.load.ensures.leaves (sizes_of g) m.1.1)

pub returns-in-Unlock-clause-leaves : goal.returns-in-Unlock-clause-leaves
unfolding sizes_of
returns-in-Unlock-clause-leaves c =
    let sheet = c.args.sheet.now in
    let v = c.args.v in
    let g = program_in sheet in
    λ x w.
    let m = fetched sheet (names_of g v.thread) (thread_at (decode c.args.cells.now) v.thread).at x c.args.f (Unlock c.in-Unlock.l) w c.in-Unlock.is in
    rw (m.0, ← sizes-are sheet v.thread v.registers c.requires.program) (c.unlock.ensures.leaves (sizes_of g) m.1)

pub returns-in-Lock-clause-leaves : goal.returns-in-Lock-clause-leaves
unfolding sizes_of
returns-in-Lock-clause-leaves c =
    let sheet = c.args.sheet.now in
    let v = c.args.v in
    let g = program_in sheet in
    λ x w.
    let m = fetched sheet (names_of g v.thread) (thread_at (decode c.args.cells.now) v.thread).at x c.args.f (Lock c.in-Lock.l) w c.in-Lock.is in
    rw (m.0, ← sizes-are sheet v.thread v.registers c.requires.program) (c.lock.ensures.leaves (sizes_of g) m.1)
