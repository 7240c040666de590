-- What the search leaves of `print::threads::print_thread`.
use Rattle.writing.proofs.Written.{then-writes, same_text}
use native.Mathlib.Omega.{arith}
use Rattle.print.proofs.IndexLaws.{threads_few, registers-room, thread-whole}
use Rattle.print.proofs.threads.print_thread.Goals as goal

pub offset_bounds-index-t : goal.offset_bounds-index-t
offset_bounds-index-t c =
    omega (arith, threads_few c.args.s.now c.args.index.now c.requires.0, c.requires.1)

pub bounds-index-t : goal.bounds-index-t
bounds-index-t c =
    let arg = c.args in
    omega (arith, threads_few arg.s.now arg.index.now c.requires.0, c.requires.1)

pub print_ranges-second-requires : goal.print_ranges-second-requires
print_ranges-second-requires c =
    let arg = c.args in
    rw (c.from-place.ensures, c.from.ensures) (registers-room arg.s.now arg.index.now c.requires.0 arg.t c.requires.1)

pub returns : goal.returns
returns c =
    let arg = c.args in
    same_text _ _ _ _ _ _ (thread-whole arg.s.now arg.index.now c.requires.0 arg.t c.requires.1)
    (then-writes _ _ _ _ _ _ _ _ c.put_bytes-first.ensures
    (then-writes _ _ _ _ _ _ _ _ (rw (c.from-place.ensures, c.from.ensures) at c.print_ranges-second.ensures) c.print_statements.ensures))
