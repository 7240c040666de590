-- What the search leaves of `print::threads::print_statements`.
use mathlib.Core.Path.{sym, ◌∙◌}
use native.Mathlib.Omega.{arith}
use Rattle.rules.specs.Program.{no_statement}
use Rattle.reader.specs.Facts.{program_in, thread_in}
use Rattle.print.specs.Texts.{statement_text}
use Rattle.print.proofs.RowLaws.{row-turn, row_done}
use Rattle.print.proofs.IndexLaws.{threads_few, count_is, index-small, stands, place_is, place_inside}
use Rattle.print.proofs.threads.print_statements.Goals as goal

pub offset_bounds-index-t : goal.offset_bounds-index-t
offset_bounds-index-t c =
    omega (arith, threads_few c.args.s.now c.args.index.now c.requires.0, c.requires.1)

pub bounds-index-t : goal.bounds-index-t
bounds-index-t c =
    let arg = c.args in
    omega (arith, threads_few arg.s.now arg.index.now c.requires.0, c.requires.1)

pub bounds-index-t-in-loop-k : goal.bounds-index-t-in-loop-k
bounds-index-t-in-loop-k c =
    let arg = c.args in
    index-small arg.s.now arg.index.now c.requires.0 arg.t c.requires.1 c.loop-k.k (rw c.from-k-end.ensures at c.loop-k-test.true)

pub print_statement-at-requires : goal.print_statement-at-requires
print_statement-at-requires c =
    let arg = c.args in
    rw c.from-place.ensures
    (place_inside arg.s.now arg.index.now c.requires.0 arg.t c.requires.1 c.loop-k.k (rw c.from-k-end.ensures at c.loop-k-test.true))

pub loop-k-preserved : goal.loop-k-preserved
loop-k-preserved c =
    let arg = c.args in
    let w = c.requires.0 in
    let r = c.requires.1 in
    let k = c.loop-k.k in
    let more = rw c.from-k-end.ensures at c.loop-k-test.true in
    let count = count_is arg.s.now arg.index.now w arg.t r in
    let told = c.print_statement-at.ensures _ _ (c.from-place.ensures ∙ place_is arg.s.now arg.index.now w arg.t r k more)
    (stands arg.s.now arg.index.now w arg.t r k more) in
    c.loop-k.invariant
    ∙ row-turn statement_text no_statement (thread_in (program_in arg.s.now) arg.t).statements k _ _ _ _ (omega arith) told

pub returns : goal.returns
returns c =
    let arg = c.args in
    let count = count_is arg.s.now arg.index.now c.requires.0 arg.t c.requires.1 in
    let past = rw c.from-k-end.ensures at c.loop-k-test.false in
    sym (c.loop-k.invariant ∙ row_done statement_text (thread_in (program_in arg.s.now) arg.t).statements c.loop-k.k _ (omega arith))
