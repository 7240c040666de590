-- What the search leaves of `print::threads::print_threads`.
use Rattle.std.proofs.Common.{arith, sym, ◌∙◌}
use Rattle.rules.specs.Program.{no_thread}
use Rattle.reader.specs.Facts.{program_in}
use Rattle.print.specs.Texts.{thread_text}
use Rattle.print.proofs.RowLaws.{row-turn, row_done}
use Rattle.print.proofs.IndexLaws.{index_is}
use Rattle.print.proofs.threads.print_threads.Goals as goal

pub loop-t-preserved : goal.loop-t-preserved
loop-t-preserved c =
    let s = c.args.s.now in
    let count = (index_is s c.args.index.now c.requires).threads in
    let more = c.loop-t-test.true in
    c.loop-t.invariant
    ∙ row-turn thread_text no_thread (program_in s).threads c.loop-t.t _ _ _ _ (omega arith) c.print_thread-at.ensures

pub returns : goal.returns
returns c =
    let s = c.args.s.now in
    let count = (index_is s c.args.index.now c.requires).threads in
    let past = c.loop-t-test.false in
    sym (c.loop-t.invariant ∙ row_done thread_text (program_in s).threads c.loop-t.t _ (omega arith))
