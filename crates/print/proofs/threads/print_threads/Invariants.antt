-- What the loop of `print::threads::print_threads` keeps.
use mathlib.Core.Path.{◌≡◌}
use lib.ListN.{drop}
use Rattle.rules.specs.Encoding.{in_row}
use Rattle.reader.specs.Facts.{program_in}
use Rattle.writing.specs.Out.{out_of, write}
use Rattle.print.specs.Texts.{thread_text}
use Rattle.print.proofs.threads.print_threads.Given as goal

abbrev pub invariant-loop-t : goal.invariant-loop-t
invariant-loop-t l =
    write (in_row thread_text (program_in l.s).threads) (out_of l.initial.out l.from)
    ≡ write (in_row thread_text (drop l.t (program_in l.s).threads)) (out_of l.out l.at)
