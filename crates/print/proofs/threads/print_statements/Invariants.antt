-- What the loop of `print::threads::print_statements` keeps.
use mathlib.Core.Path.{◌≡◌}
use lib.ListN.{drop}
use Rattle.rules.specs.Encoding.{in_row}
use Rattle.reader.specs.Facts.{program_in, thread_in}
use Rattle.writing.specs.Out.{out_of, write}
use Rattle.print.specs.Texts.{statement_text}
use Rattle.print.proofs.threads.print_statements.Given as goal

abbrev pub invariant-loop-k : goal.invariant-loop-k
invariant-loop-k l =
    write (in_row statement_text (thread_in (program_in l.s) l.t).statements) (out_of l.initial.out l.from)
    ≡ write (in_row statement_text (drop l.k (thread_in (program_in l.s) l.t).statements)) (out_of l.out l.at)
