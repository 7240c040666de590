-- The worked sheets, by computing what they read as and how it is printed.
use mathlib.Core.Path.{refl}
use Rattle.rules.specs.Base.{Each, nil, ◌&◌}
use Rattle.rules.proofs.Compute.{every-rule}
use Rattle.text.specs.Says as S
use Rattle.text.specs.Worked.{repeated}
use Rattle.printed.specs.Print as P
use Rattle.printed.specs.Worked.{to_the_right, to_the_left, rows, Holds}

-- to name it on an `unfolding` line is to unfold how a program is printed
unfoldable every-print : Unit {0}
unfolding S.each S.statement_line_of S.thread_lines S.lines_of P.print_value P.in_parentheses P.print_arith P.print_condition P.print_range P.print_action P.print_times P.print_line P.ended P.print_header P.print P.written_into P.printed P.print_sheet
every-print = tt

pub rows_hold : Each Holds rows
unfolding rows repeated to_the_right to_the_left every-print every-rule
rows_hold =
    refl & refl & refl & refl & refl & refl & refl & refl & refl & refl & refl & refl & refl & refl & refl & refl & refl & refl & refl & refl & refl &
    refl & refl & refl & refl & refl & refl & refl & refl & refl & refl & refl & refl & refl & refl & refl & refl & refl & refl & refl &
    refl & refl & nil
