-- What the loop of `print::rows::print_ranges` keeps.
use mathlib.Core.Path.{◌≡◌}
use Prim.Native.Nat.{◌+◌, ◌-◌, ◌*◌}
use Rattle.rules.specs.Encoding.{in_row}
use Rattle.reader.specs.Facts.{ranges}
use Rattle.writing.specs.Out.{out_of, write}
use Rattle.print.specs.Texts.{range_text}
use Rattle.print.proofs.rows.print_ranges.Given as goal

abbrev pub invariant-loop-i : goal.invariant-loop-i
invariant-loop-i l =
    write (in_row (range_text l.word) (ranges l.s l.place l.n)) (out_of l.initial.out l.from)
    ≡ write (in_row (range_text l.word) (ranges l.s (l.place + 11 * l.i) (l.n - l.i))) (out_of l.out l.at)
