-- What the loop of `writing::put_line` keeps: where the numbers from here on are written behind what is written, all of them are.
use Rattle.std.proofs.Common.{ℕ, List, drop}
use Rattle.writing.specs.Out.{Writes, line_of}
use Rattle.writing.proofs.put_line.Given as goal

abbrev pub invariant-loop-i : goal.invariant-loop-i
invariant-loop-i l =
    (m : List ℕ) (r : ℕ) → Writes (line_of (drop l.i l.numbers)) l.out l.at m r → Writes (line_of l.numbers) l.initial.out l.from m r
