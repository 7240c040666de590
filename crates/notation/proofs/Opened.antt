-- Definitions that the goals of a function are opened by, together under one name.
use Rattle.text.specs.Words.{then_read, map_read, following, whole, or_none, or_whole, spell}
use Rattle.text.specs.Notation.{linked, link, on_link, products, sums, comparisons, conjunctions, from_left, operand, closed, too_deep, first, comparison, thing, read_test}
use Rattle.scan.specs.Writing.{Builds}
use Rattle.notation.specs.Forms.{op_of, operation_of, rel_of, both_of, ops_at}

unfoldable pub signs : Unit {0}
unfolding link linked products sums comparisons conjunctions following whole or_none or_whole spell op_of operation_of rel_of both_of ops_at
signs = tt

unfoldable pub operands : Unit {0}
unfolding Builds from_left then_read
operands = tt

unfoldable pub parentheses : Unit {0}
unfolding Builds closed then_read
parentheses = tt

unfoldable pub factors : Unit {0}
unfolding Builds operand too_deep closed then_read
factors = tt

unfoldable pub compared : Unit {0}
unfolding Builds comparison on_link map_read
compared = tt

unfoldable pub firsts : Unit {0}
unfolding Builds first too_deep closed then_read
firsts = tt

unfoldable pub things : Unit {0}
unfolding Builds thing then_read
things = tt

unfoldable pub tests : Unit {0}
unfolding Builds read_test then_read
tests = tt
