-- Definitions that the goals of a function are opened by, together under one name.
use Rattle.text.specs.Words.{then_read, map_read, numeral, digits, keyword, symbol, name, newline, line_end}
use Rattle.text.specs.Lines.{word_only}

unfoldable pub numbers : Unit {0}
unfolding numeral digits map_read
numbers = tt

unfoldable pub names : Unit {0}
unfolding name then_read map_read
names = tt

unfoldable pub only_words : Unit {0}
unfolding word_only keyword symbol then_read
only_words = tt

unfoldable pub line_ends : Unit {0}
unfolding line_end newline
line_ends = tt
