-- The definitions of the rules that the code of a module goes through: unfolding the module's name here unfolds them all.
use Rattle.rules.specs.Format as rules
use Rattle.field.specs.Header.{header_at}

unfoldable pub fields : Unit {0}
unfolding rules.has_head rules.has_body rules.need rules.due rules.sized rules.header_fits rules.read_locks header_at
fields = tt

unfoldable pub ranges : Unit {0}
unfolding rules.need rules.due rules.sized rules.read_range rules.variable_here
ranges = tt

unfoldable pub operands : Unit {0}
unfolding rules.need rules.map_got rules.exactly rules.read_action rules.length_fits
operands = tt

unfoldable pub statements : Unit {0}
unfolding rules.has_head rules.has_body rules.need rules.map_got rules.times_fit rules.read_contents rules.read_statement rules.statement_here
statements = tt
