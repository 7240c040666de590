-- The definitions that the code of a module goes through: unfolding the module's name here unfolds them all.
use Rattle.rules.specs.Format as rules
use Rattle.field.specs.Header.{header_at}
use Rattle.reader.specs.Index.{index_of}

unfoldable pub parts : Unit {0}
unfolding header_at rules.read_locks rules.due rules.sized rules.has_body rules.need
parts = tt

unfoldable pub walk : Unit {0}
unfolding index_of rules.and_then rules.read_header header_at
walk = tt
