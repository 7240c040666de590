-- What the search leaves of `infix::marks::close_group`.
use Rattle.writing.proofs.Written.{none_written}
use mathlib.Core.Path.{refl}
use Rattle.infix.proofs.marks.close_group.Goals as goal

pub returns-else-grouped : goal.returns-else-grouped
returns-else-grouped c =
    rw c.if-grouped.false (refl, none_written _ _)
