-- What the search leaves of `infix::marks::open_group`.
use Rattle.writing.proofs.Written.{none_written}
use Rattle.infix.proofs.marks.open_group.Goals as goal

pub returns-else-grouped : goal.returns-else-grouped
returns-else-grouped c =
    rw c.if-grouped.false (none_written _ _)
