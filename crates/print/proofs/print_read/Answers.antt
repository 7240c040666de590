-- What the search leaves of `print::print_read`.
use Rattle.print.proofs.WholeLaws.{text-fits, text-full}
use Rattle.print.proofs.print_read.Goals as goal

pub returns-then-text-written : goal.returns-then-text-written
returns-then-text-written c = text-full _ _ _ _ c.print_program-written.ensures c.if-text-written.true c.refuse.ensures

pub returns : goal.returns
returns c = text-fits _ _ _ _ c.print_program-written.ensures c.if-text-written.false _ _ c.put_zeros.ensures
