-- What the search leaves of `print::whole::print_program`.
use Rattle.writing.proofs.Written.{then-writes, same_text}
use Rattle.print.proofs.IndexLaws.{variables-room}
use Rattle.print.proofs.WholeLaws.{program-text}
use Rattle.print.proofs.whole.print_program.Goals as goal

pub print_ranges-threads-requires : goal.print_ranges-threads-requires
print_ranges-threads-requires c = variables-room c.args.sheet.now c.args.index.now c.requires

pub returns : goal.returns
returns c =
    same_text _ _ _ _ _ _ (program-text c.args.sheet.now c.args.index.now c.requires)
    (then-writes _ _ _ _ _ _ _ _ c.print_head-variables.ensures
    (then-writes _ _ _ _ _ _ _ _ c.print_ranges-threads.ensures c.print_threads.ensures))
