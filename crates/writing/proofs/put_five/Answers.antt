-- What the search leaves of `writing::put_five`: the line of five numbers is a line of numbers.
use Rattle.rules.specs.Product.{line}
use Rattle.writing.specs.Out.{line_of}
use Rattle.writing.proofs.put_five.Goals as goal

pub returns : goal.returns
unfolding line line_of
returns c =
    c.put_line.ensures.writes
