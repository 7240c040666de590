-- What the search leaves of `interval::division::divide_nonzero`.
use mathlib.Core.Path.{ap}
use mathlib.Core.Bool.{not}
use borrow.Author.Rules.{rules}
use Rattle.interval.proofs.Rounding.{negation-is, magnitude-is}
use Rattle.interval.proofs.division.divide_nonzero.Goals as goal

pub returns-then-a-b : goal.returns-then-a-b
returns-then-a-b c =
    magnitude-is c.args.a.0 c.args.b.0 _ (search rules) (search rules) c.requires c.quotient_magnitude-q.ensures (ap not c.if-a-b.true)

pub returns-else-a-b : goal.returns-else-a-b
returns-else-a-b c =
    negation-is c.args.a.0 c.args.b.0 _ (search rules) (search rules) c.requires c.quotient_magnitude-q.ensures (ap not c.if-a-b.false)
