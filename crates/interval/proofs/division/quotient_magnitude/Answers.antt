-- What the search leaves of `interval::division::quotient_magnitude`.
use borrow.Author.Rules.{rules}
use Rattle.interval.proofs.Rounding.{divided-is-magnitude, whole-is-magnitude}
use Rattle.interval.proofs.division.quotient_magnitude.Goals as goal

pub returns-then-a-b : goal.returns-then-a-b
returns-then-a-b c =
    divided-is-magnitude c.args.a.0 c.args.b.0 _ _ (search rules) (search rules) c.requires c.magnitude-m.ensures c.magnitude-n.ensures c.if-a-b.true

pub returns : goal.returns
returns c =
    whole-is-magnitude c.args.a.0 c.args.b.0 _ _ (search rules) (search rules) c.requires c.magnitude-m.ensures c.magnitude-n.ensures c.if-a-b.false
