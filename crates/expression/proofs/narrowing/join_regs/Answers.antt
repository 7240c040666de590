-- What the search leaves of `expression::narrowing::join_regs`.
use borrow.Author.Rules.{rules}
use Rattle.expression.proofs.narrowing.Joins.{JoinedAt, joined, each-made}
use Rattle.expression.proofs.narrowing.join_regs.Goals as goal

pub returns : goal.returns
returns c =
    let made = c.from_fn.ensures.items in
    joined c.args.a c.args.b _ 8 (search rules) (search rules) made.long (each-made (JoinedAt c.args.a c.args.b) (λ i y q called. search rules) made)
