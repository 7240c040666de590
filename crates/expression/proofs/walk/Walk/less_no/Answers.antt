-- What the search leaves of `expression::walk::Walk::less_no`.
use borrow.Author.Rules.{rules}
use mathlib.Core.Path.{◌≡◌, ◌∙◌}
use mathlib.Core.Bool.{true}
use lib.Signed.{le_z}
use Rattle.rules.specs.Expression.{at_most, at_least}
use Rattle.expression.proofs.comparison.Laws.{less-no-cut}
use Rattle.expression.proofs.walk.Walk.less_no.Goals as goal

pub returns-then-le : goal.returns-then-le
returns-then-le c =
    let least = c.args.right.span.low.0 in
    let most = c.args.left.span.high.0 in
    let stands : le_z least most ≡ true = search rules in
    c.cut_side.ensures (at_most most) (λ k r is. search rules)
    ∙ less-no-cut _ _ _ _ _ _ stands (c.cut_side-regs.ensures (at_least least) (λ k r is. search rules))
