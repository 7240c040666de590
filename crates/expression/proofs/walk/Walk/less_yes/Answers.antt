-- What the search leaves of `expression::walk::Walk::less_yes`.
use borrow.Author.Rules.{rules}
use mathlib.Core.Path.{◌≡◌, ◌∙◌}
use mathlib.Core.Bool.{true}
use lib.Signed.{lt_z}
use Rattle.rules.specs.Expression.{at_most, at_least}
use Rattle.expression.proofs.comparison.Laws.{less-yes-cut}
use Rattle.expression.proofs.walk.Walk.less_yes.Goals as goal

pub returns-then-lt : goal.returns-then-lt
returns-then-lt c =
    let most = c.previous-most.result.0 in
    let least = c.next-least.result.0 in
    let stands : lt_z c.args.left.span.low.0 c.args.right.span.high.0 ≡ true = search rules in
    c.cut_side.ensures (at_least least) (λ k r is. search rules)
    ∙ less-yes-cut _ _ _ _ _ _ most least c.previous-most.ensures c.next-least.ensures stands
    (c.cut_side-regs.ensures (at_most most) (λ k r is. search rules))
