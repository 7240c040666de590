-- What the search leaves of `expression::walk::Walk::equal_yes`.
use borrow.Author.Rules.{rules}
use mathlib.Core.Path.{◌≡◌, ◌∙◌}
use mathlib.Core.Bool.{true}
use lib.Signed.{le_z}
use Rattle.rules.specs.Interval.{meet}
use Rattle.interval.specs.Shape.{interval_of}
use Rattle.expression.proofs.comparison.Laws.{equal-yes-cut}
use Rattle.expression.proofs.walk.Walk.equal_yes.Goals as goal

pub returns-then-le : goal.returns-then-le
returns-then-le c =
    let both = interval_of c.meet-both.result in
    let stands : le_z both.low both.high ≡ true = search rules in
    c.cut_side.ensures (λ k. meet k both) (λ k r is. search rules)
    ∙ equal-yes-cut _ _ _ _ _ _ both c.meet-both.ensures stands (c.cut_side-regs.ensures (λ k. meet k both) (λ k r is. search rules))
