-- What the search leaves of `interval::hull`.
use borrow.Author.Rules.{rules}
use mathlib.Core.Path.{ap, ap₂, ◌∙◌}
use mir.Facts.{to_z-of_z}
use mir.Syntax.{w64}
use mir.Val.{SFits}
use Rattle.rules.specs.Constants.{half32}
use Rattle.rules.specs.Interval.{interval, within}
use Rattle.interval.proofs.Hulls.{ends_are}
use Rattle.interval.proofs.hull.Goals as goal

pub returns : goal.returns
returns g c =
    let low : SFits w64 c.ends-low.result.0 = search rules in
    let high : SFits w64 c.ends-low.result.1 = search rules in
    λ f is. c.span_within.ensures ∙ ap (within half32) (ap₂ interval (to_z-of_z low) (to_z-of_z high) ∙ ends_are (λ z. z) f _ _ _ _ _ is c.ends-low.ensures)
