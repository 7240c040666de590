-- What the search leaves of `label_main::printed`.
use mathlib.Core.Path.{refl, subst}
use Rattle.rules.specs.Format.{Bytes}
use Rattle.label_main.proofs.Laws.{printed-line}
use Rattle.label_main.specs.Line.{Holds}
use Rattle.label_main.proofs.printed.Goals as goal

pub returns : goal.returns
returns c =
    let told = printed-line _ _ _ c.check.ensures.follows_the_rules refl in
    subst (λ (x : Bytes). Holds x c.line_of.result) told c.line_of.ensures
