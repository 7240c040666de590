-- What the search leaves of `notation::conditions::word_or_leaf_at`.
use Rattle.std.proofs.Common.{refl, ap, ◌∙◌, arith}
use Rattle.rules.specs.Program.{always, never}
use Rattle.rules.specs.Encoding.{encode_condition}
use Rattle.text.specs.Convert.{condition_fits}
use Rattle.text.specs.Words.{map_read}
use Rattle.text.specs.Notation.{arithmetic}
use Rattle.scan.proofs.BuildLaws.{builds-as, builds-within}
use Rattle.notation.proofs.ArithLaws.{factor-level}
use Rattle.notation.proofs.CloseLaws.{within-arithmetic}
use Rattle.notation.proofs.ConditionLaws.{first-true, first-false, first_leaf}
use Rattle.notation.proofs.conditions.word_or_leaf_at.Goals as goal

pub returns-in-116-clause-builds : goal.returns-in-116-clause-builds
unfolding encode_condition condition_fits
returns-in-116-clause-builds c = λ i k.
    builds-as _ _ _ _ _ _ _ (c.truth_at.ensures.builds always refl refl) (first-true _ _ _ c.requires.0 i c.in-116.is)

pub returns-in-102-clause-builds : goal.returns-in-102-clause-builds
unfolding encode_condition condition_fits
returns-in-102-clause-builds c = λ i k.
    builds-as _ _ _ _ _ _ _ (c.truth_at-in-102.ensures.builds never refl refl) (first-false _ _ _ c.requires.0 i c.in-102.is)

pub returns-in_default-clause-builds : goal.returns-in_default-clause-builds
returns-in_default-clause-builds c = λ i k.
    builds-as _ _ _ _ _ _ _ (builds-within within-arithmetic _ _ _ _ _ _ c.arith_at.ensures.builds)
    (first_leaf _ _ _ c.requires.0 i k (λ z. omega arith) (λ z. omega arith) ∙ ap (map_read arithmetic) (factor-level _ _))
