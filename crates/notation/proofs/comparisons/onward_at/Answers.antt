-- What the search leaves of `notation::comparisons::onward_at`.
use Rattle.std.proofs.Common.{◌≡◌, ◌∙◌, sym, rules, Err}
use native.Mathlib.Nat.{le_refl}
use Rattle.scan.proofs.BuildLaws.{made_of, builds-as, made-begun}
use Rattle.scan.specs.Writing.{Builds}
use Rattle.notation.proofs.CompareLaws.{onward-stop, onward-took}
use Rattle.notation.proofs.comparisons.onward_at.Goals as goal

pub returns-in_err-sum-clause-builds : goal.returns-in_err-sum-clause-builds
unfolding Builds
returns-in_err-sum-clause-builds c = λ o a b.
    let m = made_of (c.in_ok-product.ensures.builds o a _ (le_refl _) b) in
    let z : c.from_residual-in_err-sum.result ≡ Err c.in_err-sum.field-0.0 = search rules in
    rw z (onward-stop _ _ m.thing _ _ _ m.is (c.in_err-sum.ensures.builds o m.thing _ (le_refl _) (made-begun m (b.room ∙ sym c.chain_at.auto.out))))

pub returns-clause-builds : goal.returns-clause-builds
returns-clause-builds c = λ o a b.
    let m = made_of (c.in_ok-product.ensures.builds o a _ (le_refl _) b) in
    let n = made_of (c.in_ok-sum.ensures.builds o m.thing _ (le_refl _) (made-begun m (b.room ∙ sym c.chain_at.auto.out))) in
    builds-as _ _ _ _ _ _ _ (c.compare_at.ensures.builds o n.thing (made-begun n (b.room ∙ sym (c.chain_at-2.auto.out ∙ c.chain_at.auto.out))))
    (onward-took _ a m.thing n.thing _ _ _ m.is n.is)
