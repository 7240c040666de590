-- What the search leaves of these functions, which call one another.
use Rattle.std.proofs.Common.{◌≡◌, ◌∙◌, refl, sym, ap, arith, rules, Err}
use native.Mathlib.Nat.{le_refl}
use Rattle.text.specs.Notation.{operand}
use Rattle.scan.proofs.BuildLaws.{made_of, built-stop, builds-as, made-begun, onward-from}
use Rattle.notation.proofs.ArithLaws.{never-logical, arith-chain, factor_is, inside_of}
use Rattle.notation.proofs.ChainLaws.{chain-start, chain-ends, chain-stops, chain_more}
use Rattle.notation.proofs.arithmetic.+arith_at_chain_at_factor_at.Goals as goal

pub chain_at-loop-code-init : goal.chain_at-loop-code-init
chain_at-loop-code-init t c = let pre = c.requires in rw c.none-waiting.ensures (chain-start _ _ _ _ _ _ _ pre.0 pre.2 pre.3 pre.4)

pub chain_at-returns-in_err-next-clause-builds : goal.chain_at-returns-in_err-next-clause-builds
chain_at-returns-in_err-next-clause-builds t c =
    let z : c.from_residual.result ≡ Err c.in_err-next.field-0.0 = search rules in
    rw z (chain-stops c.loop-code.invariant c.in-Some.ensures _ (built-stop _ _ _ _ _ _ _ c.in_err-next.ensures.builds refl) _)

pub chain_at-loop-code-preserved-then-all : goal.chain_at-loop-code-preserved-then-all
chain_at-loop-code-preserved-then-all t c =
    chain_more c.loop-code.invariant c.in-Some.ensures c.keep-from.ensures c.keep-from.auto.out c.arith_at.auto.out
    c.in_ok-next.ensures.builds c.in_ok-next.ensures.onward (search rules)

pub chain_at-loop-code-preserved : goal.chain_at-loop-code-preserved
chain_at-loop-code-preserved t c =
    chain_more c.loop-code.invariant c.in-Some.ensures c.keep-from.ensures c.keep-from.auto.out c.arith_at.auto.out
    c.in_ok-next.ensures.builds c.in_ok-next.ensures.onward (search rules)

pub chain_at-returns-clause-builds : goal.chain_at-returns-clause-builds
chain_at-returns-clause-builds t c =
    chain-ends c.loop-code.invariant _ never-logical c.in_default.ensures c.insert-end.ensures.inserts c.insert-end.ensures.ends

pub arith_at-returns-clause-builds : goal.arith_at-returns-clause-builds
arith_at-returns-clause-builds t c =
    let m = made_of c.in_ok-first.ensures.builds in
    builds-as _ _ _ _ _ _ _ (c.chain_at.ensures.builds _ m.thing _ (le_refl _) (made-begun m (sym c.arith_at.auto.out)))
    (arith-chain _ _ _ _ m.thing c.if-level-eq0.false m.is)

pub factor_at-returns-in_ok-inside-in-Some-eq40-2-clause-onward : goal.factor_at-returns-in_ok-inside-in-Some-eq40-2-clause-onward
factor_at-returns-in_ok-inside-in-Some-eq40-2-clause-onward t c =
    onward-from _ (omega arith) (le_refl _) (c.closed_at.ensures.onward _ _ c.in_ok-inside-in-Some-eq40-2.ensures.onward)

pub factor_at-returns-in-Some-clause-builds : goal.factor_at-returns-in-Some-clause-builds
factor_at-returns-in-Some-clause-builds t c =
    let e = c.in-Some.ensures.lookup.3.1 0 in
    builds-as _ _ _ _ _ _ _ (c.leaf_at.ensures.builds (inside_of c.args.depth) (λ k. c.in-Some.field-0-test.1 (e ∙ k)))
    (factor_is _ _ ∙ ap (operand (inside_of c.args.depth)) (sym c.spaces_end-q.ensures.reads))
