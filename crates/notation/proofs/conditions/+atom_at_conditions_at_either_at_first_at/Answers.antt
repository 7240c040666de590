-- What the search leaves of these functions, which call one another.
use Rattle.std.proofs.Common.{◌≡◌, refl, sym, arith, rules, Err}
use native.Mathlib.Nat.{le_trans, le_refl}
use Rattle.text.specs.Notation.{arithmetic}
use Rattle.scan.specs.Writing.{Builds}
use Rattle.scan.proofs.BuildLaws.{made_of, built-stop, builds-as, builds-within, onward-from}
use Rattle.notation.specs.Forms.{arith_form, thing_form}
use Rattle.notation.proofs.ConditionLaws.{atom-reads, atom-stops, atom-none, either-arithmetic, either-logical, always-logical}
use Rattle.notation.proofs.CloseLaws.{made_logical, made_arithmetic, within-logical}
use Rattle.notation.proofs.ChainLaws.{chain-start, chain-ends, chain-broken, chain-stops, chain_more}
use Rattle.notation.proofs.conditions.+atom_at_conditions_at_either_at_first_at.Goals as goal

-- ---- one operand

pub atom_at-returns-in_err-first-clause-builds : goal.atom_at-returns-in_err-first-clause-builds
unfolding Builds
atom_at-returns-in_err-first-clause-builds t c =
    let z : c.from_residual.result ≡ Err c.in_err-first.field-0.0 = search rules in
    rw z (atom-none c.args.depth c.nots_at-nots.ensures c.in_err-first.ensures.builds)

pub atom_at-returns-in_err-operand-clause-builds : goal.atom_at-returns-in_err-operand-clause-builds
unfolding Builds
atom_at-returns-in_err-operand-clause-builds t c =
    let z : c.from_residual-in_err-operand.result ≡ Err c.in_err-operand.field-0.0 = search rules in
    rw z (atom-stops c.args.depth c.nots_at-nots.ensures
    (c.in_err-operand.ensures.builds _ _ (sym c.first_at.auto.out) c.in_ok-first.ensures.builds))

pub atom_at-returns-clause-builds : goal.atom_at-returns-clause-builds
atom_at-returns-clause-builds t c =
    let n = c.nots_at-nots.ensures in
    let room = c.nots_at-nots.auto.out in
    let small = c.requires.2 in
    builds-as _ _ _ _ _ _ _
    (c.negated_by.ensures.negates _ _ _ _ _ n.count _ (sym room) (omega arith) n.some_is n.wrote
    (made_of (c.in_ok-operand.ensures.builds _ _ (sym c.first_at.auto.out) (made_of c.in_ok-first.ensures.builds))))
    (atom-reads c.args.depth n)

pub atom_at-returns-clause-onward : goal.atom_at-returns-clause-onward
atom_at-returns-clause-onward t c =
    let n = c.nots_at-nots.ensures in
    c.negated_by.ensures.onward _ _ (onward-from _ (le_trans n.on c.in_ok-first.ensures.onward.on) n.from c.in_ok-operand.ensures.onward)

-- ---- operands of `&&`

pub conditions_at-loop-code-init : goal.conditions_at-loop-code-init
conditions_at-loop-code-init t c = let pre = c.requires in rw c.none-waiting.ensures (chain-start _ _ _ _ _ _ _ pre.0 pre.1 pre.2 pre.3)

pub conditions_at-returns-in_err-code-clause-builds : goal.conditions_at-returns-in_err-code-clause-builds
conditions_at-returns-in_err-code-clause-builds t c =
    let z : c.from_residual.result ≡ Err c.in_err-code.field-0.0 = search rules in
    rw z (chain-broken c.loop-code.invariant c.in_err-code.ensures _)

pub conditions_at-returns-in_err-next-clause-builds : goal.conditions_at-returns-in_err-next-clause-builds
conditions_at-returns-in_err-next-clause-builds t c =
    let z : c.from_residual-in_err-next.result ≡ Err c.in_err-next.field-0.0 = search rules in
    rw z (chain-stops c.loop-code.invariant (rw c.in-Some.is at c.in_ok-code.ensures) _ (built-stop _ _ _ _ _ _ _ c.in_err-next.ensures.builds refl) _)

pub conditions_at-loop-code-preserved-then-all : goal.conditions_at-loop-code-preserved-then-all
conditions_at-loop-code-preserved-then-all t c =
    chain_more c.loop-code.invariant (rw c.in-Some.is at c.in_ok-code.ensures) c.keep-from.ensures c.keep-from.auto.out c.operand_at.auto.out
    c.in_ok-next.ensures.builds c.in_ok-next.ensures.onward (search rules)

pub conditions_at-loop-code-preserved : goal.conditions_at-loop-code-preserved
conditions_at-loop-code-preserved t c =
    chain_more c.loop-code.invariant (rw c.in-Some.is at c.in_ok-code.ensures) c.keep-from.ensures c.keep-from.auto.out c.operand_at.auto.out
    c.in_ok-next.ensures.builds c.in_ok-next.ensures.onward (search rules)

pub conditions_at-returns-clause-builds : goal.conditions_at-returns-clause-builds
conditions_at-returns-clause-builds t c =
    chain-ends c.loop-code.invariant _ always-logical (rw c.in_default.is at c.in_ok-code.ensures) c.insert-end.ensures.inserts c.insert-end.ensures.ends

-- ---- arithmetic alone, or operands of `&&`

pub either_at-returns-then-first-clause-builds : goal.either_at-returns-then-first-clause-builds
either_at-returns-then-first-clause-builds t c =
    let w = made_logical (made_of c.in_ok-first.ensures.builds) c.if-first.true in
    builds-as _ _ _ _ _ _ _
    (builds-within within-logical _ _ _ _ _ _ (c.conditions_at.ensures.builds _ w.condition _ (le_refl _)
    (record { fit_is = w.fit_is; wrote = w.wrote; room = sym c.atom_at.auto.out }))) (either-logical _ _ w.is)

pub either_at-returns-else-first-clause-builds : goal.either_at-returns-else-first-clause-builds
unfolding Builds thing_form arith_form
either_at-returns-else-first-clause-builds t c =
    let w = made_arithmetic c.in_ok-first.ensures.builds c.if-first.false in
    record { thing = arithmetic w.value; is = either-arithmetic _ _ w.is; kind = c.if-first.false; fit_is = w.fit_is; wrote = w.wrote }

-- ---- the first operand

pub first_at-returns-in_ok-inside-in-Some-eq40-2-clause-onward : goal.first_at-returns-in_ok-inside-in-Some-eq40-2-clause-onward
first_at-returns-in_ok-inside-in-Some-eq40-2-clause-onward t c =
    onward-from _ (omega arith) (le_refl _) (c.closed_at.ensures.onward _ _ c.in_ok-inside-in-Some-eq40-2.ensures.onward)
