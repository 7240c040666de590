-- Arithmetic and conditions are read in order.
use Rattle.std.specs.Prelude.{if◌then◌else◌}
use mathlib.Core.Bool.{Bool, true, false, ◌||◌}
use mathlib.Core.List.{[], ◌∷◌, ◌++◌}
use Prim.Native.Nat.{ℕ, zero, suc}
use native.Mathlib.Nat.{le_refl}
use native.Mathlib.Decide.{dec_lt}
use native.Mathlib.Omega.{arith}
use lib.Dec.{eqb}
use lib.IntN.{pos}
use lib.ListN.{length}
use Rattle.rules.specs.Format.{Bytes}
use Rattle.rules.specs.Program.{Arith, constant, register, Condition, negation}
use Rattle.rules.proofs.Base.{if-ind}
use Rattle.text.specs.Words.{bytes, Read, stop, took, then_read, map_read, spaces, digits, number, negative, keyword, symbol}
use Rattle.text.specs.Notation.{products, sums, comparisons, conjunctions, chain, product, sum, operand, closed, too_deep, factor, Thing, arithmetic, logical, on_thing, is_condition, truths, first, comparison, onward, start, negated, atom, atomic, thing, either, read_sum, read_test, most_parentheses}
use Rattle.text.proofs.Within.{Within, then-within, on-rest}
use Rattle.text.proofs.Turns.{Opens, closed-within, operand-within, too-deep-within, first-within, start-within, is-condition-within, comparison-within, atom-within}
use Rattle.text.proofs.Orderly.{WithinPast, within-past, Skips, spaces-append, spaces-before-within, Extends, stop-extends, end-extends, map-extends, if-extends, within-leaves, then-extends, Orderly, OrderlyHere, skip-orderly, took-orderly, then-orderly, map-orderly}
use Rattle.text.proofs.OrderlyWords.{symbol-orderly, keyword-orderly, digits-extends, number-orderly}
use Rattle.text.proofs.OrderlyChain.{behind-skips, behind-extends, chain-orderly, from-left-orderly}

-- ---- parentheses

-- what an opening parenthesis leads to
pub record OrderlyInside {A : Type 0} (inside : Bytes → Read A) : Type 0 where
  pub opens : Opens inside
  pub extends : (t u : Bytes) → Extends u (inside t) (inside (t ++ u))

closing-orderly : {A : Type 0} (a : A) → Orderly (λ r. then_read (symbol (bytes ")") r) (λ _ t. took a t))
closing-orderly a = then-orderly (symbol (bytes ")")) (symbol-orderly (bytes ")")) (λ _ t. took a t) (λ _. took-orderly a)

closed-orderly : {A : Type 0} (one : Bytes → Read A) → Orderly one → Orderly (λ r. closed (one r))
unfolding closed
closed-orderly one o = then-orderly one o _ closing-orderly

pub closed-inside : {A : Type 0} (one : Bytes → Read A) → Orderly one → OrderlyInside (λ r. closed (one r))
closed-inside one o = record {
  opens = λ s. closed-within (suc (length s)) (one s) (on-rest one o.shorter s (omega arith));
  extends = (closed-orderly one o).extends;
}

pub too-deep-inside : {A : Type 0} → OrderlyInside {A = A} (λ r. too_deep r)
unfolding too_deep
too-deep-inside {A} = record { opens = too-deep-within A; extends = λ t u. stop-extends u (40 ∷ t) }

-- ---- arithmetic

pub product-orderly : (one : Bytes → Read Arith) → Orderly one → Orderly (product one)
unfolding product
product-orderly one o = from-left-orderly products one o

pub sum-orderly : (one : Bytes → Read Arith) → Orderly one → Orderly (sum one)
unfolding sum
sum-orderly one o = from-left-orderly sums (product one) (product-orderly one o)

operand-here : (inside : Bytes → Read Arith) → OrderlyInside inside → OrderlyHere (operand inside)
unfolding operand
operand-here inside o = record {
  shorter = operand-within inside o.opens;
  extends = λ b t u.
      if-extends u (eqb b 40) (inside t) _ (inside (t ++ u)) _ (o.extends t u)
      (if-extends u (eqb b 45) (map_read (λ n. constant (negative n)) (number t)) _ (map_read (λ n. constant (negative n)) (number (t ++ u))) _
      (map-extends u (λ n. constant (negative n)) (number t) (number (t ++ u)) (number-orderly.extends t u))
      (if-extends u (eqb b 114) (map_read register (digits t)) (map_read (λ n. constant (pos n)) (digits (b ∷ t))) (map_read register (digits (t ++ u))) (map_read (λ n. constant (pos n)) (digits (b ∷ t ++ u)))
      (map-extends u register (digits t) (digits (t ++ u)) (digits-extends t u))
      (map-extends u (λ n. constant (pos n)) (digits (b ∷ t)) (digits (b ∷ t ++ u)) (digits-extends (b ∷ t) u))));
}

pub factor-orderly : (d : ℕ) → Orderly (factor d)
unfolding factor
factor-orderly zero = skip-orderly (operand (λ r. too_deep r)) (operand-here (λ r. too_deep r) too-deep-inside)
factor-orderly (suc d) = skip-orderly (operand (λ r. closed (sum (factor d) r))) (operand-here (λ r. closed (sum (factor d) r)) (closed-inside (sum (factor d)) (sum-orderly (factor d) (factor-orderly d))))

pub read-sum-orderly : Orderly read_sum
unfolding read_sum
read-sum-orderly = sum-orderly (factor most_parentheses) (factor-orderly most_parentheses)

-- ---- where a condition is due

is-condition-orderly : (z : Thing) → Orderly (is_condition z)
unfolding is_condition on_thing
is-condition-orderly (arithmetic a) = record {
  shorter = λ s. is-condition-within (length s) (arithmetic a) s (le_refl (length s));
  skips = λ s. le_refl (length (spaces s));
  extends = λ t u. elim (dec_lt 0 (length (spaces t))) [
    | yes l ↦ rw (spaces-append t u l) (stop-extends u (spaces t))
    | no l ↦ end-extends u {A = Condition} (stop (spaces t)) (stop (spaces (t ++ u))) (omega arith) (spaces-before-within t u (omega arith))
  ];
}
is-condition-orderly (logical c) = took-orderly c

negated-orderly : (z : Thing) → Orderly (negated z)
unfolding negated
negated-orderly z = map-orderly (is_condition z) (is-condition-orderly z) (λ c. logical (negation c))

-- ---- arithmetic and its comparison

module _ (one : Bytes → Read Arith) (o : Orderly one) where
  pub comparison-orderly : (a : Arith) → Orderly (comparison one a)
  unfolding comparison
  comparison-orderly a =
      let right : (Arith → Arith → Condition) → Bytes → Read Thing = λ f r. map_read (λ b. logical (f a b)) (sum one r) in
      let rights : (f : Arith → Arith → Condition) → Orderly (right f) = λ f. map-orderly (sum one) (sum-orderly one o) (λ b. logical (f a b)) in
      record {
        shorter = λ s. comparison-within (λ r. too_deep r) (too-deep-within Thing) one o.shorter a s;
        skips = behind-skips comparisons (arithmetic a) right (λ f. (rights f).shorter);
        extends = λ t u. behind-extends comparisons (arithmetic a) right (λ f. (rights f).shorter) t u (λ f r l. (rights f).extends r u);
      }

  pub onward-orderly : (a : Arith) → Orderly (onward one a)
  unfolding onward
  onward-orderly a =
      then-orderly (λ s. chain products one (length s) a s) (chain-orderly products one o a) _ (λ b.
      then-orderly (λ s. chain sums (product one) (length s) b s) (chain-orderly sums (product one) (product-orderly one o) b) _ comparison-orderly)

  -- ---- the first operand, and what it begins

  pub begun-orderly : (z : Thing) → Orderly (λ r. on_thing z (λ a. onward one a r) (λ c. took (logical c) r))
  unfolding on_thing
  begun-orderly (arithmetic a) = onward-orderly a
  begun-orderly (logical c) = took-orderly (logical c)

  module _ (inside : Bytes → Read Thing) (i : OrderlyInside inside) where
    pub first-here : OrderlyHere (first inside one)
    unfolding first
    first-here = record {
      shorter = first-within inside i.opens one o.shorter;
      extends = λ b t u.
          if-extends u (eqb b 40) (inside t) _ (inside (t ++ u)) _ (i.extends t u)
          (if-extends u (eqb b 116 || eqb b 102) (keyword truths (b ∷ t)) (map_read arithmetic (one (b ∷ t))) (keyword truths (b ∷ t ++ u)) (map_read arithmetic (one (b ∷ t ++ u)))
          ((keyword-orderly truths).extends (b ∷ t) u) (map-extends u arithmetic (one (b ∷ t)) (one (b ∷ t ++ u)) (o.extends (b ∷ t) u)));
    }

    pub start-here : OrderlyHere (start inside one)
    unfolding start
    start-here = record {
      shorter = start-within inside i.opens one o.shorter;
      extends = λ b t u.
          then-extends u (suc (length t)) (first inside one (b ∷ t)) (first inside one (b ∷ t ++ u)) _ _
          (within-leaves (suc (length t)) (first inside one (b ∷ t)) (first-here.shorter (b ∷ t))) (first-here.extends b t u)
          (λ z. (begun-orderly z).skips) (λ z. (begun-orderly z).skips) (λ z r l. (begun-orderly z).extends r u);
    }

-- ---- operands of `&&`

module _ (begin : Bytes → Read Thing) (o : OrderlyHere begin) where
  -- what stands at its first byte other than a space
  unfoldable otherwise : ℕ → Bytes → Read Thing
  otherwise b s = if eqb b 33 then then_read (atom begin s) negated else begin (b ∷ s)

  otherwise-within : (b : ℕ) (s : Bytes) → Within (suc (length s)) (otherwise b s)
  unfolding otherwise
  otherwise-within b s =
      if-ind (eqb b 33) (then_read (atom begin s) negated) (begin (b ∷ s)) (Within (suc (length s)))
      (λ _. then-within (atom begin s) negated (on-rest (atom begin) (atom-within begin o.shorter) s (omega arith)) (λ z r l. on-rest (negated z) (negated-orderly z).shorter r l))
      (λ _. o.shorter (b ∷ s))

  atom-skips : Skips (atom begin)
  unfolding atom spaces otherwise
  atom-skips [] = le_refl 0
  atom-skips (b ∷ s) = by (eqb b 32) (atom-skips s)
    where
      by : (q : Bool) → WithinPast (length (spaces s)) (atom begin s) → WithinPast (length (if q then spaces s else b ∷ s)) (if q then atom begin s else otherwise b s)
      by true h = h
      by false h = within-past (suc (length s)) (otherwise b s) (otherwise-within b s)

  atom-extends : (t u : Bytes) → Extends u (atom begin t) (atom begin (t ++ u))
  unfolding atom
  atom-extends [] u = end-extends u {A = Thing} (stop []) (atom begin u) (le_refl 0) (within-past (length u) (atom begin u) (atom-within begin o.shorter u))
  atom-extends (b ∷ t) u =
      if-extends u (eqb b 32) (atom begin t) _ (atom begin (t ++ u)) _ (atom-extends t u)
      (if-extends u (eqb b 33) (then_read (atom begin t) negated) (begin (b ∷ t)) (then_read (atom begin (t ++ u)) negated) (begin (b ∷ t ++ u))
      (then-extends u (length t) (atom begin t) (atom begin (t ++ u)) negated negated (within-leaves (length t) (atom begin t) (atom-within begin o.shorter t)) (atom-extends t u)
      (λ z. (negated-orderly z).skips) (λ z. (negated-orderly z).skips) (λ z r l. (negated-orderly z).extends r u))
      (o.extends b t u))

  pub atom-orderly : Orderly (atom begin)
  atom-orderly = record { shorter = atom-within begin o.shorter; skips = atom-skips; extends = atom-extends }

  pub atomic-orderly : Orderly (atomic begin)
  unfolding atomic
  atomic-orderly = then-orderly (atom begin) atom-orderly is_condition is-condition-orderly

  pub joined-orderly : (z : Thing) → Orderly (λ r. on_thing z (λ a. took (arithmetic a) r) (λ c. map_read logical (chain conjunctions (atomic begin) (length r) c r)))
  unfolding on_thing
  joined-orderly (arithmetic a) = took-orderly (arithmetic a)
  joined-orderly (logical c) = map-orderly (λ r. chain conjunctions (atomic begin) (length r) c r) (chain-orderly conjunctions (atomic begin) atomic-orderly c) logical

  pub thing-orderly : Orderly (thing begin)
  unfolding thing
  thing-orderly = then-orderly (atom begin) atom-orderly _ joined-orderly

-- ---- the whole

pub either-orderly : (d : ℕ) → Orderly (either d)
unfolding either
either-orderly zero = thing-orderly (start (λ r. too_deep r) (factor zero)) (start-here (factor zero) (factor-orderly zero) (λ r. too_deep r) too-deep-inside)
either-orderly (suc d) =
    thing-orderly (start (λ r. closed (either d r)) (factor (suc d)))
    (start-here (factor (suc d)) (factor-orderly (suc d)) (λ r. closed (either d r)) (closed-inside (either d) (either-orderly d)))

pub read-test-orderly : Orderly read_test
unfolding read_test
read-test-orderly = then-orderly (either most_parentheses) (either-orderly most_parentheses) is_condition is-condition-orderly
