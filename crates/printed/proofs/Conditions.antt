-- A printed condition reads back as the same tree, whatever follows that cannot go on with it.
use mathlib.Core.Path.{◌≡◌, refl, ◌∙◌}
use mathlib.Core.Bool.{true}
use mathlib.Core.List.{[], ◌∷◌, ◌++◌, append_assoc}
use Prim.Native.Nat.{ℕ, zero, suc, ◌≤◌, ◌<◌, max}
use native.Mathlib.Omega.{arith}
use lib.ListN.{length, length-append}
use Rattle.rules.specs.Format.{Bytes}
use Rattle.rules.specs.Program.{Arith, Condition, always, never, negation, conjunction, equal, less}
use Rattle.rules.specs.Product.{bytes}
use Rattle.text.specs.Words.{Read, took, then_read, map_read, is_digit, is_letter, spaces, following, whole, or_none, or_whole, spell, keyword}
use Rattle.text.specs.Notation.{joined, linked, link, on_link, products, sums, comparisons, conjunctions, chain, from_left, Thing, arithmetic, logical, on_thing, is_condition, truths, first, comparison, start, negated, atom, atomic, thing, either}
use Rattle.text.proofs.Chain.{NoLink}
use Rattle.text.proofs.Follows.{word_ends, no_sign, Calm}
use Rattle.text.proofs.CompletesWords.{apart-over}
use Rattle.printed.specs.Print.{in_parentheses, print_arith, any_arith, any_condition, one_condition, print_condition}
use Rattle.printed.proofs.Upto.{Upto, upto-first, upto_next, upto-over}
use Rattle.printed.proofs.Arithmetic.{nesting, closes, sum-reads-back}
use Rattle.printed.proofs.ConditionDue.{steps, inside, begin, either_is, sum-space, summed}

-- how deep a condition nests
unfoldable pub nesting-of : Condition → ℕ
nesting-of always = 1
nesting-of never = 1
nesting-of (negation c) = suc (nesting-of c)
nesting-of (conjunction c e) = suc (max (nesting-of c) (nesting-of e))
nesting-of (equal a b) = suc (max (nesting a) (nesting b))
nesting-of (less a b) = suc (max (nesting a) (nesting b))

-- one operand of `&&` is taken whole
atomic-is : (d : ℕ) (s : Bytes) (c : Condition) (r : Bytes) → atom (begin d) s ≡ took (logical c) r → atomic (begin d) s ≡ took c r
unfolding atomic then_read is_condition on_thing
atomic-is d s c r h = rw h

is_logical_lem : (x : Thing) (q : Bytes) (c : Condition) (r : Bytes) → is_condition x q ≡ took c r → ◌≡◌ {A = Read Thing} (took x q) (took (logical c) r)
unfolding is_condition on_thing
is_logical_lem (arithmetic a) q c r h = let z : ◌≡◌ {A = ℕ} 0 1 = cc in absurd (omega arith)
is_logical_lem (logical e) q c r h = cc

-- a chain of `&&` is read whole where either kind may stand
thing-is : (d : ℕ) (s : Bytes) (c : Condition) (r : Bytes) → from_left conjunctions (atomic (begin d)) s ≡ took c r → either d s ≡ took (logical c) r
unfolding from_left thing atomic then_read on_thing map_read
thing-is d s c r h =
    let x = steps (atomic (begin d) s) (λ b t. chain conjunctions (atomic (begin d)) (length t) b t) c r h in
    let y = steps (atom (begin d) s) is_condition x.value x.rest x.one in
    either_is d s ∙ rw (y.one ∙ is_logical_lem y.value y.rest x.value x.rest y.two, x.two)

-- ---- the two readers on the two printed forms of a condition that nests n deep

pub record ReadsCondition (n : ℕ) (c : Condition) (s p : Bytes) : Type 0 where
  pub some_depth : 1 ≤ n
  pub by_atom : (d : ℕ) → n ≤ suc d → (rest : Bytes) → Calm rest → atom (begin d) (p ++ rest) ≡ took (logical c) rest
  pub by_chain : (d : ℕ) → n ≤ suc d → (rest : Bytes) → Calm rest → Upto conjunctions (atomic (begin d)) (s ++ rest) c rest

-- a condition that is printed alike for both
one-reads : (n : ℕ) (c : Condition) (t : Bytes) → 1 ≤ n → ((d : ℕ) → n ≤ suc d → (rest : Bytes) → Calm rest → atom (begin d) (t ++ rest) ≡ took (logical c) rest)
    → ReadsCondition n c t t
one-reads n c t p h = record {
  some_depth = p;
  by_atom = h;
  by_chain = λ d l rest e. upto-first conjunctions (atomic (begin d)) (t ++ rest) c rest (atomic-is d (t ++ rest) c rest (h d l rest e));
}

true-reads : (d : ℕ) (rest : Bytes) → Calm rest → atom (begin d) (bytes "true" ++ rest) ≡ took (logical always) rest
unfolding atom begin start first keyword spell following whole or_none or_whole spaces truths then_read on_thing
true-reads d rest h = rw (apart-over (logical always) rest h.word_ends_lem)

false-reads : (d : ℕ) (rest : Bytes) → Calm rest → atom (begin d) (bytes "false" ++ rest) ≡ took (logical never) rest
unfolding atom begin start first keyword spell following whole or_none or_whole spaces truths then_read on_thing
false-reads d rest h = rw (apart-over (logical never) rest h.word_ends_lem)

negation-reads : (n : ℕ) (c : Condition) (s p : Bytes) → ReadsCondition n c s p → ReadsCondition (suc n) (negation c) (33 ∷ p) (33 ∷ p)
unfolding atom then_read negated map_read is_condition on_thing
negation-reads n c s p x = one-reads (suc n) (negation c) (33 ∷ p) (omega arith) (λ d l rest e. rw (x.by_atom d (omega arith) rest e))

-- a comparison: `sign` stands between single spaces
comparison-reads : (f : Arith → Arith → Condition) (c : ℕ) (sign : Bytes) (a b : Arith)
    → ((u : Bytes) → Calm (32 ∷ c ∷ (sign ++ (32 ∷ u)))) → ((u : Bytes) → link comparisons (spaces (32 ∷ c ∷ (sign ++ (32 ∷ u)))) ≡ joined f (32 ∷ u))
    → ReadsCondition (suc (max (nesting a) (nesting b))) (f a b) (print_arith any_arith a ++ (32 ∷ c ∷ (sign ++ (32 ∷ print_arith any_arith b))))
    (print_arith any_arith a ++ (32 ∷ c ∷ (sign ++ (32 ∷ print_arith any_arith b))))
unfolding comparison on_link map_read
comparison-reads f c sign a b stops joins =
    let left = print_arith any_arith a in
    let right = print_arith any_arith b in
    one-reads (suc (max (nesting a) (nesting b))) (f a b) (left ++ (32 ∷ c ∷ (sign ++ (32 ∷ right)))) (omega arith) (λ d l rest e.
    rw (append_assoc left (32 ∷ c ∷ (sign ++ (32 ∷ right))) rest, append_assoc sign (32 ∷ right) rest)
    (summed d _ a (32 ∷ c ∷ (sign ++ (32 ∷ (right ++ rest)))) (sum-reads-back d a _ (omega arith) (stops (right ++ rest)))
    ∙ rw (joins (right ++ rest), sum-space d (right ++ rest), sum-reads-back d b rest (omega arith) e)))

-- two conditions joined
sign-length : (t rest : Bytes) → length rest < length (32 ∷ 38 ∷ 38 ∷ 32 ∷ (t ++ rest))
sign-length t rest = let e = length-append t rest in omega arith

module _ (x y : Condition) (sx px sy py : Bytes) (n m : ℕ) (on-x : ReadsCondition n x sx px) (on-y : ReadsCondition m y sy py) where
  both : (d : ℕ) → max n m ≤ suc d → (rest : Bytes) → Calm rest
      → Upto conjunctions (atomic (begin d)) (sx ++ (32 ∷ 38 ∷ 38 ∷ 32 ∷ py) ++ rest) (conjunction x y) rest
  unfolding is_digit is_letter word_ends no_sign link linked spaces products sums conjunctions following whole or_none or_whole spell atomic atom
  both d l rest e =
      let stops : Calm (32 ∷ 38 ∷ 38 ∷ 32 ∷ (py ++ rest)) = record { word_ends_lem = tt; no_sign_lem = tt } in
      rw (append_assoc sx (32 ∷ 38 ∷ 38 ∷ 32 ∷ py) rest)
      (upto_next conjunctions (atomic (begin d)) (sx ++ (32 ∷ 38 ∷ 38 ∷ 32 ∷ (py ++ rest))) x y conjunction
      (32 ∷ 38 ∷ 38 ∷ 32 ∷ (py ++ rest)) (32 ∷ (py ++ rest)) rest
      (on-x.by_chain d (omega arith) (32 ∷ 38 ∷ 38 ∷ 32 ∷ (py ++ rest)) stops)
      refl
      (atomic-is d (py ++ rest) y rest (on-y.by_atom d (omega arith) rest e))
      (sign-length py rest))

  in-parentheses : (d : ℕ) → suc (max n m) ≤ suc d → (rest : Bytes)
      → atom (begin d) (in_parentheses true (sx ++ (32 ∷ 38 ∷ 38 ∷ 32 ∷ py)) ++ rest) ≡ took (logical (conjunction x y)) rest
  unfolding is_digit is_letter word_ends no_sign link spaces products sums conjunctions following or_none atom begin start first inside then_read on_thing in_parentheses
  in-parentheses zero l rest = let p = on-x.some_depth in absurd (omega arith)
  in-parentheses (suc d) l rest =
      let t = sx ++ (32 ∷ 38 ∷ 38 ∷ 32 ∷ py) in
      let stops : Calm (41 ∷ rest) = record { word_ends_lem = tt; no_sign_lem = tt } in
      rw (
        append_assoc t (41 ∷ []) rest,
        closes (either d (t ++ 41 ∷ rest)) (logical (conjunction x y)) rest
            (thing-is d (t ++ 41 ∷ rest) (conjunction x y) (41 ∷ rest)
            (upto-over conjunctions (atomic (begin d)) (t ++ 41 ∷ rest) (conjunction x y) (41 ∷ rest) (both d (omega arith) (41 ∷ rest) stops) refl)),
      )

  conjunction-reads : ReadsCondition (suc (max n m)) (conjunction x y) (sx ++ (32 ∷ 38 ∷ 38 ∷ 32 ∷ py)) (in_parentheses true (sx ++ (32 ∷ 38 ∷ 38 ∷ 32 ∷ py)))
  conjunction-reads = record {
    some_depth = omega arith;
    by_atom = λ d l rest e. in-parentheses d l rest;
    by_chain = λ d l rest e. both d (omega arith) rest e;
  }

-- ---- every condition

pub condition-reads : (c : Condition) → ReadsCondition (nesting-of c) c (print_condition any_condition c) (print_condition one_condition c)
unfolding nesting-of print_condition in_parentheses is_digit is_letter word_ends no_sign link linked spaces products sums comparisons following whole or_none or_whole spell
condition-reads always = one-reads 1 always (bytes "true") (omega arith) (λ d l rest e. true-reads d rest e)
condition-reads never = one-reads 1 never (bytes "false") (omega arith) (λ d l rest e. false-reads d rest e)
condition-reads (negation c) = negation-reads (nesting-of c) c (print_condition any_condition c) (print_condition one_condition c) (condition-reads c)
condition-reads (conjunction c e) = conjunction-reads c e _ _ _ _ _ _ (condition-reads c) (condition-reads e)
condition-reads (equal a b) = comparison-reads equal 61 (61 ∷ []) a b (λ u. record { word_ends_lem = tt; no_sign_lem = tt }) (λ u. refl)
condition-reads (less a b) = comparison-reads less 60 [] a b (λ u. record { word_ends_lem = tt; no_sign_lem = tt }) (λ u. refl)

pub condition-reads-back : (d : ℕ) (c : Condition) (rest : Bytes) → nesting-of c ≤ suc d → Calm rest → NoLink conjunctions rest → either d (print_condition any_condition c ++ rest) ≡ took (logical c) rest
condition-reads-back d c rest l h k =
    let s = print_condition any_condition c ++ rest in
    thing-is d s c rest (upto-over conjunctions (atomic (begin d)) s c rest ((condition-reads c).by_chain d l rest h) k)
