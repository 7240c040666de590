-- No text that reads as a condition has fewer `(` than its printed form.
use mathlib.Core.Path.{◌≡◌, refl}
use mathlib.Core.Bool.{◌||◌}
use mathlib.Core.List.{[], ◌∷◌, ◌++◌}
use Prim.Native.Nat.{ℕ, zero, suc, ◌+◌, ◌≤◌}
use native.Mathlib.Nat.{le_refl}
use native.Mathlib.Omega.{arith}
use lib.Dec.{eqb}
use lib.ListN.{length}
use Rattle.rules.specs.Format.{Bytes}
use Rattle.rules.specs.Product.{bytes}
use Rattle.rules.specs.Program.{Arith, Condition, always, never, negation, conjunction, equal, less}
use Rattle.rules.proofs.Base.{if-ind}
use Rattle.text.specs.Words.{Read, took, then_read, map_read, spaces, keyword}
use Rattle.text.specs.Notation.{comparisons, conjunctions, chain, factor, Thing, arithmetic, logical, on_thing, is_condition, truths, first, comparison, onward, start, negated, atom, atomic, thing, either, read_test, most_parentheses}
use Rattle.text.proofs.LinesWithin.{Mean, no_words, one_word, Took, keyword-took}
use Rattle.printed.specs.Print.{in_parentheses, print_arith, print_condition}
use Rattle.printed.specs.Claims.{opens}
use Rattle.printed.proofs.Opens.{opens-append, opens-more, stops, takes, Costs, Takes, free, then-leaving, map-leaving, of-more, spaces-open, keyword-takes}
use Rattle.printed.proofs.OpensArith.{pair-opens, asked-opens, needs_at, place-any, link-takes, on-link, chain-takes, products-take, sums-take, sum-takes, closed-takes, Inside, too-deep-takes, opened, factor-takes}

-- ---- how many `(` a condition needs: where any may stand (1), and where one operand of `&&` or `!` may (2)

abbrev pub condition_needs : ℕ → Condition → ℕ
condition_needs p c = opens (print_condition p c)

any-one : (c : Condition) → condition_needs 1 c ≤ condition_needs 2 c
unfolding print_condition
any-one always = le_refl _
any-one never = le_refl _
any-one (negation c) = le_refl _
any-one (conjunction c d) = asked-opens _ _ _ (λ t. tt)
any-one (equal a b) = le_refl _
any-one (less a b) = le_refl _

one-pair : (c : Condition) → condition_needs 2 c ≤ suc (condition_needs 1 c)
unfolding print_condition
one-pair always = omega arith
one-pair never = omega arith
one-pair (negation c) = omega arith
one-pair (conjunction c d) = pair-opens _ _ _
one-pair (equal a b) = omega arith
one-pair (less a b) = omega arith

-- two texts and a sign without parentheses between them
between-opens : (s w t : Bytes) → opens w ≡ 0 → opens (s ++ (w ++ t)) ≤ opens s + opens t
between-opens s w t e = let a = opens-append s (w ++ t) in let b = opens-append w t in omega arith

comparisons-need : Mean (λ f. (a b : Arith) → condition_needs 2 (f a b) ≤ needs_at 1 a + needs_at 1 b) comparisons
unfolding comparisons print_condition opens
comparisons-need =
    one_word (λ a b. between-opens (print_arith 1 a) (bytes " == ") (print_arith 1 b) refl)
    (one_word (λ a b. between-opens (print_arith 1 a) (bytes " < ") (print_arith 1 b) refl) no_words)

conjunctions-need : Mean (λ f. (c d : Condition) → condition_needs 1 (f c d) ≤ condition_needs 1 c + condition_needs 2 d) conjunctions
unfolding conjunctions print_condition in_parentheses opens
conjunctions-need = one_word (λ c d. between-opens (print_condition 1 c) (bytes " && ") (print_condition 2 d) refl) no_words

-- ---- either kind: as the first operand, as one operand of `&&`, and as the whole

abbrev pub first_needs : Thing → ℕ
first_needs (arithmetic a) = needs_at 3 a
first_needs (logical c) = condition_needs 2 c

abbrev pub one_needs : Thing → ℕ
one_needs (arithmetic a) = needs_at 1 a
one_needs (logical c) = condition_needs 2 c

abbrev pub whole_needs : Thing → ℕ
whole_needs (arithmetic a) = needs_at 1 a
whole_needs (logical c) = condition_needs 1 c

in_pair : (x : Thing) → first_needs x ≤ suc (whole_needs x)
in_pair (arithmetic a) = place-any 3 1 a
in_pair (logical c) = one-pair c

truths-free : Mean (λ x. first_needs x ≡ 0) truths
unfolding truths print_condition opens
truths-free = one_word refl (one_word refl no_words)

costs-both : {A : Type 0} {n : ℕ} (need : A → ℕ) {g : Read A} → Took (λ a. need a ≡ 0) g → Costs free n g → Costs need n g
costs-both need e (stops r) = stops r
costs-both need e (takes a r h) = takes a r (omega arith)

module _ (inside : Bytes → Read Thing) (costs-inside : Inside first_needs inside) (reader : Bytes → Read Arith) (costs : Takes (needs_at 3) reader) where
  first-takes : Takes first_needs (first inside reader)
  unfolding first
  first-takes [] = stops []
  first-takes (b ∷ s) =
      let n = opens (b ∷ s) in
      if-ind (eqb b 40) (inside s) _ (Costs first_needs n) (λ t. of-more first_needs (opened b s t) (costs-inside s)) (λ _.
      if-ind (eqb b 116 || eqb b 102) (keyword truths (b ∷ s)) (map_read arithmetic (reader (b ∷ s))) (Costs first_needs n)
      (λ _. costs-both first_needs (keyword-took _ truths truths-free (b ∷ s)) (keyword-takes truths (b ∷ s)))
      (λ _. map-leaving _ arithmetic (costs (b ∷ s)) (λ a r h. h)))

  comparison-takes : (a : Arith) (s : Bytes) (m : ℕ) → opens s + needs_at 1 a ≤ m → Costs one_needs m (comparison reader a s)
  unfolding comparison
  comparison-takes a s m l =
      on-link _ (link-takes _ comparisons comparisons-need (spaces s)) (takes (arithmetic a) s l) (λ f r p k.
      map-leaving _ _ (sum-takes reader costs r) (λ b t h. let i = spaces-open s in let j = p a b in omega arith))

  onward-takes : (a : Arith) (s : Bytes) (m : ℕ) → opens s + needs_at 3 a ≤ m → Costs one_needs m (onward reader a s)
  unfolding onward
  onward-takes a s m l =
      then-leaving _ (products-take reader costs (length s) a s m l) (λ b r h.
      then-leaving _ (sums-take reader costs (length r) b r m h) (λ c t k.
      comparison-takes c t m k))

  start-takes : Takes one_needs (start inside reader)
  unfolding start on_thing
  start-takes s = then-leaving _ (first-takes s) go
    where
      go : (x : Thing) (r : Bytes) → opens r + first_needs x ≤ opens s → Costs one_needs (opens s) (on_thing x (λ a. onward reader a r) (λ c. took (logical c) r))
      go (arithmetic a) r l = onward-takes a r (opens s) l
      go (logical c) r l = takes (logical c) r l

is-condition-takes : (x : Thing) (r : Bytes) (n : ℕ) → opens r + one_needs x ≤ n → Costs (condition_needs 2) n (is_condition x r)
unfolding is_condition on_thing
is-condition-takes (arithmetic a) r n l = stops (spaces r)
is-condition-takes (logical c) r n l = takes c r l

negation-needs : (c : Condition) → condition_needs 2 (negation c) ≡ condition_needs 2 c
unfolding print_condition opens
negation-needs c = refl

module _ (begin : Bytes → Read Thing) (costs : Takes one_needs begin) where
  atom-takes : Takes one_needs (atom begin)
  unfolding atom negated
  atom-takes [] = stops []
  atom-takes (b ∷ s) =
      let n = opens (b ∷ s) in
      let h : Costs one_needs n (atom begin s) = of-more one_needs (opens-more b s) (atom-takes s) in
      if-ind (eqb b 32) (atom begin s) _ (Costs one_needs n) (λ _. h) (λ _.
      if-ind (eqb b 33) (then_read (atom begin s) negated) (begin (b ∷ s)) (Costs one_needs n)
      (λ _. then-leaving negated h (λ x r l. map-leaving _ _ (is-condition-takes x r n l) (λ c t k. let e = negation-needs c in omega arith)))
      (λ _. costs (b ∷ s)))

  atomic-takes : Takes (condition_needs 2) (atomic begin)
  unfolding atomic
  atomic-takes s = then-leaving is_condition (atom-takes s) (λ x r l. is-condition-takes x r (opens s) l)

  thing-takes : Takes whole_needs (thing begin)
  unfolding thing on_thing
  thing-takes s = then-leaving _ (atom-takes s) go
    where
      go : (x : Thing) (r : Bytes) → opens r + one_needs x ≤ opens s
          → Costs whole_needs (opens s) (on_thing x (λ a. took (arithmetic a) r) (λ c. map_read logical (chain conjunctions (atomic begin) (length r) c r)))
      go (arithmetic a) r l = takes (arithmetic a) r l
      go (logical c) r l =
          let k = any-one c in
          map-leaving _ logical (chain-takes (condition_needs 1) (condition_needs 2) conjunctions (atomic begin) conjunctions-need atomic-takes (length r) c r (opens s) (omega arith))
          (λ d t h. h)

either-takes : (d : ℕ) → Takes whole_needs (either d)
unfolding either
either-takes zero s = thing-takes _ (start-takes _ (too-deep-takes first_needs) (factor zero) (factor-takes zero)) s
either-takes (suc d) s =
    thing-takes _ (start-takes _ (λ r. closed-takes in_pair (either-takes d r)) (factor (suc d)) (factor-takes (suc d))) s

whole-condition : (x : Thing) (r : Bytes) (n : ℕ) → opens r + whole_needs x ≤ n → Costs (condition_needs 1) n (is_condition x r)
unfolding is_condition on_thing
whole-condition (arithmetic a) r n l = stops (spaces r)
whole-condition (logical c) r n l = takes c r l

pub read-test-takes : Takes (condition_needs 1) read_test
unfolding read_test
read-test-takes s = then-leaving is_condition (either-takes most_parentheses s) (λ x r l. whole-condition x r (opens s) l)
