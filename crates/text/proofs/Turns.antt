-- Expressions leave no more bytes than they were given, and a chain of operands goes on turn by turn, whatever bounds its turns.
use mathlib.Core.Path.{◌≡◌, refl, ◌∙◌}
use mathlib.Core.Bool.{◌||◌}
use mathlib.Core.List.{List, [], ◌∷◌}
use Prim.Native.Nat.{ℕ, zero, suc, ◌≤◌, ◌<◌}
use native.Mathlib.Nat.{le_refl}
use native.Mathlib.Omega.{arith}
use lib.Dec.{eqb}
use lib.IntN.{pos}
use lib.ListN.{length}
use Rattle.rules.specs.Format.{Bytes}
use Rattle.rules.specs.Program.{Arith, constant, register, negation}
use Rattle.text.specs.Words.{bytes, Read, stop, took, then_read, map_read, spaces, digits, number, negative, Word, following, or_none, spell, keyword, symbol}
use Rattle.text.specs.Notation.{Link, joined, none_here, broken, linked, link, on_link, products, sums, comparisons, conjunctions, chain, from_left, product, sum, operand, closed, too_deep, factor, Thing, arithmetic, logical, on_thing, is_condition, truths, first, comparison, onward, start, negated, atom, atomic, thing, either, read_sum, read_test, most_parentheses}
use Rattle.rules.proofs.Base.{if-ind}
use Rattle.text.proofs.Within.{Within, Shortens, within_more, then-within, map-within, on-rest, spaces-shorten, digits-within, number-within, Eats, spell-eats, keyword-within, symbol-within}

-- ---- signs that join

abbrev pub LinkWithin : {M : Type 0} → ℕ → Link M → Type 0
LinkWithin n (joined m r) = length r < n
LinkWithin n none_here = Unit {0}
LinkWithin n (broken r) = length r ≤ n

linked-within : {M : Type 0} (n : ℕ) (g : Read M) → Eats n g → LinkWithin n (linked g)
unfolding linked
linked-within n (stop r) h = h
linked-within n (took m r) h = h

none_within : {M B : Type 0} (xs : List B) (n : ℕ) (x : Link M) → LinkWithin n x → LinkWithin n (or_none xs none_here x)
unfolding or_none
none_within [] n x h = tt
none_within (b ∷ xs) n x h = h

more_within : {M : Type 0} {m n : ℕ} (x : Link M) → m ≤ n → LinkWithin m x → LinkWithin n x
more_within (joined f r) l h = omega arith
more_within none_here l h = tt
more_within (broken r) l h = omega arith

pub link_here : {M : Type 0} (ws : List (Word M)) (s : Bytes) → LinkWithin (length s) (link ws s)
unfolding link
link_here ws [] = tt
link_here ws (b ∷ s) =
    none_within (following b ws) (suc (length s)) (linked (spell ws (b ∷ s))) (linked-within (suc (length s)) (spell ws (b ∷ s)) (spell-eats ws (b ∷ s)))

pub link-within : {M : Type 0} (ws : List (Word M)) (s : Bytes) → LinkWithin (length s) (link ws (spaces s))
link-within ws s = more_within (link ws (spaces s)) (spaces-shorten s) (link_here ws (spaces s))

on-link-within : {M B : Type 0} (n : ℕ) (x : Link M) (e : Read B) (f : M → Bytes → Read B) → LinkWithin n x → Within n e
    → ((m : M) (r : Bytes) → length r ≤ n → Within n (f m r)) → Within n (on_link x e f)
unfolding on_link
on-link-within n (joined m r) e f h k l = l m r (omega arith)
on-link-within n none_here e f h k l = k
on-link-within n (broken r) e f h k l = h

-- ---- chains

module _ {A : Type 0} (ws : List (Word (A → A → A))) (operand : Bytes → Read A) (shorter : Shortens operand) where
  pub chain-within : (n : ℕ) (a : A) → Shortens (chain ws operand n a)
  unfolding chain
  chain-within zero a s = le_refl (length s)
  chain-within (suc n) a s =
      on-link-within (length s) (link ws (spaces s)) (took a s) _ (link-within ws s) (le_refl (length s)) (λ f r l.
      then-within (operand r) _ (on-rest operand shorter r l) (λ b t k. on-rest (chain ws operand n (f a b)) (chain-within n (f a b)) t k))

  pub from-left-within : Shortens (from_left ws operand)
  unfolding from_left
  from-left-within s = then-within (operand s) _ (shorter s) (λ a r l. on-rest (chain ws operand (length r) a) (chain-within (length r) a) r l)

  -- two ways to go on from a sign that agree on all that is shorter
  same-link : (k : ℕ) (x : Link (A → A → A)) (e : Read A) (f g : (A → A → A) → Bytes → Read A) → LinkWithin k x
      → ((m : A → A → A) (r : Bytes) → length r < k → f m r ≡ g m r) → on_link x e f ≡ on_link x e g
  unfolding on_link
  same-link k (joined m r) e f g h q = q m r h
  same-link k none_here e f g h q = refl
  same-link k (broken r) e f g h q = refl

  same_then : (k : ℕ) (x : Read A) (f g : A → Bytes → Read A) → Within k x → ((b : A) (t : Bytes) → length t ≤ k → f b t ≡ g b t) → then_read x f ≡ then_read x g
  unfolding then_read
  same_then k (stop r) f g h q = refl
  same_then k (took b t) f g h q = q b t h

  -- turns enough are as good as any others
  pub chain-enough : (n m : ℕ) (a : A) (s : Bytes) → length s ≤ n → length s ≤ m → chain ws operand n a s ≡ chain ws operand m a s
  unfolding chain link spaces on_link
  chain-enough zero zero a s h k = refl
  chain-enough zero (suc m) a [] h k = refl
  chain-enough zero (suc m) a (b ∷ s) h k = absurd (omega arith)
  chain-enough (suc n) zero a [] h k = refl
  chain-enough (suc n) zero a (b ∷ s) h k = absurd (omega arith)
  chain-enough (suc n) (suc m) a s h k =
      same-link (length s) (link ws (spaces s)) (took a s) _ _ (link-within ws s) (λ f r l.
      same_then (length r) (operand r) _ _ (shorter r) (λ b t j. chain-enough n m (f a b) t (omega arith) (omega arith)))

  -- one turn
  pub chain-turn : (a : A) (s : Bytes) → chain ws operand (length s) a s
      ≡ on_link (link ws (spaces s)) (took a s) (λ f r. then_read (operand r) (λ b t. chain ws operand (length t) (f a b) t))
  unfolding chain
  chain-turn a s =
      chain-enough (length s) (suc (length s)) a s (le_refl _) (omega arith)
      ∙ same-link (length s) (link ws (spaces s)) (took a s) _ _ (link-within ws s) (λ f r l.
      same_then (length r) (operand r) _ _ (shorter r) (λ b t j. chain-enough (length s) (length t) (f a b) t (omega arith) (le_refl _)))

-- ---- arithmetic

pub product-within : (reader : Bytes → Read Arith) → Shortens reader → Shortens (product reader)
unfolding product
product-within reader h s = from-left-within products reader h s

pub sum-within : (reader : Bytes → Read Arith) → Shortens reader → Shortens (sum reader)
unfolding sum
sum-within reader h s = from-left-within sums (product reader) (product-within reader h) s

pub closed-within : {A : Type 0} (n : ℕ) (g : Read A) → Within n g → Within n (closed g)
unfolding closed
closed-within n g h = then-within g _ h (λ a r l. then-within (symbol (bytes ")") r) _ (on-rest (symbol (bytes ")")) (symbol-within (bytes ")")) r l) (λ _ t k. k))

-- what an opening parenthesis leads to leaves no more than stood behind and with it
abbrev pub Opens : {A : Type 0} → (Bytes → Read A) → Type 0
Opens inside = (s : Bytes) → Within (suc (length s)) (inside s)

pub operand-within : (inside : Bytes → Read Arith) → Opens inside → Shortens (operand inside)
unfolding operand
operand-within inside h [] = le_refl 0
operand-within inside h (b ∷ s) =
    let n = suc (length s) in
    if-ind (eqb b 40) (inside s) _ (Within n) (λ _. h s) (λ _.
    if-ind (eqb b 45) (map_read (λ k. constant (negative k)) (number s)) _ (Within n)
    (λ _. map-within n (λ k. constant (negative k)) (number s) (on-rest number number-within s (omega arith))) (λ _.
    if-ind (eqb b 114) (map_read register (digits s)) (map_read (λ k. constant (pos k)) (digits (b ∷ s))) (Within n)
    (λ _. map-within n register (digits s) (on-rest digits digits-within s (omega arith)))
    (λ _. map-within n (λ k. constant (pos k)) (digits (b ∷ s)) (digits-within (b ∷ s)))))

pub too-deep-within : (A : Type 0) → Opens {A = A} (λ r. too_deep r)
unfolding too_deep
too-deep-within A s = le_refl (suc (length s))

pub factor-within : (d : ℕ) → Shortens (factor d)
unfolding factor
factor-within zero s = on-rest (operand _) (operand-within _ (too-deep-within Arith)) (spaces s) (spaces-shorten s)
factor-within (suc d) s =
    on-rest (operand _) (operand-within _ (λ r. closed-within (suc (length r)) (sum (factor d) r)
    (on-rest (sum (factor d)) (sum-within (factor d) (factor-within d)) r (omega arith)))) (spaces s) (spaces-shorten s)

pub read-sum-within : Shortens read_sum
unfolding read_sum
read-sum-within s = sum-within (factor most_parentheses) (factor-within most_parentheses) s

-- ---- conditions

pub is-condition-within : (n : ℕ) (x : Thing) (r : Bytes) → length r ≤ n → Within n (is_condition x r)
unfolding is_condition on_thing
is-condition-within n (arithmetic a) r l = let h = spaces-shorten r in omega arith
is-condition-within n (logical c) r l = l

module _ (inside : Bytes → Read Thing) (opens : Opens inside) (reader : Bytes → Read Arith) (shorter : Shortens reader) where
  pub first-within : Shortens (first inside reader)
  unfolding first
  first-within [] = le_refl 0
  first-within (b ∷ s) =
      let n = suc (length s) in
      if-ind (eqb b 40) (inside s) _ (Within n) (λ _. opens s) (λ _.
      if-ind (eqb b 116 || eqb b 102) (keyword truths (b ∷ s)) (map_read arithmetic (reader (b ∷ s))) (Within n)
      (λ _. keyword-within truths (b ∷ s)) (λ _. map-within n arithmetic (reader (b ∷ s)) (shorter (b ∷ s))))

  pub comparison-within : (a : Arith) → Shortens (comparison reader a)
  unfolding comparison
  comparison-within a s =
      on-link-within (length s) (link comparisons (spaces s)) (took (arithmetic a) s) _ (link-within comparisons s) (le_refl (length s))
      (λ f r l. map-within (length s) (λ b. logical (f a b)) (sum reader r) (on-rest (sum reader) (sum-within reader shorter) r l))

  pub onward-within : (a : Arith) → Shortens (onward reader a)
  unfolding onward
  onward-within a s =
      then-within (chain products reader (length s) a s) _ (chain-within products reader shorter (length s) a s) (λ b r l.
      then-within (chain sums (product reader) (length r) b r) _
      (on-rest (chain sums (product reader) (length r) b) (chain-within sums (product reader) (product-within reader shorter) (length r) b) r l)
      (λ c t k. on-rest (comparison reader c) (comparison-within c) t k))

  pub start-within : Shortens (start inside reader)
  unfolding start on_thing
  start-within s = then-within (first inside reader s) _ (first-within s) go
    where
      go : (x : Thing) (r : Bytes) → length r ≤ length s → Within (length s) (on_thing x (λ a. onward reader a r) (λ c. took (logical c) r))
      go (arithmetic a) r l = on-rest (onward reader a) (onward-within a) r l
      go (logical c) r l = l

module _ (begin : Bytes → Read Thing) (shorter : Shortens begin) where
  pub atom-within : Shortens (atom begin)
  unfolding atom negated
  atom-within [] = le_refl 0
  atom-within (b ∷ s) =
      let n = suc (length s) in
      let h : Within n (atom begin s) = within_more (atom begin s) (omega arith) (atom-within s) in
      if-ind (eqb b 32) (atom begin s) _ (Within n) (λ _. h) (λ _.
      if-ind (eqb b 33) (then_read (atom begin s) negated) (begin (b ∷ s)) (Within n)
      (λ _. then-within (atom begin s) negated h (λ x r l. map-within n (λ c. logical (negation c)) (is_condition x r) (is-condition-within n x r l)))
      (λ _. shorter (b ∷ s)))

  pub atomic-within : Shortens (atomic begin)
  unfolding atomic
  atomic-within s = then-within (atom begin s) is_condition (atom-within s) (λ x r l. is-condition-within (length s) x r l)

  thing-within : Shortens (thing begin)
  unfolding thing on_thing
  thing-within s = then-within (atom begin s) _ (atom-within s) go
    where
      go : (x : Thing) (r : Bytes) → length r ≤ length s
          → Within (length s) (on_thing x (λ a. took (arithmetic a) r) (λ c. map_read logical (chain conjunctions (atomic begin) (length r) c r)))
      go (arithmetic a) r l = l
      go (logical c) r l =
          map-within (length s) logical (chain conjunctions (atomic begin) (length r) c r)
          (on-rest (chain conjunctions (atomic begin) (length r) c) (chain-within conjunctions (atomic begin) atomic-within (length r) c) r l)

pub either-within : (d : ℕ) → Shortens (either d)
unfolding either
either-within zero s = thing-within _ (start-within _ (too-deep-within Thing) (factor zero) (factor-within zero)) s
either-within (suc d) s =
    thing-within _ (start-within _ (λ r. closed-within (suc (length r)) (either d r) (on-rest (either d) (either-within d) r (omega arith)))
    (factor (suc d)) (factor-within (suc d))) s

pub read-test-within : Shortens read_test
unfolding read_test
read-test-within s = then-within (either most_parentheses s) is_condition (either-within most_parentheses s) (λ x r l. is-condition-within (length s) x r l)
