-- Where a condition is due, text that reads as arithmetic is read as that arithmetic, and on to the comparison behind it.
use mathlib.Core.Path.{◌≡◌, refl, sym, ap, subst, ◌∙◌}
use mathlib.Core.Bool.{Bool, true, false, ◌||◌}
use mathlib.Core.List.{[], ◌∷◌}
use Prim.Native.Nat.{ℕ, zero, suc}
use borrow.Author.Tests.{eqb-true}
use lib.Dec.{T, eqb, eqb→eq}
use lib.ListN.{length}
use Rattle.rules.specs.Format.{Bytes}
use Rattle.rules.specs.Program.{Arith}
use Rattle.text.specs.Words.{Read, stop, took, then_read, map_read, is_digit, spaces, digits, word, following, whole, or_none, or_whole, spell, symbol, keyword, bytes}
use Rattle.text.specs.Notation.{none_here, link, on_link, products, sums, comparisons, chain, from_left, product, sum, operand, closed, too_deep, factor, Thing, arithmetic, on_thing, truths, first, comparison, onward, start, atom, thing, either}
use Rattle.rules.proofs.Base.{if-ind}
use Rattle.text.proofs.Chain.{NoLink}
use Rattle.text.proofs.CannotGoOn.{stopped}
use Rattle.printed.proofs.Arithmetic.{factor-space}

-- ---- what was taken in two steps

pub record Steps {A B : Type 0} (g : Read A) (f : A → Bytes → Read B) (b : B) (t : Bytes) : Type 0 where
  pub value : A
  pub rest : Bytes
  pub one : g ≡ took value rest
  pub two : f value rest ≡ took b t

pub steps : {A B : Type 0} (g : Read A) (f : A → Bytes → Read B) (b : B) (t : Bytes) → then_read g f ≡ took b t → Steps g f b t
unfolding then_read
steps (stop r) f b t h = stopped r t b h
steps (took a r) f b t h = record { value = a; rest = r; one = refl; two = h }

-- ---- the readers where a condition is due

-- what an opening parenthesis leads to
unfoldable pub inside : ℕ → Bytes → Read Thing
inside zero r = too_deep r
inside (suc d) r = closed (either d r)

unfoldable pub begin : ℕ → Bytes → Read Thing
begin d s = start (inside d) (factor d) s

pub either_is : (d : ℕ) (s : Bytes) → either d s ≡ thing (begin d) s
unfolding either begin inside
either_is zero s = refl
either_is (suc d) s = refl

pub sum-space : (d : ℕ) (s : Bytes) → sum (factor d) (32 ∷ s) ≡ sum (factor d) s
unfolding sum product from_left
sum-space d s = rw (factor-space d s)

-- ---- the first operand

-- `(` where a factor is due, and the same where a condition is
abbrev Grouped : ℕ → Type 0
Grouped d = (s : Bytes) (a : Arith) (r : Bytes) → factor d (40 ∷ s) ≡ took a r → inside d s ≡ took (arithmetic a) r

-- a byte that begins no operand
no_operand : (d b : ℕ) (s : Bytes) → eqb b 32 ≡ false → eqb b 40 ≡ false → eqb b 45 ≡ false → eqb b 114 ≡ false → is_digit b ≡ false
    → factor d (b ∷ s) ≡ stop (b ∷ s)
unfolding factor operand spaces digits map_read
no_operand zero b s e f g h k = rw (e, f, g, h, k)
no_operand (suc d) b s e f g h k = rw (e, f, g, h, k)

no_text : (d : ℕ) → factor d [] ≡ stop []
unfolding factor operand spaces
no_text zero = refl
no_text (suc d) = refl

or_cases : {P : Type 0} (x y : Bool) → (T x → P) → (T y → P) → T (x || y) → P
or_cases true y f g t = f t
or_cases false y f g t = g t

-- `t` and `f` begin none
no-letter : (d b : ℕ) (s : Bytes) → T (eqb b 116 || eqb b 102) → factor d (b ∷ s) ≡ stop (b ∷ s)
unfolding is_digit
no-letter d b s = or_cases (eqb b 116) (eqb b 102)
    (λ t. subst (λ k. factor d (k ∷ s) ≡ stop (k ∷ s)) (sym (eqb→eq b 116 t)) (no_operand d 116 s refl refl refl refl refl))
    (λ t. subst (λ k. factor d (k ∷ s) ≡ stop (k ∷ s)) (sym (eqb→eq b 102 t)) (no_operand d 102 s refl refl refl refl refl))

first-agrees : (d : ℕ) → Grouped d → (s : Bytes) (a : Arith) (r : Bytes) → factor d s ≡ took a r → first (inside d) (factor d) s ≡ took (arithmetic a) r
unfolding first map_read
first-agrees d g [] a r h = stopped [] r a (sym (no_text d) ∙ h)
first-agrees d g (b ∷ s) a r h =
    if-ind (eqb b 40) (inside d s) _ (λ x. x ≡ took (arithmetic a) r)
    (λ t. g s a r (subst (λ k. factor d (k ∷ s) ≡ took a r) (eqb→eq b 40 t) h))
    (λ _. if-ind (eqb b 116 || eqb b 102) (keyword truths (b ∷ s)) (map_read arithmetic (factor d (b ∷ s))) (λ x. x ≡ took (arithmetic a) r)
    (λ t. stopped (b ∷ s) r a (sym (no-letter d b s t) ∙ h))
    (λ _. ap (map_read arithmetic) h))

-- ---- arithmetic, and on to its comparison

start-agrees : (d : ℕ) → Grouped d → (s : Bytes) (a : Arith) (r : Bytes) → sum (factor d) s ≡ took a r → begin d s ≡ comparison (factor d) a r
unfolding begin start sum product from_left onward on_thing then_read
start-agrees d g s a r h =
    let x = steps (product (factor d) s) (λ b t. chain sums (product (factor d)) (length t) b t) a r h in
    let y = steps (factor d s) (λ b t. chain products (factor d) (length t) b t) x.value x.rest x.one in
    rw (first-agrees d g s y.value y.rest y.one, y.two, x.two)

atom-agrees : (d : ℕ) → Grouped d → (s : Bytes) (a : Arith) (r : Bytes) → sum (factor d) s ≡ took a r → atom (begin d) s ≡ comparison (factor d) a r
unfolding atom sum product from_left then_read is_digit
atom-agrees d g [] a r h = stopped [] r a (rw (no_text d) at h)
atom-agrees d g (b ∷ s) a r h =
    if-ind (eqb b 32) (atom (begin d) s) _ (λ x. x ≡ comparison (factor d) a r)
    (λ t. atom-agrees d g s a r (sym (sum-space d s) ∙ subst (λ k. sum (factor d) (k ∷ s) ≡ took a r) (eqb→eq b 32 t) h))
    (λ _. if-ind (eqb b 33) _ (begin d (b ∷ s)) (λ x. x ≡ comparison (factor d) a r)
    (λ t. stopped (33 ∷ s) r a (rw (no_operand d 33 s refl refl refl refl refl) at (subst (λ k. sum (factor d) (k ∷ s) ≡ took a r) (eqb→eq b 33 t) h)))
    (λ _. start-agrees d g (b ∷ s) a r h))

abbrev pub Summed : ℕ → Type 0
Summed d = (s : Bytes) (a : Arith) (r : Bytes) → sum (factor d) s ≡ took a r → atom (begin d) s ≡ comparison (factor d) a r

-- nothing is compared before a closing parenthesis
no-comparison : (u r : Bytes) (x : Unit {0}) → spell (word (bytes ")") tt ∷ []) u ≡ took x r → link comparisons u ≡ none_here
unfolding spell following whole or_none or_whole link comparisons
no-comparison [] r x h = stopped [] r x h
no-comparison (b ∷ s) r x h = by (eqb b 41) refl
  where
    by : (t : Bool) → eqb b 41 ≡ t → link comparisons (b ∷ s) ≡ none_here
    by true e = rw (eqb-true b 41 e)
    by false e = stopped (b ∷ s) r x (rw e at h)

either-agrees : (d : ℕ) → Summed d → (s : Bytes) (a : Arith) (r : Bytes) → sum (factor d) s ≡ took a r → NoLink comparisons r → either d s ≡ took (arithmetic a) r
unfolding thing then_read on_thing comparison on_link
either-agrees d f s a r h k = either_is d s ∙ rw (f s a r h, k)

closed-as : (g : Read (Unit {0})) (v a : Arith) (r : Bytes) → then_read g (λ _ t. took v t) ≡ took a r → then_read g (λ _ t. took (arithmetic v) t) ≡ took (arithmetic a) r
unfolding then_read map_read
closed-as (stop q) v a r h = stopped q r a h
closed-as (took x q) v a r h = ap (map_read arithmetic) h

grouped-none : Grouped zero
unfolding factor operand spaces too_deep
grouped-none s a r h = stopped (40 ∷ s) r a h

grouped-next : (d : ℕ) → Summed d → Grouped (suc d)
unfolding factor operand spaces closed inside symbol then_read
grouped-next d f s a r h =
    let x = steps (sum (factor d) s) (λ v q. then_read (symbol (bytes ")") q) (λ _ t. took v t)) a r h in
    let y = steps (symbol (bytes ")") x.rest) (λ _ t. took x.value t) a r x.two in
    rw (either-agrees d f s x.value x.rest x.one (no-comparison (spaces x.rest) y.rest y.value y.one))
    (closed-as (symbol (bytes ")") x.rest) x.value a r x.two)

pub summed : (d : ℕ) → Summed d
summed zero = atom-agrees zero grouped-none
summed (suc d) = atom-agrees (suc d) (grouped-next d (summed d))
