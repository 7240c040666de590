-- Arithmetic, read to the text's end, can be completed; and what keeps signs away.
use mathlib.Core.Path.{◌≡◌, refl, ◌∙◌}
use mathlib.Core.Bool.{Bool, true, false, not, ◌||◌}
use mathlib.Core.List.{List, [], ◌∷◌}
use Prim.Native.Nat.{ℕ, zero, suc}
use native.Mathlib.Nat.{le_refl}
use native.Mathlib.Omega.{arith}
use lib.Dec.{T, eqb}
use lib.IntN.{pos}
use Rattle.rules.specs.Format.{Bytes}
use Rattle.rules.specs.Interval.{plus, minus, times, divide}
use Rattle.rules.specs.Program.{Arith, constant, register, operation, conjunction}
use Rattle.rules.proofs.Base.{if-ind, not-both}
use Rattle.text.specs.Words.{bytes, Read, took, then_read, map_read, is_digit, spaces, digits, number, negative, Word, word, following, or_none, symbol}
use Rattle.text.specs.Notation.{none_here, link, products, sums, conjunctions, product, sum, operand, closed, too_deep, factor, read_sum, most_parentheses}
use Rattle.text.proofs.Chain.{NoLink}
use Rattle.text.proofs.Orderly.{AtEnd, Orderly}
use Rattle.text.proofs.OrderlyWords.{symbol-orderly}
use Rattle.text.proofs.OrderlyExpression.{product-orderly, sum-orderly, factor-orderly}
use Rattle.text.proofs.Follows.{no_sign, no_join, Calm, Quiet, Anything, opener, opener-quiet, are_bytes}
use Rattle.text.proofs.Completes.{Completion, Completable, took-completable, weaker, then-any, CompletableHere, skip-completable, completes, if-completion, behind-byte, map-ended}
use Rattle.text.proofs.CompletesWords.{symbol-completable}
use Rattle.text.proofs.CompletesNumbers.{numeral-over, digits-completion, digits-byte, number_behind}
use Rattle.text.proofs.CompletesChain.{from-left-completable}

-- ---- what keeps signs away

neither : (p q : Bool) → T (not (p || q)) → T (not p) × T (not q)
neither true q h = absurd h
neither false q h = (tt, h)

passes : {M : Type 0} (b c : ℕ) (w : Bytes) (m : M) (ws : List (Word M)) → T (not (eqb b c)) → following b (word (c ∷ w) m ∷ ws) ≡ following b ws
unfolding following
passes b c w m ws h =
    if-ind (eqb b c) (word w m ∷ following b ws) (following b ws) (λ x. x ≡ following b ws) (λ t. absurd (not-both (eqb b c) h t)) (λ _. refl)

no-link : {M : Type 0} (ws : List (Word M)) (b : ℕ) (s : Bytes) → following b ws ≡ [] → link ws (b ∷ s) ≡ none_here
unfolding link or_none
no-link ws b s e = rw e

none_of_two : {M : Type 0} (b c d : ℕ) (w x : Bytes) (m n : M) → T (not (eqb b c)) → T (not (eqb b d)) → following b (word (c ∷ w) m ∷ word (d ∷ x) n ∷ []) ≡ []
unfolding following
none_of_two b c d w x m n h k = passes b c w m (word (d ∷ x) n ∷ []) h ∙ passes b d x n [] k

products_at : (v : Bytes) → T (no_sign v) → link products v ≡ none_here
unfolding no_sign products link
products_at [] h = refl
products_at (b ∷ v) h =
    let n = neither (eqb b 42) (eqb b 47) (neither (eqb b 42 || eqb b 47) (eqb b 43 || eqb b 45) h).0 in
    no-link products b v (none_of_two b 42 47 [] [] (operation times) (operation divide) n.0 n.1)

sums_at : (v : Bytes) → T (no_sign v) → link sums v ≡ none_here
unfolding no_sign sums link
sums_at [] h = refl
sums_at (b ∷ v) h =
    let n = neither (eqb b 43) (eqb b 45) (neither (eqb b 42 || eqb b 47) (eqb b 43 || eqb b 45) h).1 in
    no-link sums b v (none_of_two b 43 45 [] [] (operation plus) (operation minus) n.0 n.1)

conjunctions-at : (v : Bytes) → T (no_join v) → link conjunctions v ≡ none_here
unfolding no_join conjunctions link following
conjunctions-at [] h = refl
conjunctions-at (b ∷ v) h =
    let n = neither (eqb b 60) (eqb b 38) (neither (eqb b 61) (eqb b 60 || eqb b 38) h).1 in
    no-link conjunctions b v (passes b 38 (38 ∷ []) conjunction [] n.1)

pub no-product : (u : Bytes) → Calm u → NoLink products u
no-product u c = products_at (spaces u) c.no_sign_lem

pub no-sum : (u : Bytes) → Calm u → NoLink sums u
no-sum u c = sums_at (spaces u) c.no_sign_lem

pub no-conjunction : (u : Bytes) → Quiet u → NoLink conjunctions u
no-conjunction u q = conjunctions-at (spaces u) q.no_join_lem

-- ---- parentheses

closing-completable : {A : Type 0} (a : A) → Completable Anything Quiet Anything (λ r. then_read (symbol (bytes ")") r) (λ _ t. took a t))
unfolding opener no_sign no_join
closing-completable a =
    then-any {Q = Anything} (λ u _. tt) (symbol (bytes ")")) (symbol-orderly (bytes ")")) (symbol-completable 41 tt [] tt) (λ _ t. took a t) (λ _. took-completable Anything Anything Anything a tt (λ u _. tt))

-- what an opening parenthesis leads to
closed-completable : {A : Type 0} {S P : Bytes → Type 0} (one : Bytes → Read A) → ((u : Bytes) → Quiet u → S u) → Orderly one → Completable S P Anything one → Completable Anything P Anything (λ r. closed (one r))
unfolding closed
closed-completable one f o c = then-any f one o c _ closing-completable

abbrev pub CompletesInside : {A : Type 0} → (Bytes → Read A) → Type 0
CompletesInside {A} inside = (t : Bytes) → AtEnd (inside t) → Completion {A = A} Calm Anything inside t

pub closed-inside : {A : Type 0} {S P : Bytes → Type 0} (one : Bytes → Read A) → ((u : Bytes) → Quiet u → S u) → Orderly one → Completable S P Anything one → CompletesInside (λ r. closed (one r))
closed-inside one f o c t e = weaker (λ u _. tt) (λ _ h. h) (completes (λ r. closed (one r)) (closed-completable one f o c) t e)

pub too-deep-inside : {A : Type 0} → CompletesInside {A = A} (λ r. too_deep r)
unfolding too_deep
too-deep-inside t e = absurd (omega arith)

-- ---- arithmetic

module _ (one : Bytes → Read Arith) (o : Orderly one) (c : Completable Calm Quiet Anything one) where
  pub product-completable : Completable Calm Quiet Anything (product one)
  unfolding product products
  product-completable = from-left-completable products tt no-product one o c

  pub sum-completable : Completable Calm Quiet Anything (sum one)
  unfolding sum sums
  sum-completable = from-left-completable sums tt no-sum (product one) (product-orderly one o) product-completable

operand-here : (inside : Bytes → Read Arith) → CompletesInside inside → CompletableHere Calm Anything (operand inside)
unfolding operand
operand-here inside c b t e = behind-byte (operand inside) b t
    (if-completion (eqb b 40) inside _ t (λ _ l. c t l) (λ _ l.
    if-completion (eqb b 45) (λ w. map_read (λ n. constant (negative n)) (number w)) _ t (λ _ k. number_behind (λ n. constant (negative n)) t k) (λ _ k.
    if-completion (eqb b 114) (λ w. map_read register (digits w)) (λ w. map_read (λ n. constant (pos n)) (digits (b ∷ w))) t
    (λ _ j. map-ended Anything register (λ _ _. tt) digits t (digits-completion t) j) (λ _ j. digits-byte (λ n. constant (pos n)) b t j) k) l) e)

-- ` 0`
operand-completable : (inside : Bytes → Read Arith) → CompletesInside inside → Completable Calm Quiet Anything (λ s. operand inside (spaces s))
unfolding operand digits is_digit spaces opener no_sign no_join map_read
operand-completable inside c = skip-completable (operand inside) (operand-here inside c) (record {
  completion = record { more = 32 ∷ 48 ∷ []; letters = are_bytes (32 ∷ 48 ∷ []) tt; value = constant (pos 0); rest = []; blank = le_refl 0; holds = tt; reads = λ u s. rw (numeral-over 0 u s.word_ends_lem) };
  before = λ u s. opener-quiet 48 tt u;
})

pub factor-completable : (d : ℕ) → Completable Calm Quiet Anything (factor d)
unfolding factor
factor-completable zero = operand-completable (λ r. too_deep r) too-deep-inside
factor-completable (suc d) =
    operand-completable (λ r. closed (sum (factor d) r)) (closed-inside (sum (factor d)) (λ u q. q.calm) (sum-orderly (factor d) (factor-orderly d)) (sum-completable (factor d) (factor-orderly d) (factor-completable d)))

pub read-sum-completable : Completable Calm Quiet Anything read_sum
unfolding read_sum
read-sum-completable = sum-completable (factor most_parentheses) (factor-orderly most_parentheses) (factor-completable most_parentheses)
