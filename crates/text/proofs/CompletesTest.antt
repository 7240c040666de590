-- Conditions, read to the text's end, can be completed: arithmetic where a condition is due by `<0`, and what is not begun by ` true`.
use Rattle.std.specs.Prelude.{if◌then◌else◌}
use mathlib.Core.Path.{◌≡◌, refl, ◌∙◌}
use mathlib.Core.Bool.{Bool, true, false, ◌||◌}
use mathlib.Core.List.{[], ◌∷◌, ◌++◌}
use Prim.Native.Nat.{ℕ, zero, suc, ◌≤◌, ◌<◌}
use native.Mathlib.Nat.{le_refl}
use native.Mathlib.Omega.{arith}
use lib.Dec.{T, eqb}
use lib.ListN.{length}
use Rattle.rules.specs.Format.{Bytes}
use Rattle.rules.specs.Program.{Arith, Condition, always, negation, less}
use Rattle.rules.proofs.Written.{byte}
use Rattle.text.specs.Words.{bytes, Read, took, then_read, map_read, is_digit, is_letter, spaces, following, whole, or_none, or_whole, spell, keyword}
use Rattle.text.specs.Notation.{linked, link, on_link, products, sums, comparisons, conjunctions, chain, product, sum, closed, too_deep, factor, Thing, arithmetic, logical, on_thing, is_condition, truths, first, comparison, onward, start, negated, atom, atomic, thing, either, read_test, most_parentheses}
use Rattle.text.proofs.LinesWithin.{no_words, one_word}
use Rattle.text.proofs.Orderly.{AtEnd, spaces-before, within-leaves, Orderly, OrderlyHere, map-orderly}
use Rattle.text.proofs.OrderlyChain.{chain-orderly}
use Rattle.text.proofs.OrderlyExpression.{OrderlyInside, closed-inside as orderly-inside, too-deep-inside as orderly-deep, product-orderly, sum-orderly, factor-orderly, first-here, start-here, atom-orderly, atomic-orderly, either-orderly}
use Rattle.text.proofs.Follows.{word_ends, no_sign, no_join, Calm, Quiet, Anything, Blank, opener, opener-quiet, are_bytes}
use Rattle.text.proofs.Completes.{Completion, Fresh, Completable, any_value, as-it-stands, took-completable, weaker, map-ended, map-completable, then-later, then-completable, then-any, CompletableHere, completes, if-completion, behind-byte, at_byte}
use Rattle.text.proofs.CompletesWords.{apart-over, keyword-completable}
use Rattle.text.proofs.CompletesChain.{behind-later, chain-completable}
use Rattle.text.proofs.CompletesArith.{no-product, no-sum, no-conjunction, CompletesInside, closed-inside, too-deep-inside, product-completable, sum-completable, factor-completable}

pub data Logical : Thing → Type 0 where
  is_logical_lem : (c : Condition) → Logical (logical c)

-- ---- arithmetic and its comparison

module _ (one : Bytes → Read Arith) (o : Orderly one) (c : Completable Calm Quiet Anything one) where
  abbrev right : Arith → (Arith → Arith → Condition) → Bytes → Read Thing
  right a f r = map_read (λ b. logical (f a b)) (sum one r)

  comparison-later : (a : Arith) (t : Bytes) → 0 < length (spaces t) → AtEnd (comparison one a t) → Completion Quiet Logical (comparison one a) t
  unfolding comparison comparisons
  comparison-later a t l e =
      behind-later comparisons tt (arithmetic a) (right a) (λ f. (map-orderly (sum one) (sum-orderly one o) (λ b. logical (f a b))).shorter) {S = Quiet} {Good = Logical} t l (λ f r _ x.
      weaker (λ u q. q.calm) (λ _ h. h) (map-ended Logical (λ b. logical (f a b)) (λ b _. is_logical_lem (f a b)) (sum one) r (completes (sum one) (sum-completable one o c) r) x)) e

  -- `<` and a sum
  comparison-fresh : (a : Arith) (t : Bytes) → Blank t → Fresh Quiet Calm Logical (comparison one a) t
  unfolding comparison comparisons link linked on_link spell following whole or_none or_whole spaces map_read no_sign word_ends is_digit is_letter
  comparison-fresh a t l =
      let d = ((sum-completable one o c).fresh [] (le_refl 0)).completion in
      record {
        completion = record {
          more = 60 ∷ d.more;
          letters = byte 60 (omega arith) d.letters;
          value = logical (less a d.value);
          rest = d.rest;
          blank = d.blank;
          holds = is_logical_lem (less a d.value);
          reads = λ u s. rw (spaces-before t (60 ∷ d.more ++ u) l, d.reads u s.calm);
        };
        before = λ u s. record { word_ends_lem = tt; no_sign_lem = tt };
      }

  comparison-completable : (a : Arith) → Completable Quiet Calm Logical (comparison one a)
  comparison-completable a = record { later = comparison-later a; fresh = comparison-fresh a }

  onward-completable : (a : Arith) → Completable Quiet Calm Logical (onward one a)
  unfolding onward products sums
  onward-completable a =
      then-any {Q = Calm} (λ u s. s) (λ s. chain products one (length s) a s) (chain-orderly products one o a) (chain-completable products tt no-product one o c a) _ (λ b.
      then-any {Q = Calm} (λ u s. s) (λ s. chain sums (product one) (length s) b s) (chain-orderly sums (product one) (product-orderly one o) b)
      (chain-completable sums tt no-sum (product one) (product-orderly one o) (product-completable one o c) b) _ comparison-completable)

  -- ---- the first operand, and what it begins

  abbrev begun : Thing → Bytes → Read Thing
  begun z r = on_thing z (λ a. onward one a r) (λ k. took (logical k) r)

  begun-completable : (z : Thing) → Completable Quiet Calm Logical (begun z)
  unfolding on_thing
  begun-completable (arithmetic a) = onward-completable a
  begun-completable (logical k) = took-completable Quiet Calm Logical (logical k) (is_logical_lem k) (λ u s. s.calm)

  module _ (inside : Bytes → Read Thing) (i : OrderlyInside inside) (d : CompletesInside inside) where
    first-completion : CompletableHere Calm Anything (first inside one)
    unfolding first truths opener no_sign no_join
    first-completion b t e = behind-byte (first inside one) b t
        (if-completion (eqb b 40) inside _ t (λ _ l. d t l) (λ _ l.
        if-completion (eqb b 116 || eqb b 102) (λ w. keyword truths (b ∷ w)) (λ w. map_read arithmetic (one (b ∷ w))) t
        (λ _ k. at_byte (keyword truths) b t (completes (keyword truths) (keyword-completable Anything 116 tt (bytes "rue") _ _ tt (one_word tt (one_word tt no_words))) (b ∷ t) k))
        (λ _ k. at_byte (λ s. map_read arithmetic (one s)) b t (map-ended Anything arithmetic (λ _ _. tt) one (b ∷ t) (completes one c (b ∷ t)) k)) l) e)

    start-completion : CompletableHere Quiet Logical (start inside one)
    unfolding start
    start-completion b t e =
        let h = first-here one o inside i in
        then-later (first inside one) begun (λ z _ r l. (begun-completable z).fresh r l) (λ _ r. length r ≤ suc (length t)) (b ∷ t) (first inside one (b ∷ t))
        (within-leaves (suc (length t)) (first inside one (b ∷ t)) (h.shorter (b ∷ t))) (h.extends b t) (first-completion b t) (λ z r _ l x. (begun-completable z).later r l x) e

    -- `true`
    start-true : (u : Bytes) → T (word_ends u) → start inside one (116 ∷ 114 ∷ 117 ∷ 101 ∷ u) ≡ took (logical always) u
    unfolding start first truths keyword spell following whole or_none or_whole spaces then_read on_thing
    start-true u h = rw (apart-over (logical always) u h)

-- ---- operands of `&&`

-- behind what completes to a condition
negated-fresh : (z : Thing) → Logical z → (r : Bytes) → Blank r → Fresh Quiet Quiet Logical (negated z) r
unfolding negated is_condition on_thing map_read
negated-fresh z (is_logical_lem k) r l = as-it-stands Quiet Quiet Logical (logical (negation k)) (is_logical_lem (negation k)) (λ u s. s) r l

negated-ends : (z : Thing) (r : Bytes) → 0 < length (spaces r) → AtEnd (negated z r) → Completion Quiet Logical (negated z) r
unfolding negated is_condition on_thing map_read
negated-ends (arithmetic a) r l e = absurd (omega arith)
negated-ends (logical k) r l e = absurd (omega arith)

condition-fresh : (z : Thing) → Logical z → (r : Bytes) → Blank r → Fresh Quiet Quiet Anything (is_condition z) r
unfolding is_condition on_thing
condition-fresh z (is_logical_lem k) r l = as-it-stands Quiet Quiet Anything k tt (λ u s. s) r l

condition-ends : (z : Thing) (r : Bytes) → 0 < length (spaces r) → AtEnd (is_condition z r) → Completion Quiet Anything (is_condition z) r
unfolding is_condition on_thing
condition-ends (arithmetic a) r l e = absurd (omega arith)
condition-ends (logical k) r l e = absurd (omega arith)

module _ (begin : Bytes → Read Thing) (o : OrderlyHere begin) (c : CompletableHere Quiet Logical begin)
    (true-there : (u : Bytes) → T (word_ends u) → begin (116 ∷ 114 ∷ 117 ∷ 101 ∷ u) ≡ took (logical always) u) where
  atom-spaces : (t w : Bytes) → Blank t → atom begin (t ++ w) ≡ atom begin w
  unfolding atom spaces
  atom-spaces [] w l = refl
  atom-spaces (b ∷ t) w l = by (eqb b 32) (λ k. atom-spaces t w k) l
    where
      by : (q : Bool) → (Blank t → atom begin (t ++ w) ≡ atom begin w) → length (if q then spaces t else b ∷ t) ≤ 0
          → (if q then atom begin (t ++ w) else if eqb b 33 then then_read (atom begin (t ++ w)) negated else begin (b ∷ t ++ w)) ≡ atom begin w
      by true f k = f k
      by false f k = absurd (omega arith)

  -- ` true`
  atom-fresh : (t : Bytes) → Blank t → Fresh Quiet Quiet Logical (atom begin) t
  unfolding atom spaces opener no_sign no_join
  atom-fresh t l = record {
    completion = record {
      more = 32 ∷ bytes "true";
      letters = are_bytes (32 ∷ bytes "true") tt;
      value = logical always;
      rest = [];
      blank = le_refl 0;
      holds = is_logical_lem always;
      reads = λ u s. atom-spaces t (32 ∷ 116 ∷ 114 ∷ 117 ∷ 101 ∷ u) l ∙ true-there u s.calm.word_ends_lem;
    };
    before = λ u s. opener-quiet 116 tt (114 ∷ 117 ∷ 101 ∷ u);
  }

  atom-completion : (t : Bytes) → AtEnd (atom begin t) → Completion Quiet Logical (atom begin) t
  unfolding atom spaces
  atom-completion [] e = (atom-fresh [] (le_refl 0)).completion
  atom-completion (b ∷ t) e = behind-byte (atom begin) b t
      (if-completion (eqb b 32) (atom begin) _ t (λ _ l. atom-completion t l) (λ _ l.
      if-completion (eqb b 33) (λ w. then_read (atom begin w) negated) (λ w. begin (b ∷ w)) t
      (λ _ k. then-later (atom begin) negated negated-fresh (λ _ r. length r ≤ length t) t (atom begin t) (within-leaves (length t) (atom begin t) ((atom-orderly begin o).shorter t)) ((atom-orderly begin o).extends t)
      (atom-completion t) (λ z r _ j x. negated-ends z r j x) k)
      (λ _ k. at_byte begin b t (c b t k)) l) e)

  pub atom-completable : Completable Quiet Quiet Logical (atom begin)
  atom-completable = record { later = λ t l e. atom-completion t e; fresh = atom-fresh }

  pub atomic-completable : Completable Quiet Quiet Anything (atomic begin)
  unfolding atomic
  atomic-completable = then-completable (atom begin) is_condition condition-fresh condition-ends (atom-orderly begin o) atom-completable

  abbrev joins : Thing → Bytes → Read Thing
  joins z r = on_thing z (λ a. took (arithmetic a) r) (λ k. map_read logical (chain conjunctions (atomic begin) (length r) k r))

  conjoined : (k : Condition) → Completable Quiet Quiet Logical (λ r. map_read logical (chain conjunctions (atomic begin) (length r) k r))
  unfolding conjunctions
  conjoined k =
      map-completable Logical logical (λ x _. is_logical_lem x) (λ r. chain conjunctions (atomic begin) (length r) k r)
      (chain-completable conjunctions tt no-conjunction (atomic begin) (atomic-orderly begin o) atomic-completable k)

  joins-fresh : (z : Thing) → Logical z → (r : Bytes) → Blank r → Fresh Quiet Quiet Logical (joins z) r
  unfolding on_thing
  joins-fresh z (is_logical_lem k) r l = (conjoined k).fresh r l

  joins-later : (z : Thing) (r : Bytes) → 0 < length (spaces r) → AtEnd (joins z r) → Completion Quiet Logical (joins z) r
  unfolding on_thing
  joins-later (arithmetic a) r l e = absurd (omega arith)
  joins-later (logical k) r l e = (conjoined k).later r l e

  pub thing-completable : Completable Quiet Quiet Logical (thing begin)
  unfolding thing
  thing-completable = then-completable (atom begin) joins joins-fresh joins-later (atom-orderly begin o) atom-completable

-- ---- the whole

module _ (d : ℕ) (inside : Bytes → Read Thing) (i : OrderlyInside inside) (c : CompletesInside inside) where
  begun-thing : Completable Quiet Quiet Logical (thing (start inside (factor d)))
  begun-thing =
      let f = factor d in let o = factor-orderly d in let x = factor-completable d in
      thing-completable (start inside f) (start-here f o inside i) (start-completion f o x inside i c) (start-true f o x inside i c)

either-completable : (d : ℕ) → Completable Quiet Quiet Logical (either d)
unfolding either
either-completable zero = begun-thing zero (λ r. too_deep r) orderly-deep too-deep-inside
either-completable (suc d) =
    begun-thing (suc d) (λ r. closed (either d r)) (orderly-inside (either d) (either-orderly d))
    (closed-inside (either d) (λ u q. q) (either-orderly d) (any_value (either d) (either-completable d)))

pub read-test-completable : Completable Quiet Quiet Anything read_test
unfolding read_test
read-test-completable = then-completable (either most_parentheses) is_condition condition-fresh condition-ends (either-orderly most_parentheses) (either-completable most_parentheses)
