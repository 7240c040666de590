-- Words and numbers, read to the text's end, can be completed.
use mathlib.Core.Path.{◌≡◌, refl, sym, ap, subst, ◌∙◌}
use mathlib.Core.Bool.{Bool, true, false, ◌&&◌, ◌||◌}
use mathlib.Core.Option.{Option, none, some}
use mathlib.Core.List.{List, [], ◌∷◌, ◌++◌}
use Prim.Native.Nat.{ℕ, ◌≤◌}
use native.Mathlib.Nat.{le_refl}
use native.Mathlib.Omega.{arith}
use lib.Dec.{T, ltb, eqb, ltb→lt, lt→ltb}
use lib.ListN.{length}
use borrow.Author.Tests.{eq-eqb}
use Rattle.rules.specs.Base.{nil, ◌&◌}
use Rattle.rules.specs.Format.{Bytes, AreBytes}
use Rattle.rules.proofs.Base.{if-ind, and_left, and_right, and_both, not-both}
use Rattle.rules.proofs.Written.{byte}
use Rattle.text.specs.Words.{Read, stop, took, is_digit, is_letter, spaces, apart, Word, word, following, whole, or_none, or_whole, spell, keyword, symbol}
use Rattle.text.proofs.LinesWithin.{Mean, no_words, one_word, Took, spell-took}
use Rattle.text.proofs.Orderly.{AtEnd}
use Rattle.text.proofs.OrderlyWords.{Always, spell-always, spell-orderly}
use Rattle.text.proofs.Follows.{word_ends, Calm, Quiet, Anything, Blank, calm-before, opener, opener-small, opener-stays, opener-quiet, all_bytes}
use Rattle.text.proofs.Completes.{Completion, Fresh, Completable, then-completable, CompletableHere, skip-completable}

-- ---- a word that is begun

-- words of bytes
abbrev pub lettered : {A : Type 0} → List (Word A) → Bool
lettered [] = true
lettered (word w a ∷ ws) = all_bytes w && lettered ws

-- of which the first has a letter
abbrev pub proper : {A : Type 0} → List (Word A) → Bool
proper [] = false
proper (word [] a ∷ ws) = false
proper (word (c ∷ w) a ∷ ws) = all_bytes (c ∷ w) && lettered ws

proper-lettered : {A : Type 0} (ws : List (Word A)) → T (proper ws) → T (lettered ws)
proper-lettered [] p = absurd p
proper-lettered (word [] a ∷ ws) p = absurd p
proper-lettered (word (c ∷ w) a ∷ ws) p = p

following-lettered : {A : Type 0} (b : ℕ) (ws : List (Word A)) → T (lettered ws) → T (lettered (following b ws))
unfolding following
following-lettered b [] l = tt
following-lettered b (word [] a ∷ ws) l = following-lettered b ws l
following-lettered b (word (c ∷ w) a ∷ ws) l =
    let k = following-lettered b ws (and_right (all_bytes (c ∷ w)) (lettered ws) l) in
    if-ind (eqb b c) (word w a ∷ following b ws) (following b ws) (λ x. T (lettered x))
    (λ _. and_both (all_bytes w) (lettered (following b ws)) (and_right (ltb c 256) (all_bytes w) (and_left (all_bytes (c ∷ w)) (lettered ws) l)) k) (λ _. k)

-- t and more are a word
pub record Spelled {A : Type 0} (ws : List (Word A)) (t : Bytes) : Type 0 where
  pub more : Bytes
  pub letters : AreBytes more
  pub value : A
  pub reads : (u : Bytes) → spell ws (t ++ (more ++ u)) ≡ took value u

-- one letter on
step : {A : Type 0} (ws : List (Word A)) (b : ℕ) (t : Bytes) (x : Word A) (next : List (Word A)) → following b ws ≡ x ∷ next → whole (x ∷ next) ≡ none
    → Spelled (x ∷ next) t → Spelled ws (b ∷ t)
unfolding spell or_none or_whole
step ws b t x next e n s = record { more = s.more; letters = s.letters; value = s.value; reads = λ u. rw (e, n) (s.reads u) }

-- the last letter
done : {A : Type 0} (ws : List (Word A)) (b : ℕ) (x : Word A) (next : List (Word A)) (a : A) → following b ws ≡ x ∷ next → whole (x ∷ next) ≡ some a → Spelled ws (b ∷ [])
unfolding spell or_none or_whole
done ws b x next a e n = record { more = []; letters = nil; value = a; reads = λ u. rw (e, n) }

follows : {A : Type 0} (c : ℕ) (w : Bytes) (a : A) (ws : List (Word A)) → following c (word (c ∷ w) a ∷ ws) ≡ word w a ∷ following c ws
unfolding following
follows c w a ws = rw (eq-eqb c c refl)

-- by the letters of the first word, as many as make one whole
from_first : {A : Type 0} (c : ℕ) (w : Bytes) → T (all_bytes w) → (a : A) (ws : List (Word A)) → Spelled (word (c ∷ w) a ∷ ws) (c ∷ [])
unfolding whole
from_first c [] l a ws = done (word (c ∷ []) a ∷ ws) c (word [] a) (following c ws) a (follows c [] a ws) refl
from_first {A} c (d ∷ w) l a ws = by (whole (following c ws)) refl (from_nothing d w l (from_first d w (and_right (ltb d 256) (all_bytes w) l) a (following c ws)))
  where
    from_nothing : (d : ℕ) (w : Bytes) → T (all_bytes (d ∷ w)) → Spelled (word (d ∷ w) a ∷ following c ws) (d ∷ []) → Spelled (word (d ∷ w) a ∷ following c ws) []
    from_nothing d w l s = record { more = d ∷ s.more; letters = ltb→lt d 256 (and_left (ltb d 256) (all_bytes w) l) & s.letters; value = s.value; reads = s.reads }

    by : (o : Option A) → whole (following c ws) ≡ o → Spelled (word (d ∷ w) a ∷ following c ws) [] → Spelled (word (c ∷ d ∷ w) a ∷ ws) (c ∷ [])
    by none e s = step (word (c ∷ d ∷ w) a ∷ ws) c [] (word (d ∷ w) a) (following c ws) (follows c (d ∷ w) a ws) e s
    by (some b) e s = done (word (c ∷ d ∷ w) a ∷ ws) c (word (d ∷ w) a) (following c ws) b (follows c (d ∷ w) a ws) e

abbrev pub StopsAtEnd : {A : Type 0} → Read A → Type 0
StopsAtEnd (stop r) = length r ≤ 0
StopsAtEnd (took a r) = ⊥

one-letter : {A : Type 0} (ws : List (Word A)) (b : ℕ) (t : Bytes) → ((next : List (Word A)) → T (proper next) → StopsAtEnd (spell next t) → Spelled next t)
    → (next : List (Word A)) → following b ws ≡ next → T (lettered next) → (o : Option A) → whole next ≡ o → StopsAtEnd (or_none next (stop (b ∷ t)) (or_whole o t (spell next t))) → Spelled ws (b ∷ t)
unfolding or_none or_whole whole
one-letter ws b t f [] e l o n h = absurd (omega arith)
one-letter ws b t f (x ∷ next) e l (some a) n h = absurd h
one-letter ws b t f (word [] a ∷ next) e l none n h = let z : ◌≡◌ {A = ℕ} 0 1 = cc in absurd (omega arith)
one-letter ws b t f (word (c ∷ w) a ∷ next) e l none n h = step ws b t (word (c ∷ w) a) next e n (f (word (c ∷ w) a ∷ next) l h)

pub spelled : {A : Type 0} (t : Bytes) (ws : List (Word A)) → T (proper ws) → StopsAtEnd (spell ws t) → Spelled ws t
unfolding spell
spelled [] [] p h = absurd p
spelled [] (word [] a ∷ ws) p h = absurd p
spelled [] (word (c ∷ w) a ∷ ws) p h =
    let l = and_left (all_bytes (c ∷ w)) (lettered ws) p in
    let s = from_first c w (and_right (ltb c 256) (all_bytes w) l) a ws in
    record { more = c ∷ s.more; letters = ltb→lt c 256 (and_left (ltb c 256) (all_bytes w) l) & s.letters; value = s.value; reads = s.reads }
spelled (b ∷ t) ws p h = one-letter ws b t (λ next q x. spelled t next q x) (following b ws) refl (following-lettered b ws (proper-lettered ws p)) (whole (following b ws)) refl h

-- ---- a word, behind a space where nothing is begun

module _ {A : Type 0} (Good : A → Type 0) (c : ℕ) (o : T (opener c)) (w : Bytes) (a : A) (ws : List (Word A)) (l : T (all_bytes w && lettered ws)) (means : Mean Good (word (c ∷ w) a ∷ ws)) where
  abbrev all : List (Word A)
  all = word (c ∷ w) a ∷ ws

  all-proper : T (proper all)
  all-proper =
      and_both (all_bytes (c ∷ w)) (lettered ws)
      (and_both (ltb c 256) (all_bytes w) (lt→ltb c 256 (opener-small c o)) (and_left (all_bytes w) (lettered ws) l)) (and_right (all_bytes w) (lettered ws) l)

  spelled-good : (t : Bytes) (s : Spelled all t) → Good s.value
  spelled-good t s = subst (Took Good) (s.reads []) (spell-took Good all means (t ++ (s.more ++ [])))

  word-here : CompletableHere Anything Good (spell all)
  unfolding spaces
  word-here b t e = by (spell all (b ∷ t)) refl e
    where
      by : (x : Read A) → spell all (b ∷ t) ≡ x → AtEnd x → Completion Anything Good (spell all) (b ∷ t)
      by (stop r) q l =
          let s = spelled (b ∷ t) all all-proper (subst StopsAtEnd (sym q) l) in
          record { more = s.more; letters = s.letters; value = s.value; rest = []; blank = le_refl 0; holds = spelled-good (b ∷ t) s; reads = λ u _. s.reads u }
      by (took x r) q l = record {
        more = [];
        letters = nil;
        value = x;
        rest = r;
        blank = l;
        holds = subst (Took Good) q (spell-took Good all means (b ∷ t));
        reads = λ u _. subst (λ (y : Read A). Always u y (spell all (b ∷ t ++ u))) q (spell-always u all (b ∷ t));
      }

  pub word-completable : Completable Anything Quiet Good (λ s. spell all (spaces s))
  unfolding spaces
  word-completable =
      let s = from_first c w (and_left (all_bytes w) (lettered ws) l) a ws in
      let one : Spelled all [] = record { more = c ∷ s.more; letters = opener-small c o & s.letters; value = s.value; reads = s.reads } in
      skip-completable (spell all) word-here (record {
        completion = record {
          more = 32 ∷ one.more;
          letters = byte 32 (omega arith) one.letters;
          value = s.value;
          rest = [];
          blank = le_refl 0;
          holds = spelled-good [] one;
          reads = λ u _. ap (spell all) (opener-stays c o (s.more ++ u)) ∙ s.reads u;
        };
        before = λ u _. opener-quiet c o (s.more ++ u);
      })

-- ---- behind a word of letters or digits

pub apart-over : {A : Type 0} (a : A) (u : Bytes) → T (word_ends u) → apart a u ≡ took a u
unfolding apart word_ends
apart-over a [] h = refl
apart-over a (b ∷ s) h =
    if-ind (is_digit b || is_letter b) (stop (b ∷ s)) (took a (b ∷ s)) (λ g. g ≡ took a (b ∷ s)) (λ t. absurd (not-both (is_digit b || is_letter b) h t)) (λ _. refl)

-- what is taken has nothing else left than spaces
apart-blank : {A : Type 0} (a : A) (t : Bytes) → AtEnd (apart a t) → Blank t
unfolding apart spaces
apart-blank a [] e = le_refl 0
apart-blank a (b ∷ t) e =
    if-ind (is_digit b || is_letter b) (stop (b ∷ t)) (took a (b ∷ t)) (λ g. AtEnd g → Blank (b ∷ t)) (λ _ l. absurd (omega arith)) (λ _ l. l) e

apart-fresh : {A : Type 0} (Good : A → Type 0) (a : A) → Good a → (t : Bytes) → Blank t → Fresh Calm Anything Good (apart a) t
apart-fresh Good a g t l = record {
  completion = record { more = []; letters = nil; value = a; rest = t; blank = l; holds = g; reads = λ u s. apart-over a (t ++ u) (calm-before t u l s).word_ends_lem };
  before = λ u s. tt;
}

pub keyword-completable : {A : Type 0} (Good : A → Type 0) (c : ℕ) → T (opener c) → (w : Bytes) (a : A) (ws : List (Word A)) → T (all_bytes w && lettered ws) → Mean Good (word (c ∷ w) a ∷ ws)
    → Completable Calm Quiet Good (keyword (word (c ∷ w) a ∷ ws))
unfolding keyword
keyword-completable Good c o w a ws l means =
    then-completable (λ s. spell (word (c ∷ w) a ∷ ws) (spaces s)) apart (apart-fresh Good) (λ x r l e. let k = apart-blank x r e in absurd (omega arith))
    (spell-orderly (word (c ∷ w) a ∷ ws)) (word-completable Good c o w a ws l means)

pub symbol-completable : (c : ℕ) → T (opener c) → (w : Bytes) → T (all_bytes w && true) → Completable Anything Quiet Anything (symbol (c ∷ w))
unfolding symbol
symbol-completable c o w l = word-completable Anything c o w tt [] l (one_word tt no_words)
