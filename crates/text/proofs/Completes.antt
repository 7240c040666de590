-- The bytes before the place of a 20 can be completed to a readable text. The design:
--   * By `CannotGoOn.at_end` these bytes, as a text of their own, are read to their end: the reader stops at their end, or has taken
--     them but for spaces. So it is enough to complete what is read to its end.
--   * For each reader: to a text t that it reads to its end there are bytes `more` such that t, `more` and anything calm (or quiet)
--     behind them is read as a value, up to that. Calm: no letter or digit stands first, and no sign of arithmetic first behind
--     spaces; quiet: no sign that compares or joins either.
--   * Of spaces alone, a reader is completed by bytes that are calm (or quiet) themselves: a space and a word that is due. So
--     what stood before them is taken as before, and readers one after another are completed one after another (`then-later`):
--     the first one to its end and the second from nothing, or, where the first has left more than spaces, the second alone.
--   * Arithmetic where a condition is due is completed by `<0`: `Logical` holds of what completes a `Thing`.
use Rattle.std.specs.Prelude.{if◌then◌else◌}
use mathlib.Core.Path.{◌≡◌, refl, sym, ap, subst, ◌∙◌}
use mathlib.Core.Bool.{Bool, true, false, not}
use mathlib.Core.List.{[], ◌∷◌, ◌++◌, append_assoc}
use Prim.Native.Nat.{ℕ, ◌≤◌, ◌<◌}
use native.Mathlib.Decide.{dec_lt}
use native.Mathlib.Omega.{arith}
use lib.Dec.{T}
use lib.ListN.{length}
use Rattle.rules.specs.Base.{nil}
use Rattle.rules.specs.Format.{Bytes, AreBytes}
use Rattle.rules.proofs.Base.{each_both}
use Rattle.text.specs.Words.{Read, stop, took, then_read, map_read, spaces}
use Rattle.text.proofs.Orderly.{AtEnd, spaces-append, spaces-before, Left, within-leaves, Extends, Orderly}
use Rattle.text.proofs.Follows.{Anything, Blank}

-- ---- completions

-- t, `more` and any u with S behind them are read as a good value, up to u
pub record Completion {A : Type 0} (S : Bytes → Type 0) (Good : A → Type 0) (reader : Bytes → Read A) (t : Bytes) : Type 0 where
  pub more : Bytes
  pub letters : AreBytes more
  pub value : A
  pub rest : Bytes
  pub blank : Blank rest
  pub holds : Good value
  pub reads : (u : Bytes) → S u → reader (t ++ (more ++ u)) ≡ took value (rest ++ u)

-- and P holds of what is seen behind t
pub record Fresh {A : Type 0} (S P : Bytes → Type 0) (Good : A → Type 0) (reader : Bytes → Read A) (t : Bytes) : Type 0 where
  pub completion : Completion S Good reader t
  pub before : (u : Bytes) → S u → P (completion.more ++ u)

pub record Completable {A : Type 0} (S P : Bytes → Type 0) (Good : A → Type 0) (reader : Bytes → Read A) : Type 0 where
  pub later : (t : Bytes) → 0 < length (spaces t) → AtEnd (reader t) → Completion S Good reader t
  pub fresh : (t : Bytes) → Blank t → Fresh S P Good reader t

-- what is taken as it stands
pub as-it-stands : {A : Type 0} (S P : Bytes → Type 0) (Good : A → Type 0) (a : A) → Good a → ((u : Bytes) → S u → P u) → (t : Bytes) → Blank t → Fresh S P Good (λ s. took a s) t
as-it-stands S P Good a v f t l = record {
  completion = record { more = []; letters = nil; value = a; rest = t; blank = l; holds = v; reads = λ u s. refl };
  before = f;
}

pub took-completable : {A : Type 0} (S P : Bytes → Type 0) (Good : A → Type 0) (a : A) → Good a → ((u : Bytes) → S u → P u) → Completable S P Good (λ s. took a s)
took-completable S P Good a g f = record { later = λ t l e. absurd (omega arith); fresh = as-it-stands S P Good a g f }

-- where less may stand behind, and more values will do
pub weaker : {A : Type 0} {R S : Bytes → Type 0} {Good Fine : A → Type 0} {reader : Bytes → Read A} {t : Bytes} → ((u : Bytes) → S u → R u) → ((a : A) → Good a → Fine a)
    → Completion R Good reader t → Completion S Fine reader t
weaker f g c = record { more = c.more; letters = c.letters; value = c.value; rest = c.rest; blank = c.blank; holds = g c.value c.holds; reads = λ u s. c.reads u (f u s) }

pub any_value : {A : Type 0} {S P : Bytes → Type 0} {Good : A → Type 0} (reader : Bytes → Read A) → Completable S P Good reader → Completable S P Anything reader
unfolding weaker
any_value reader c = record {
  later = λ t l e. weaker (λ _ s. s) (λ _ _. tt) (c.later t l e);
  fresh = λ t l. let x = c.fresh t l in record { completion = weaker (λ _ s. s) (λ _ _. tt) x.completion; before = x.before };
}

-- where less is asked of what is seen before
pub seen : {A : Type 0} {S P Q : Bytes → Type 0} {Good : A → Type 0} → ((u : Bytes) → P u → Q u) → (reader : Bytes → Read A) → Completable S P Good reader → Completable S Q Good reader
seen f reader c = record { later = c.later; fresh = λ t l. let x = c.fresh t l in record { completion = x.completion; before = λ u s. f (x.completion.more ++ u) (x.before u s) } }

-- what another reader reads of s and these bytes, this one reads of t
pub led : {A : Type 0} {S : Bytes → Type 0} {Good : A → Type 0} {reader : Bytes → Read A} {t : Bytes} (other : Bytes → Read A) (s these : Bytes) → AreBytes these
    → ((w : Bytes) → other (s ++ (these ++ w)) ≡ reader (t ++ w)) → Completion S Good reader t → Completion S Good other s
led other s these b e c = record {
  more = these ++ c.more;
  letters = each_both these c.more b c.letters;
  value = c.value;
  rest = c.rest;
  blank = c.blank;
  holds = c.holds;
  reads = λ u x. ap (λ (w : Bytes). other (s ++ w)) (append_assoc these c.more u) ∙ e (c.more ++ u) ∙ c.reads u x;
}

pub read_by : {A : Type 0} {S : Bytes → Type 0} {Good : A → Type 0} {reader : Bytes → Read A} {t : Bytes} (other : Bytes → Read A) (s : Bytes) → ((w : Bytes) → other (s ++ w) ≡ reader (t ++ w))
    → Completion S Good reader t → Completion S Good other s
read_by other s e c = led other s [] nil e c

pub map-at-end : {A B : Type 0} (f : A → B) (g : Read A) → AtEnd (map_read f g) → AtEnd g
unfolding map_read
map-at-end f (stop r) e = e
map-at-end f (took a r) e = e

module _ {A B : Type 0} {S : Bytes → Type 0} {Good : A → Type 0} (Fine : B → Type 0) (f : A → B) (good : (a : A) → Good a → Fine (f a)) (reader : Bytes → Read A) where
  map-completion : (t : Bytes) → Completion S Good reader t → Completion S Fine (λ s. map_read f (reader s)) t
  unfolding map_read
  map-completion t c = record {
    more = c.more;
    letters = c.letters;
    value = f c.value;
    rest = c.rest;
    blank = c.blank;
    holds = good c.value c.holds;
    reads = λ u s. rw (c.reads u s);
  }

  -- of one text
  pub map-ended : (t : Bytes) → (AtEnd (reader t) → Completion S Good reader t) → AtEnd (map_read f (reader t)) → Completion S Fine (λ s. map_read f (reader s)) t
  map-ended t c e = map-completion t (c (map-at-end f (reader t) e))

  pub map-completable : {P : Bytes → Type 0} → Completable S P Good reader → Completable S P Fine (λ s. map_read f (reader s))
  unfolding map-completion
  map-completable c = record {
    later = λ t l e. map-ended t (c.later t l) e;
    fresh = λ t l. let x = c.fresh t l in record { completion = map-completion t x.completion; before = x.before };
  }

-- ---- one after another

module _ {A B : Type 0} {R S : Bytes → Type 0} {Good : A → Type 0} {Fine : B → Type 0} (g : Bytes → Read A) (f : A → Bytes → Read B)
    (none_left : (a : A) → Good a → (r : Bytes) → Blank r → Fresh S R Fine (f a) r) where
  -- the first one completed, and then the second from nothing
  both : (t : Bytes) (c : Completion R Good g t) → Completion S Fine (λ s. then_read (g s) f) t
  unfolding then_read
  both t c =
      let x = none_left c.value c.holds c.rest c.blank in
      let d = x.completion in
      record {
        more = c.more ++ d.more;
        letters = each_both c.more d.more c.letters d.letters;
        value = d.value;
        rest = d.rest;
        blank = d.blank;
        holds = d.holds;
        reads = λ u s.
            ap (λ (w : Bytes). then_read (g (t ++ w)) f) (append_assoc c.more d.more u) ∙ rw (c.reads (d.more ++ u) (x.before u s)) (d.reads u s);
      }

  -- the second one completed, where the first has left more than spaces
  second : (t : Bytes) (a : A) (r : Bytes) → ((u : Bytes) → g (t ++ u) ≡ took a (r ++ u)) → Completion S Fine (f a) r → Completion S Fine (λ s. then_read (g s) f) t
  unfolding then_read
  second t a r h d = read_by (λ s. then_read (g s) f) t (λ w. rw (h w)) d

  -- of one text, of which P holds where more than spaces is left for the second
  pub then-later : (P : A → Bytes → Type 0) (t : Bytes) (x : Read A) → Left P x → ((u : Bytes) → Extends u x (g (t ++ u))) → (AtEnd x → Completion R Good g t)
      → ((a : A) (r : Bytes) → P a r → 0 < length (spaces r) → AtEnd (f a r) → Completion S Fine (f a) r) → AtEnd (then_read x f) → Completion S Fine (λ s. then_read (g s) f) t
  unfolding then_read
  then-later P t (stop r) n ext c more_left e = both t (c e)
  then-later P t (took a r) n ext c more_left e = elim (dec_lt 0 (length (spaces r))) [
    | yes l ↦ second t a r (λ u. (ext u).0 l) (more_left a r n l e)
    | no l ↦ both t (c (omega arith))
  ]

  pub then-completable : {P : Bytes → Type 0} → ((a : A) (r : Bytes) → 0 < length (spaces r) → AtEnd (f a r) → Completion S Fine (f a) r) → Orderly g → Completable R P Good g
      → Completable S P Fine (λ s. then_read (g s) f)
  unfolding both
  then-completable {P} more_left o c = record {
    later = λ t l e. then-later (λ _ r. length r ≤ length t) t (g t) (within-leaves (length t) (g t) (o.shorter t)) (o.extends t) (c.later t l) (λ a r _ k x. more_left a r k x) e;
    fresh = λ t l.
        let x = c.fresh t l in
        let y = none_left x.completion.value x.completion.holds x.completion.rest x.completion.blank in
        record {
          completion = both t x.completion;
          before = λ u s. subst P (sym (append_assoc x.completion.more y.completion.more u)) (x.before (y.completion.more ++ u) (y.before u s));
        };
  }

-- whatever the first value is
pub then-any : {A B : Type 0} {Q R S P : Bytes → Type 0} {Fine : B → Type 0} → ((u : Bytes) → Q u → R u) → (g : Bytes → Read A) → Orderly g → Completable R P Anything g
    → (f : A → Bytes → Read B) → ((a : A) → Completable S Q Fine (f a)) → Completable S P Fine (λ s. then_read (g s) f)
then-any i g o c f d =
    then-completable g f (λ a _ r l. let x = (d a).fresh r l in record { completion = x.completion; before = λ u s. i (x.completion.more ++ u) (x.before u s) }) (λ a r l e. (d a).later r l e) o c

-- ---- behind spaces

-- a reader for what begins right here, where a byte stands
abbrev pub CompletableHere : {A : Type 0} → (Bytes → Type 0) → (A → Type 0) → (Bytes → Read A) → Type 0
CompletableHere S Good reader = (b : ℕ) (t : Bytes) → AtEnd (reader (b ∷ t)) → Completion S Good reader (b ∷ t)

module _ {A : Type 0} {S : Bytes → Type 0} {Good : A → Type 0} (reader : Bytes → Read A) where
  here : CompletableHere S Good reader → (v : Bytes) → 0 < length v → AtEnd (reader v) → Completion S Good reader v
  here c [] l e = absurd (omega arith)
  here c (b ∷ v) l e = c b v e

  pub skip-completable : {P : Bytes → Type 0} → CompletableHere S Good reader → Fresh S P Good (λ s. reader (spaces s)) [] → Completable S P Good (λ s. reader (spaces s))
  unfolding read_by led
  skip-completable c x = record {
    later = λ t l e. read_by (λ s. reader (spaces s)) t (λ w. ap reader (spaces-append t w l)) (here c (spaces t) l e);
    fresh = λ t l. record { completion = read_by (λ s. reader (spaces s)) t (λ w. ap reader (spaces-before t w l)) x.completion; before = x.before };
  }

-- ---- of any text that is read to its end

pub completes : {A : Type 0} {S P : Bytes → Type 0} {Good : A → Type 0} (reader : Bytes → Read A) → Completable S P Good reader → (t : Bytes) → AtEnd (reader t) → Completion S Good reader t
completes reader c t e = elim (dec_lt 0 (length (spaces t))) [
  | yes l ↦ c.later t l e
  | no l ↦ (c.fresh t (omega arith)).completion
]

-- a choice by the first byte
pub if-completion : {A : Type 0} {S : Bytes → Type 0} {Good : A → Type 0} (q : Bool) (f k : Bytes → Read A) (t : Bytes) → (T q → AtEnd (f t) → Completion S Good f t)
    → (T (not q) → AtEnd (k t) → Completion S Good k t) → AtEnd (if q then f t else k t) → Completion S Good (λ w. if q then f w else k w) t
if-completion true f k t x y e = x tt e
if-completion false f k t x y e = y tt e

pub behind-byte : {A : Type 0} {S : Bytes → Type 0} {Good : A → Type 0} (reader : Bytes → Read A) (b : ℕ) (t : Bytes) → Completion S Good (λ w. reader (b ∷ w)) t → Completion S Good reader (b ∷ t)
behind-byte reader b t c = read_by reader (b ∷ t) (λ w. refl) c

pub at_byte : {A : Type 0} {S : Bytes → Type 0} {Good : A → Type 0} (reader : Bytes → Read A) (b : ℕ) (t : Bytes) → Completion S Good reader (b ∷ t) → Completion S Good (λ w. reader (b ∷ w)) t
at_byte reader b t c = read_by (λ w. reader (b ∷ w)) t (λ w. refl) c
