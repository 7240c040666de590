-- Numbers, names and the end of a line, read to the text's end, can be completed.
use Rattle.std.specs.Prelude.{if◌then◌else◌}
use mathlib.Core.Path.{◌≡◌, refl, ap, subst, ◌∙◌}
use mathlib.Core.Bool.{Bool, true, false, ◌||◌}
use mathlib.Core.List.{List, [], ◌∷◌, ◌++◌}
use Prim.Native.Nat.{ℕ, ◌+◌, ◌-◌, ◌*◌}
use native.Mathlib.Nat.{le_refl}
use native.Mathlib.Omega.{arith}
use lib.Dec.{T, eqb}
use lib.IntN.{pos}
use borrow.Author.Tests.{eq-eqb}
use Rattle.rules.specs.Base.{nil, ◌&◌}
use Rattle.rules.specs.Format.{Bytes}
use Rattle.rules.proofs.Base.{if-ind, not-both}
use Rattle.rules.proofs.Written.{byte}
use Rattle.text.specs.Words.{Read, stop, took, then_read, map_read, is_digit, is_letter, spaces, apart, numeral, digits, number, negative, signed_here, signed, Word, word, following, whole, or_none, or_whole, spell, symbol, name, newline, line_end}
use Rattle.text.proofs.Orderly.{AtEnd}
use Rattle.text.proofs.Follows.{word_ends, no_sign, no_join, Calm, Quiet, Anything, opener, opener-small, opener-stays, opener-quiet, are_bytes}
use Rattle.text.proofs.Completes.{Completion, Completable, read_by, map-ended, CompletableHere, skip-completable, completes, if-completion, behind-byte, at_byte}
use Rattle.text.proofs.CompletesWords.{apart-over}

-- a stop at a byte is not at the end
no_end : {A : Type 0} {S : Bytes → Type 0} {Good : A → Type 0} (reader : Bytes → Read A) (b : ℕ) (t : Bytes) → AtEnd {A = A} (stop (b ∷ t)) → Completion S Good reader t
no_end reader b t e = absurd (omega arith)

-- ---- numbers

digit-first : (a c : Bool) → T a → T (a || c)
digit-first true c h = tt
digit-first false c h = absurd h

pub numeral-over : (n : ℕ) (u : Bytes) → T (word_ends u) → numeral n u ≡ took n u
unfolding numeral word_ends
numeral-over n [] h = refl
numeral-over n (b ∷ s) h =
    if-ind (is_digit b) (numeral (n * 10 + (b - 48)) s) (apart n (b ∷ s)) (λ g. g ≡ took n (b ∷ s))
    (λ d. absurd (not-both (is_digit b || is_letter b) h (digit-first (is_digit b) (is_letter b) d))) (λ _. apart-over n (b ∷ s) h)

-- behind digits, no letter or digit
apart-byte : (n b : ℕ) (t : Bytes) → AtEnd (apart n (b ∷ t)) → Completion Calm Anything (λ w. apart n (b ∷ w)) t
unfolding apart
apart-byte n b t e =
    if-completion (is_digit b || is_letter b) (λ w. stop (b ∷ w)) (λ w. took n (b ∷ w)) t (λ _ l. no_end (λ w. stop (b ∷ w)) b t l)
    (λ _ l. record { more = []; letters = nil; value = n; rest = b ∷ t; blank = l; holds = tt; reads = λ u _. refl }) e

numeral-completion : (n : ℕ) (t : Bytes) → AtEnd (numeral n t) → Completion Calm Anything (numeral n) t
unfolding numeral spaces
numeral-completion n [] e = record { more = []; letters = nil; value = n; rest = []; blank = le_refl 0; holds = tt; reads = λ u s. numeral-over n u s.word_ends_lem }
numeral-completion n (b ∷ t) e =
    let m = n * 10 + (b - 48) in
    behind-byte (numeral n) b t (if-completion (is_digit b) (numeral m) (λ w. apart n (b ∷ w)) t (λ _ l. numeral-completion m t l) (λ _ l. apart-byte n b t l) e)

pub digits-completion : (t : Bytes) → AtEnd (digits t) → Completion Calm Anything digits t
unfolding digits is_digit spaces
digits-completion [] e = record { more = 48 ∷ []; letters = are_bytes (48 ∷ []) tt; value = 0; rest = []; blank = le_refl 0; holds = tt; reads = λ u s. numeral-over 0 u s.word_ends_lem }
digits-completion (b ∷ t) e =
    behind-byte digits b t (if-completion (is_digit b) (numeral (b - 48)) (λ w. stop (b ∷ w)) t (λ _ l. numeral-completion (b - 48) t l) (λ _ l. no_end (λ w. stop (b ∷ w)) b t l) e)

-- ` 0`
pub number-completable : Completable Calm Quiet Anything number
unfolding number digits is_digit spaces opener no_sign no_join
number-completable = skip-completable digits (λ b t e. digits-completion (b ∷ t) e) (record {
  completion = record { more = 32 ∷ 48 ∷ []; letters = are_bytes (32 ∷ 48 ∷ []) tt; value = 0; rest = []; blank = le_refl 0; holds = tt; reads = λ u s. numeral-over 0 u s.word_ends_lem };
  before = λ u s. opener-quiet 48 tt u;
})

-- a value of a number that begins with this byte
pub digits-byte : {A : Type 0} (f : ℕ → A) (b : ℕ) (t : Bytes) → AtEnd (map_read f (digits (b ∷ t))) → Completion Calm Anything (λ w. map_read f (digits (b ∷ w))) t
digits-byte f b t e = at_byte (λ s. map_read f (digits s)) b t (map-ended Anything f (λ _ _. tt) digits (b ∷ t) (digits-completion (b ∷ t)) e)

pub number_behind : {A : Type 0} (f : ℕ → A) (t : Bytes) → AtEnd (map_read f (number t)) → Completion Calm Anything (λ w. map_read f (number w)) t
number_behind f t e = map-ended Anything f (λ _ _. tt) number t (completes number number-completable t) e

pub signed-completable : Completable Calm Quiet Anything signed
unfolding signed signed_here digits is_digit spaces opener no_sign no_join map_read
signed-completable = skip-completable signed_here (λ b t e. behind-byte signed_here b t
    (if-completion (eqb b 45) (λ w. map_read negative (number w)) (λ w. map_read pos (digits (b ∷ w))) t (λ _ l. number_behind negative t l) (λ _ l. digits-byte pos b t l) e)) (record {
      completion = record { more = 32 ∷ 48 ∷ []; letters = are_bytes (32 ∷ 48 ∷ []) tt; value = pos 0; rest = []; blank = le_refl 0; holds = tt; reads = λ u s. rw (numeral-over 0 u s.word_ends_lem) };
      before = λ u s. opener-quiet 48 tt u;
    })

-- ---- names

-- a name of one letter, right here
abbrev letters : Bytes → List (Word (Unit {0}))
letters w = word w tt ∷ []

abbrev named : ℕ → Bytes → Read ℕ
named c s = then_read (spell (letters (c ∷ [])) s) (λ _ r. digits r)

name-byte : (c b : ℕ) (w : Bytes) → named c (b ∷ w) ≡ (if eqb b c then digits w else stop (b ∷ w))
unfolding then_read spell following whole or_none or_whole
name-byte c b w = by (eqb b c)
  where
    by : (q : Bool) → then_read (or_none (if q then letters [] else []) (stop (b ∷ w)) (or_whole (whole (if q then letters [] else [])) w (spell (if q then letters [] else []) w))) (λ _ r. digits r)
        ≡ (if q then digits w else stop (b ∷ w))
    by true = refl
    by false = refl

name-here : (c : ℕ) → CompletableHere Calm Anything (named c)
name-here c b t e =
    read_by (named c) (b ∷ t) (λ w. name-byte c b (t ++ w))
    (if-completion (eqb b c) digits (λ w. stop (b ∷ w)) t (λ _ l. digits-completion t l) (λ _ l. no_end (λ w. stop (b ∷ w)) b t l) (subst AtEnd (name-byte c b t) e))

-- ` r0`
pub name-completable : (c : ℕ) → T (opener c) → Completable Calm Quiet Anything (name (c ∷ []))
unfolding name symbol digits is_digit spaces
name-completable c o = skip-completable (named c) (name-here c) (record {
  completion = record {
    more = 32 ∷ c ∷ 48 ∷ [];
    letters = byte 32 (omega arith) (opener-small c o & byte 48 (omega arith) nil);
    value = 0;
    rest = [];
    blank = le_refl 0;
    holds = tt;
    reads = λ u s. ap (named c) (opener-stays c o (48 ∷ u)) ∙ name-byte c c (48 ∷ u) ∙ rw (eq-eqb c c refl) (numeral-over 0 u s.word_ends_lem);
  };
  before = λ u s. opener-quiet c o (48 ∷ u);
})

-- ---- the end of a line: a newline, and anything behind it

pub line-end-completable : {A : Type 0} (a : A) → Completable Anything Quiet Anything (line_end a)
unfolding line_end newline spaces no_sign no_join word_ends is_digit is_letter
line-end-completable a = skip-completable (newline a) (λ b t e. behind-byte (newline a) b t
    (if-completion (eqb b 10) (λ w. took a w) (λ w. stop (b ∷ w)) t
    (λ _ l. record { more = []; letters = nil; value = a; rest = t; blank = l; holds = tt; reads = λ u _. refl }) (λ _ l. no_end (λ w. stop (b ∷ w)) b t l) e)) (record {
      completion = record { more = 10 ∷ []; letters = are_bytes (10 ∷ []) tt; value = a; rest = []; blank = le_refl 0; holds = tt; reads = λ u _. refl };
      before = λ u _. record { calm = record { word_ends_lem = tt; no_sign_lem = tt }; no_join_lem = tt };
    })
