-- A line, read to the text's end, can be completed.
use mathlib.Core.Bool.{true, ◌&&◌}
use mathlib.Core.List.{List, [], ◌∷◌}
use Prim.Native.Nat.{ℕ}
use native.Mathlib.Nat.{le_refl}
use lib.Dec.{T, eqb}
use Rattle.rules.specs.Format.{Bytes}
use Rattle.rules.specs.Interval.{interval}
use Rattle.rules.specs.Program.{Action, halt, skip, assign, branch, store, load, unlock, lock}
use Rattle.text.specs.Words.{bytes, Read, stop, took, then_read, map_read, is_digit, is_letter, spaces, apart, digits, number, signed, Word, word, following, whole, or_none, or_whole, spell, keyword, symbol, name, line_end}
use Rattle.text.specs.Notation.{read_sum, read_test}
use Rattle.text.specs.Lines.{Line, locks_line, var_line, thread_line, reg_line, statement_line, range, word_only, assignment, jump, transfer, actions, action_here, timed, Due, locks_due, var_due, reg_due, statement_due, openings, takes_times, line_here, read_line, head_line, ends}
use Rattle.text.proofs.LinesWithin.{Mean, no_words, one_word, Took, keyword-took}
use Rattle.text.proofs.Orderly.{AtEnd, Left, Orderly, skip-orderly, then-orderly}
use Rattle.text.proofs.OrderlyWords.{symbol-orderly, keyword-orderly, number-orderly, signed-orderly, name-orderly}
use Rattle.text.proofs.OrderlyExpression.{read-test-orderly}
use Rattle.text.proofs.OrderlyLines.{word-only-orderly, times-orderly, line-here}
use Rattle.text.proofs.Follows.{word_ends, no_sign, no_join, Calm, Quiet, Anything, opener, opener-quiet, all_bytes, are_bytes}
use Rattle.text.proofs.Completes.{Completion, Fresh, Completable, took-completable, map-completable, then-later, then-any, CompletableHere, skip-completable, completes, if-completion, behind-byte, at_byte, seen}
use Rattle.text.proofs.CompletesWords.{lettered, apart-over, keyword-completable, symbol-completable}
use Rattle.text.proofs.CompletesNumbers.{numeral-over, number-completable, signed-completable, name-completable, line-end-completable}
use Rattle.text.proofs.CompletesArith.{read-sum-completable}
use Rattle.text.proofs.CompletesTest.{read-test-completable}

calmer : (u : Bytes) → Quiet u → Calm u
calmer u q = q.calm

-- ---- what stands on a line

range-completable : {A B : Type 0} (one : Bytes → Read A) → Orderly one → Completable Calm Quiet Anything one → (f : A → A → B) → Completable Calm Quiet Anything (range one f)
unfolding range opener no_sign no_join
range-completable one o c f = then-any calmer one o c _ (λ a.
    then-any {Q = Quiet} (λ u _. tt) (symbol (bytes "..")) (symbol-orderly (bytes "..")) (symbol-completable 46 tt (46 ∷ []) tt) _ (λ _. map-completable Anything (f a) (λ _ _. tt) one c))

word-only-completable : (c : ℕ) → T (opener c) → (w : Bytes) → T (all_bytes w && true) → Completable Calm Quiet Anything (word_only (c ∷ w))
unfolding word_only
word-only-completable c o w l = keyword-completable Anything c o w tt [] l (one_word tt no_words)

name-of : (c : ℕ) → T (opener c) → (f : ℕ → Action) → Completable Calm Quiet Anything (λ s. map_read f (name (c ∷ []) s))
name-of c o f = map-completable Anything f (λ _ _. tt) (name (c ∷ [])) (name-completable c o)

assignment-completable : Completable Calm Quiet Anything assignment
unfolding assignment opener no_sign no_join
assignment-completable = then-any calmer (name (bytes "r")) (name-orderly (bytes "r")) (name-completable 114 tt) _ (λ r.
    then-any {Q = Quiet} (λ u _. tt) (symbol (bytes ":=")) (symbol-orderly (bytes ":=")) (symbol-completable 58 tt (61 ∷ []) tt) _ (λ _. map-completable Anything (assign r) (λ _ _. tt) read_sum read-sum-completable))

jump-completable : Completable Calm Quiet Anything jump
unfolding jump opener no_sign no_join
jump-completable = then-any (λ u q. q) read_test read-test-orderly read-test-completable _ (λ c.
    then-any calmer (word_only (bytes "goto")) (word-only-orderly (bytes "goto")) (word-only-completable 103 tt (bytes "oto") tt) _ (λ _. map-completable Anything (λ n. branch n c) (λ _ _. tt) number number-completable))

transfer-completable : (c : ℕ) → T (opener c) → (w : Bytes) → T (all_bytes w && true) → (f : ℕ → ℕ → Action) → Completable Calm Quiet Anything (transfer (c ∷ w) f)
unfolding transfer opener no_sign no_join
transfer-completable c o w l f = then-any calmer (name (bytes "r")) (name-orderly (bytes "r")) (name-completable 114 tt) _ (λ a.
    then-any calmer (word_only (c ∷ w)) (word-only-orderly (c ∷ w)) (word-only-completable c o w l) _ (λ _. name-of 120 tt (f a)))

-- ---- a word and what it stands for

abbrev Goes : {B : Type 0} → (Bytes → Read B) → Type 0
Goes f = Completable Calm Calm Anything f

left-took : {A : Type 0} (P : A → Type 0) (g : Read A) → Took P g → Left (λ a _. P a) g
left-took P (stop r) h = tt
left-took P (took a r) h = h

word-goes : {B : Type 0} (c : ℕ) → T (opener c) → (w : Bytes) (a : Bytes → Read B) (ws : List (Word (Bytes → Read B))) → T (all_bytes w && lettered ws) → Mean Goes (word (c ∷ w) a ∷ ws)
    → (t : Bytes) → AtEnd (then_read (keyword (word (c ∷ w) a ∷ ws) t) (λ f r. f r)) → Completion Calm Anything (λ s. then_read (keyword (word (c ∷ w) a ∷ ws) s) (λ f r. f r)) t
word-goes c o w a ws l means t e =
    let reader = keyword (word (c ∷ w) a ∷ ws) in
    then-later reader (λ f r. f r) (λ f g r l. g.fresh r l) (λ f _. Goes f) t (reader t) (left-took Goes (reader t) (keyword-took Goes (word (c ∷ w) a ∷ ws) means t))
    ((keyword-orderly (word (c ∷ w) a ∷ ws)).extends t) (completes reader (keyword-completable Goes c o w a ws l means) t) (λ f r g l x. g.later r l x) e

taken : {B : Type 0} (a : B) → Goes (λ s. took a s)
taken a = took-completable Calm Calm Anything a tt (λ u s. s)

actions-go : Mean Goes actions
unfolding actions opener no_sign no_join
actions-go =
    one_word (taken skip) (one_word (seen calmer jump jump-completable)
    (one_word (seen calmer (transfer (bytes "to") store) (transfer-completable 116 tt (bytes "o") tt store)) (one_word (seen calmer (transfer (bytes "from") load) (transfer-completable 102 tt (bytes "rom") tt load))
    (one_word (seen calmer (λ s. map_read unlock (name (bytes "l") s)) (name-of 108 tt unlock)) (one_word (seen calmer (λ s. map_read lock (name (bytes "l") s)) (name-of 108 tt lock)) no_words)))))

action-completion : CompletableHere Calm Anything action_here
unfolding action_here actions opener no_sign no_join
action-completion b t e = behind-byte action_here b t
    (if-completion (eqb b 114) (λ w. assignment (b ∷ w)) (λ w. then_read (keyword actions (b ∷ w)) (λ f r. f r)) t
    (λ _ l. at_byte assignment b t (completes assignment assignment-completable (b ∷ t) l))
    (λ _ l. at_byte (λ s. then_read (keyword actions s) (λ f r. f r)) b t (word-goes 115 tt (bytes "kip") _ _ tt actions-go (b ∷ t) l)) e)

-- ` skip`
action-completable : Completable Calm Quiet Anything (λ s. action_here (spaces s))
unfolding action_here actions keyword spell following whole or_none or_whole spaces then_read opener no_sign no_join
action-completable = skip-completable action_here action-completion (record {
  completion = record {
    more = 32 ∷ bytes "skip";
    letters = are_bytes (32 ∷ bytes "skip") tt;
    value = skip;
    rest = [];
    blank = le_refl 0;
    holds = tt;
    reads = λ u s. rw (apart-over {A = Bytes → Read Action} (λ s. took skip s) u s.word_ends_lem);
  };
  before = λ u s. opener-quiet 115 tt (107 ∷ 105 ∷ 112 ∷ u);
})

timed-completable : Completable Calm Quiet Anything timed
unfolding timed
timed-completable =
    then-any calmer (range {B = Action → Line} number (λ a b x. statement_line a b x)) times-orderly (range-completable {B = Action → Line} number number-orderly number-completable (λ a b x. statement_line a b x)) _
    (λ f. map-completable Anything f (λ _ _. tt) (λ r. action_here (spaces r)) action-completable)

-- ---- lines

openings-complete : (due : Due) (t : Bytes) → AtEnd (then_read (keyword (openings due) t) (λ f r. f r)) → Completion Calm Anything (λ s. then_read (keyword (openings due) s) (λ f r. f r)) t
unfolding openings opener no_sign no_join
openings-complete locks_due t e =
    word-goes 108 tt (bytes "ocks") _ [] tt (one_word (seen calmer (λ s. map_read locks_line (number s)) (map-completable Anything locks_line (λ _ _. tt) number number-completable)) no_words) t e
openings-complete var_due t e =
    word-goes 118 tt (bytes "ar") _ _ tt (one_word (seen calmer (range signed (λ a b. var_line (interval a b))) (range-completable signed signed-orderly signed-completable (λ a b. var_line (interval a b)))) (one_word (taken thread_line) no_words)) t e
openings-complete reg_due t e =
    word-goes 114 tt (bytes "eg") _ _ tt (one_word (seen calmer (range signed (λ a b. reg_line (interval a b))) (range-completable signed signed-orderly signed-completable (λ a b. reg_line (interval a b)))) (one_word (taken (statement_line 0 0 halt)) no_words)) t e
openings-complete statement_due t e =
    word-goes 116 tt (bytes "hread") _ _ tt (one_word (taken thread_line) (one_word (taken (statement_line 0 0 halt)) no_words)) t e

line-completion : (due : Due) → CompletableHere Calm Anything (line_here due)
unfolding line_here
line-completion due b t e = behind-byte (line_here due) b t
    (if-completion (takes_times due && is_digit b) (λ w. timed (b ∷ w)) (λ w. then_read (keyword (openings due) (b ∷ w)) (λ f r. f r)) t
    (λ _ l. at_byte timed b t (completes timed timed-completable (b ∷ t) l))
    (λ _ l. at_byte (λ s. then_read (keyword (openings due) s) (λ f r. f r)) b t (openings-complete due (b ∷ t) l)) e)

-- ` locks 0`, ` thread` or ` halt`
line-fresh : (due : Due) → Fresh Calm Quiet Anything (λ s. line_here due (spaces s)) []
unfolding line_here takes_times openings keyword spell following whole or_none or_whole spaces then_read map_read number digits is_digit is_letter apart word_ends opener no_sign no_join
line-fresh locks_due = record {
  completion = record { more = 32 ∷ bytes "locks 0"; letters = are_bytes (32 ∷ bytes "locks 0") tt; value = locks_line 0; rest = []; blank = le_refl 0; holds = tt; reads = λ u s. rw (numeral-over 0 u s.word_ends_lem) };
  before = λ u s. opener-quiet 108 tt (111 ∷ 99 ∷ 107 ∷ 115 ∷ 32 ∷ 48 ∷ u);
}
line-fresh var_due = record {
  completion = record { more = 32 ∷ bytes "thread"; letters = are_bytes (32 ∷ bytes "thread") tt; value = thread_line; rest = []; blank = le_refl 0; holds = tt; reads = λ u s. rw (apart-over {A = Bytes → Read Line} (λ s. took thread_line s) u s.word_ends_lem) };
  before = λ u s. opener-quiet 116 tt (104 ∷ 114 ∷ 101 ∷ 97 ∷ 100 ∷ u);
}
line-fresh reg_due = record {
  completion = record { more = 32 ∷ bytes "halt"; letters = are_bytes (32 ∷ bytes "halt") tt; value = statement_line 0 0 halt; rest = []; blank = le_refl 0; holds = tt; reads = λ u s. rw (apart-over {A = Bytes → Read Line} (λ s. took (statement_line 0 0 halt) s) u s.word_ends_lem) };
  before = λ u s. opener-quiet 104 tt (97 ∷ 108 ∷ 116 ∷ u);
}
line-fresh statement_due = record {
  completion = record { more = 32 ∷ bytes "halt"; letters = are_bytes (32 ∷ bytes "halt") tt; value = statement_line 0 0 halt; rest = []; blank = le_refl 0; holds = tt; reads = λ u s. rw (apart-over {A = Bytes → Read Line} (λ s. took (statement_line 0 0 halt) s) u s.word_ends_lem) };
  before = λ u s. opener-quiet 104 tt (97 ∷ 108 ∷ 116 ∷ u);
}

-- with its newline, and anything behind that
pub line-completable : (due : Due) → Completable Anything Quiet Anything (read_line due)
unfolding read_line
line-completable due =
    then-any calmer (λ s. line_here due (spaces s)) (skip-orderly (line_here due) (line-here due)) (skip-completable (line_here due) (line-completion due) (line-fresh due)) line_end line-end-completable

pub head-completable : {A : Type 0} (c : ℕ) → T (opener c) → (w : Bytes) → T (all_bytes w && true) → (one : Bytes → Read A) → Orderly one → Completable Calm Quiet Anything one → Completable Anything Quiet Anything (head_line (c ∷ w) one)
unfolding head_line
head-completable c o w l one p d =
    then-any calmer (λ s. then_read (word_only (c ∷ w) s) (λ _ r. one r)) (then-orderly (word_only (c ∷ w)) (word-only-orderly (c ∷ w)) (λ _ r. one r) (λ _. p))
    (then-any calmer (word_only (c ∷ w)) (word-only-orderly (c ∷ w)) (word-only-completable c o w l) (λ _ r. one r) (λ _. d)) line_end line-end-completable

pub ends-completable : Completable Calm Quiet Anything ends
unfolding ends
ends-completable = range-completable {B = ℕ × ℕ} number number-orderly number-completable (λ a b. (a, b))
