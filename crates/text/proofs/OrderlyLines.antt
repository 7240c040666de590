-- Lines are read in order.
use mathlib.Core.Bool.{◌&&◌}
use mathlib.Core.List.{List, [], ◌∷◌, ◌++◌}
use Prim.Native.Nat.{ℕ}
use native.Mathlib.Decide.{dec_lt}
use native.Mathlib.Omega.{arith}
use lib.Dec.{eqb}
use lib.ListN.{length}
use Rattle.rules.specs.Format.{Bytes}
use Rattle.rules.specs.Interval.{interval}
use Rattle.rules.specs.Program.{Action, halt, skip, assign, branch, store, load, unlock, lock}
use Rattle.text.specs.Words.{bytes, Read, stop, took, then_read, is_digit, spaces, number, signed, Word, word, keyword, symbol, name, line_end}
use Rattle.text.specs.Notation.{read_sum, read_test}
use Rattle.text.specs.Lines.{Line, locks_line, var_line, thread_line, reg_line, statement_line, range, word_only, assignment, jump, transfer, actions, action_here, timed, Due, locks_due, var_due, reg_due, statement_due, openings, takes_times, line_here, read_line}
use Rattle.text.proofs.Within.{Within, on-rest, eats-within}
use Rattle.text.proofs.LinesWithin.{Mean, no_words, one_word, Took, keyword-took, action-within, line-here-eats}
use Rattle.text.proofs.Orderly.{WithinPast, past_more, Extends, end-extends, if-extends, Orderly, OrderlyHere, skip-orderly, took-orderly, then-orderly, map-orderly}
use Rattle.text.proofs.OrderlyWords.{symbol-orderly, keyword-orderly, number-orderly, signed-orderly, name-orderly, line-end-orderly}
use Rattle.text.proofs.OrderlyExpression.{read-sum-orderly, read-test-orderly}

-- ---- what stands on a line

pub range-orderly : {A B : Type 0} (one : Bytes → Read A) → Orderly one → (f : A → A → B) → Orderly (range one f)
unfolding range
range-orderly one o f = then-orderly one o _ (λ a. then-orderly (symbol (bytes "..")) (symbol-orderly (bytes "..")) _ (λ _. map-orderly one o (f a)))

pub word-only-orderly : (w : Bytes) → Orderly (word_only w)
unfolding word_only
word-only-orderly w = keyword-orderly (word w tt ∷ [])

assignment-orderly : Orderly assignment
unfolding assignment
assignment-orderly =
    then-orderly (name (bytes "r")) (name-orderly (bytes "r")) _ (λ r. then-orderly (symbol (bytes ":=")) (symbol-orderly (bytes ":=")) _ (λ _. map-orderly read_sum read-sum-orderly (assign r)))

jump-orderly : Orderly jump
unfolding jump
jump-orderly = then-orderly read_test read-test-orderly _ (λ c. then-orderly (word_only (bytes "goto")) (word-only-orderly (bytes "goto")) _ (λ _. map-orderly number number-orderly (λ n. branch n c)))

transfer-orderly : (w : Bytes) (f : ℕ → ℕ → Action) → Orderly (transfer w f)
unfolding transfer
transfer-orderly w f = then-orderly (name (bytes "r")) (name-orderly (bytes "r")) _ (λ a. then-orderly (word_only w) (word-only-orderly w) _ (λ _. map-orderly (name (bytes "x")) (name-orderly (bytes "x")) (f a)))

-- ---- a word and what it stands for

module _ {B : Type 0} where
  apply : Read (Bytes → Read B) → Read B
  apply g = then_read g (λ f r. f r)

  apply-within : (n : ℕ) (g : Read (Bytes → Read B)) → Within n g → Took Orderly g → Within n (apply g)
  unfolding apply then_read
  apply-within n (stop r) h k = h
  apply-within n (took f r) h k = on-rest f k.shorter r h

  apply-past : (n : ℕ) (g : Read (Bytes → Read B)) → WithinPast n g → Took Orderly g → WithinPast n (apply g)
  unfolding apply then_read
  apply-past n (stop r) h k = h
  apply-past n (took f r) h k = past_more (f r) h (k.skips r)

  apply-extends : (u : Bytes) (g h : Read (Bytes → Read B)) → Extends u g h → Took Orderly g → Took Orderly h → Extends u (apply g) (apply h)
  unfolding apply then_read
  apply-extends u (stop r) h e k j = (λ l. rw (e.0 l), λ l. apply-past (length u) h (e.1 l) j)
  apply-extends u (took f r) h e k j = elim (dec_lt 0 (length (spaces r))) [
    | yes l ↦ rw (e.0 l) (k.extends r u)
    | no l ↦ end-extends u (f r) (apply h) (past_more (f r) (omega arith) (k.skips r)) (apply-past (length u) h (e.1 (omega arith)) j)
  ]

  pub word-orderly : (ws : List (Word (Bytes → Read B))) → Mean Orderly ws → Orderly (λ s. then_read (keyword ws s) (λ f r. f r))
  unfolding apply
  word-orderly ws h = record {
    shorter = λ s. apply-within (length s) (keyword ws s) ((keyword-orderly ws).shorter s) (keyword-took Orderly ws h s);
    skips = λ s. apply-past (length (spaces s)) (keyword ws s) ((keyword-orderly ws).skips s) (keyword-took Orderly ws h s);
    extends = λ t u. apply-extends u (keyword ws t) (keyword ws (t ++ u)) ((keyword-orderly ws).extends t u) (keyword-took Orderly ws h t) (keyword-took Orderly ws h (t ++ u));
  }

actions-orderly : Mean Orderly actions
unfolding actions
actions-orderly =
    one_word (took-orderly skip)
    (one_word jump-orderly
    (one_word (transfer-orderly (bytes "to") store)
    (one_word (transfer-orderly (bytes "from") load)
    (one_word (map-orderly (name (bytes "l")) (name-orderly (bytes "l")) unlock) (one_word (map-orderly (name (bytes "l")) (name-orderly (bytes "l")) lock) no_words)))))

action-here : OrderlyHere action_here
unfolding action_here
action-here = record {
  shorter = action-within;
  extends = λ b t u.
      if-extends u (eqb b 114) (assignment (b ∷ t)) (then_read (keyword actions (b ∷ t)) (λ f r. f r)) (assignment (b ∷ t ++ u)) (then_read (keyword actions (b ∷ t ++ u)) (λ f r. f r))
      (assignment-orderly.extends (b ∷ t) u) ((word-orderly actions actions-orderly).extends (b ∷ t) u);
}

-- ---- lines

pub times-orderly : Orderly (range {B = Action → Line} number (λ a b x. statement_line a b x))
times-orderly = range-orderly {B = Action → Line} number number-orderly (λ a b x. statement_line a b x)

timed-orderly : Orderly timed
unfolding timed
timed-orderly =
    then-orderly (range {B = Action → Line} number (λ a b x. statement_line a b x)) times-orderly _ (λ f. map-orderly (λ r. action_here (spaces r)) (skip-orderly action_here action-here) f)

openings-orderly : (due : Due) → Mean Orderly (openings due)
unfolding openings
openings-orderly locks_due = one_word (map-orderly number number-orderly locks_line) no_words
openings-orderly var_due = one_word (range-orderly signed signed-orderly (λ a b. var_line (interval a b))) (one_word (took-orderly thread_line) no_words)
openings-orderly reg_due = one_word (range-orderly signed signed-orderly (λ a b. reg_line (interval a b))) (one_word (took-orderly (statement_line 0 0 halt)) no_words)
openings-orderly statement_due = one_word (took-orderly thread_line) (one_word (took-orderly (statement_line 0 0 halt)) no_words)

pub line-here : (due : Due) → OrderlyHere (line_here due)
unfolding line_here
line-here due = record {
  shorter = λ s. eats-within (length s) (line_here due s) (line-here-eats due s);
  extends = λ b t u.
      let ws = openings due in
      if-extends u (takes_times due && is_digit b) (timed (b ∷ t)) (then_read (keyword ws (b ∷ t)) (λ f r. f r)) (timed (b ∷ t ++ u)) (then_read (keyword ws (b ∷ t ++ u)) (λ f r. f r))
      (timed-orderly.extends (b ∷ t) u) ((word-orderly ws (openings-orderly due)).extends (b ∷ t) u);
}

pub line-orderly : (due : Due) → Orderly (read_line due)
unfolding read_line
line-orderly due = then-orderly (λ s. line_here due (spaces s)) (skip-orderly (line_here due) (line-here due)) line_end line-end-orderly
