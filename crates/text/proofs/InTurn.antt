-- A text that reads has its lines in turn: `locks`, `var` lines, then threads, each with its `reg` lines and a statement or more;
-- and nothing is left behind them.
use mathlib.Core.Path.{◌≡◌, refl, subst}
use mathlib.Core.Bool.{◌&&◌}
use mathlib.Core.List.{List, [], ◌∷◌}
use Prim.Native.Nat.{ℕ, zero, suc, ◌-◌}
use lib.Dec.{T, eqb}
use lib.ListN.{length}
use Rattle.rules.specs.Format.{Bytes}
use Rattle.rules.specs.Interval.{interval}
use Rattle.rules.specs.Program.{Action, halt}
use Rattle.text.specs.Words.{bytes, Read, stop, took, then_read, map_read, is_digit, spaces, number, signed, keyword, symbol, newline, line_end}
use Rattle.text.specs.Lines.{Line, locks_line, var_line, reg_line, statement_line, range, action_here, timed, Due, locks_due, var_due, reg_due, statement_due, due_after, openings, takes_times, line_here, read_line, Started, starts, may_end, read_lines, Text, head_line, ends, read_text}
use Rattle.rules.proofs.Base.{if-ind, and_left}
use Rattle.text.specs.Says.{bare}
use Rattle.text.specs.Claims.{MayStand, locks_first, another_var, first_thread, another_reg, first_statement, another_statement, another_thread, InTurn, at_end, one_line}
use Rattle.text.proofs.LinesWithin.{Mean, no_words, one_word, Took, keyword-took}

-- ---- a property of what is taken

module _ {A B : Type 0} (P : B → Type 0) where
  pub then-any : (g : Read A) (f : A → Bytes → Read B) → ((a : A) (r : Bytes) → Took P (f a r)) → Took P (then_read g f)
  unfolding then_read
  then-any (stop r) f h = tt
  then-any (took a r) f h = h a r

  pub then-with : (Q : A → Type 0) (g : Read A) (f : A → Bytes → Read B) → Took Q g → ((a : A) (r : Bytes) → Q a → Took P (f a r)) → Took P (then_read g f)
  unfolding then_read
  then-with Q (stop r) f k h = tt
  then-with Q (took a r) f k h = h a r k

  map-any : (f : A → B) (g : Read A) → ((a : A) → P (f a)) → Took P (map_read f g)
  unfolding map_read
  map-any f (stop r) h = tt
  map-any f (took a r) h = h a

range-took : {A B : Type 0} (P : B → Type 0) (one : Bytes → Read A) (f : A → A → B) → ((a c : A) → P (f a c)) → (s : Bytes) → Took P (range one f s)
unfolding range
range-took P one f h s = then-any P (one s) _ (λ a r. then-any P (symbol (bytes "..") r) _ (λ _ t. map-any P (f a) (one t) (h a)))

pub line-end-took : {A : Type 0} (P : A → Type 0) (a : A) → P a → (s : Bytes) → Took P (newline a s)
unfolding newline
line-end-took P a p [] = p
line-end-took P a p (c ∷ s) = if-ind (eqb c 10) (took a s) (stop (c ∷ s)) (Took P) (λ _. p) (λ _. tt)

-- ---- one line

-- a reader that takes only lines that may stand where that is due
abbrev pub Suits : Due → (Bytes → Read Line) → Type 0
Suits due f = (s : Bytes) → Took (MayStand due) (f s)

openings-suit : (due : Due) → Mean (Suits due) (openings due)
unfolding openings
openings-suit locks_due = one_word (λ s. map-any (MayStand locks_due) locks_line (number s) locks_first) no_words
openings-suit var_due =
    one_word (range-took (MayStand var_due) signed (λ a c. var_line (interval a c)) (λ a c. another_var (interval a c))) (one_word (λ s. first_thread) no_words)
openings-suit reg_due =
    one_word (range-took (MayStand reg_due) signed (λ a c. reg_line (interval a c)) (λ a c. another_reg (interval a c))) (one_word (λ s. first_statement 0 0 halt) no_words)
openings-suit statement_due = one_word (λ s. another_thread) (one_word (λ s. another_statement 0 0 halt) no_words)

word-suits : (due : Due) (s : Bytes) → Took (MayStand due) (then_read (keyword (openings due) s) (λ f r. f r))
word-suits due s =
    then-with (MayStand due) (Suits due) (keyword (openings due) s) (λ f r. f r) (keyword-took (Suits due) (openings due) (openings-suit due) s) (λ f r p. p r)

statement-suits : (due : Due) → T (takes_times due) → (a c : ℕ) (x : Action) → MayStand due (statement_line a c x)
unfolding takes_times
statement-suits locks_due t a c x = absurd t
statement-suits var_due t a c x = absurd t
statement-suits reg_due t a c x = first_statement a c x
statement-suits statement_due t a c x = another_statement a c x

pub timed-suits : (due : Due) → T (takes_times due) → Suits due timed
unfolding timed
timed-suits due t s =
    then-with (MayStand due) (λ (f : Action → Line). (x : Action) → MayStand due (f x)) (range {B = Action → Line} number (λ a c x. statement_line a c x) s) _
    (range-took (λ (f : Action → Line). (x : Action) → MayStand due (f x)) number (λ a c x. statement_line a c x) (λ a c x. statement-suits due t a c x) s)
    (λ f r p. map-any (MayStand due) f (action_here (spaces r)) p)

here-suits : (due : Due) → Suits due (line_here due)
unfolding line_here
here-suits due [] = tt
here-suits due (c ∷ s) =
    if-ind (takes_times due && is_digit c) (timed (c ∷ s)) (then_read (keyword (openings due) (c ∷ s)) (λ f r. f r)) (Took (MayStand due))
    (λ t. timed-suits due (and_left (takes_times due) (is_digit c) t) (c ∷ s)) (λ _. word-suits due (c ∷ s))

pub line-suits : (due : Due) → Suits due (read_line due)
unfolding read_line line_end
line-suits due s = then-with (MayStand due) (MayStand due) (line_here due (spaces s)) line_end (here-suits due (spaces s)) (λ z r p. line-end-took (MayStand due) z p (spaces r))

-- ---- all lines

-- in turn, with nothing left
abbrev WholeRead : Due → Read (List Started) → Type 0
WholeRead due (stop r) = Unit {0}
WholeRead due (took xs r) = InTurn due (bare xs) × (r ≡ [])

over : (due : Due) (s : Bytes) → T (may_end due s) → WholeRead due (took [] s)
unfolding may_end bare
over locks_due s t = absurd t
over var_due s t = absurd t
over reg_due s t = absurd t
over statement_due [] t = (at_end, refl)
over statement_due (c ∷ s) t = absurd t

one_more : (due : Due) (p : ℕ) (x : Line) → MayStand due x → (g : Read (List Started)) → WholeRead (due_after x) g → WholeRead due (map_read (λ xs. starts p x ∷ xs) g)
unfolding map_read bare
one_more due p x a (stop r) h = tt
one_more due p x a (took xs r) h = (one_line a h.0, h.1)

then-more : (due : Due) (g : Read Line) (f : Line → Bytes → Read (List Started)) → Took (MayStand due) g → ((x : Line) (r : Bytes) → MayStand due x → WholeRead due (f x r)) → WholeRead due (then_read g f)
unfolding then_read
then-more due (stop r) f k h = tt
then-more due (took x r) f k h = h x r k

lines-in-turn : (n k : ℕ) (due : Due) (s : Bytes) → WholeRead due (read_lines n k due s)
unfolding read_lines
lines-in-turn n zero due s = if-ind (may_end due s) (took [] s) (stop s) (WholeRead due) (over due s) (λ _. tt)
lines-in-turn n (suc k) due s =
    if-ind (may_end due s) (took [] s) _ (WholeRead due) (over due s) (λ _.
    then-more due (read_line due s) _ (line-suits due s) (λ x r a. one_more due (n - length s) x a (read_lines n k (due_after x) r) (lines-in-turn n k (due_after x) r)))

-- ---- the text

abbrev TextWhole : Read Text → Type 0
TextWhole (stop r) = Unit {0}
TextWhole (took t r) = InTurn locks_due (bare t.lines) × (r ≡ [])

then-text : {A : Type 0} (g : Read A) (f : A → Bytes → Read Text) → ((a : A) (r : Bytes) → TextWhole (f a r)) → TextWhole (then_read g f)
unfolding then_read
then-text (stop r) f h = tt
then-text (took a r) f h = h a r

map-text : (f : List Started → Text) → ((xs : List Started) → (f xs).lines ≡ xs) → (g : Read (List Started)) → WholeRead locks_due g → TextWhole (map_read f g)
unfolding map_read
map-text f q (stop r) h = tt
map-text f q (took xs r) h = (rw (q xs) h.0, h.1)

text_in-turn : (s : Bytes) → TextWhole (read_text s)
unfolding read_text
text_in-turn s =
    then-text (head_line (bytes "limit") number s) _ (λ limit r.
    then-text (head_line (bytes "budget") number r) _ (λ budget t.
    then-text (head_line (bytes "label") ends t) _ (λ label u.
    map-text _ (λ xs. refl) (read_lines (length s) (length u) locks_due u) (lines-in-turn (length s) (length u) locks_due u))))

pub in_turn : (text : Bytes) (t : Text) (r : Bytes) → read_text text ≡ took t r → InTurn locks_due (bare t.lines) × (r ≡ [])
in_turn text t r h = subst TextWhole h (text_in-turn text)
