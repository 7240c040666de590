-- Lines leave fewer bytes than they were given, and a text is read line by line, whatever bounds their number.
use Rattle.std.specs.Prelude.{if◌then◌else◌}
use mathlib.Core.Path.{◌≡◌, refl, ap, ◌∙◌}
use mathlib.Core.Bool.{Bool, true, false, ◌&&◌, ◌||◌}
use mathlib.Core.List.{List, [], ◌∷◌}
use Prim.Native.Nat.{ℕ, zero, suc, ◌-◌, ◌≤◌, ◌<◌}
use native.Mathlib.Nat.{le_refl}
use native.Mathlib.Omega.{arith}
use lib.Dec.{eqb}
use lib.ListN.{length}
use Rattle.rules.specs.Format.{Bytes}
use Rattle.rules.specs.Interval.{interval}
use Rattle.rules.specs.Program.{Action, assign, branch, store, load, unlock, lock}
use Rattle.text.specs.Words.{bytes, Read, stop, took, then_read, map_read, is_digit, is_letter, spaces, apart, numeral, digits, number, signed, Word, word, following, whole, or_none, or_whole, spell, keyword, symbol, name, line_end}
use Rattle.text.specs.Notation.{read_sum, read_test}
use Rattle.text.specs.Lines.{Line, locks_line, var_line, reg_line, statement_line, range, word_only, assignment, jump, transfer, actions, action_here, timed, Due, locks_due, var_due, reg_due, statement_due, due_after, openings, takes_times, line_here, read_line, Started, starts, may_end, read_lines}
use Rattle.rules.proofs.Base.{if-ind}
use Rattle.text.proofs.Within.{Within, Shortens, then-within, map-within, on-rest, spaces-shorten, numeral-within, number-within, signed-within, Eats, eats-within, eats-more, spell-eats, keyword-within, symbol-within, name-within, line-end-within}
use Rattle.text.proofs.Turns.{read-sum-within, read-test-within}

-- ---- a word that stands for a reader

-- every word of a list stands for something with a property
pub data Mean {A : Type 0} (P : A → Type 0) : List (Word A) → Type 0 where
  no_words : Mean P []
  one_word : {w : Bytes} {a : A} {ws : List (Word A)} → P a → Mean P ws → Mean P (word w a ∷ ws)

abbrev pub Took : {A : Type 0} → (A → Type 0) → Read A → Type 0
Took P (stop r) = Unit {0}
Took P (took a r) = P a

module _ {A : Type 0} (P : A → Type 0) where
  following-mean : (b : ℕ) (ws : List (Word A)) → Mean P ws → Mean P (following b ws)
  unfolding following
  following-mean b [] h = no_words
  following-mean b (word [] a ∷ ws) (one_word p h) = following-mean b ws h
  following-mean b (word (c ∷ w) a ∷ ws) (one_word p h) =
      if-ind (eqb b c) (word w a ∷ following b ws) (following b ws) (Mean P) (λ _. one_word p (following-mean b ws h)) (λ _. following-mean b ws h)

  whole-took : (ws : List (Word A)) (s : Bytes) (g : Read A) → Mean P ws → Took P g → Took P (or_whole (whole ws) s g)
  unfolding whole or_whole
  whole-took [] s g h k = k
  whole-took (word [] a ∷ ws) s g (one_word p h) k = p
  whole-took (word (c ∷ w) a ∷ ws) s g (one_word p h) k = whole-took ws s g h k

  none-took : {B : Type 0} (xs : List B) (r : Bytes) (g : Read A) → Took P g → Took P (or_none xs (stop r) g)
  unfolding or_none
  none-took [] r g h = tt
  none-took (x ∷ xs) r g h = h

  pub spell-took : (ws : List (Word A)) → Mean P ws → (s : Bytes) → Took P (spell ws s)
  unfolding spell
  spell-took ws h [] = tt
  spell-took ws h (b ∷ s) =
      let f = following-mean b ws h in
      none-took (following b ws) (b ∷ s) (or_whole (whole (following b ws)) s (spell (following b ws) s))
      (whole-took (following b ws) s (spell (following b ws) s) f (spell-took (following b ws) f s))

  apart-took : (a : A) → P a → (s : Bytes) → Took P (apart a s)
  unfolding apart
  apart-took a p [] = p
  apart-took a p (c ∷ s) = if-ind (is_digit c || is_letter c) (stop (c ∷ s)) (took a (c ∷ s)) (Took P) (λ _. tt) (λ _. p)

  then-took : (g : Read A) → Took P g → Took P (then_read g apart)
  unfolding then_read
  then-took (stop r) h = tt
  then-took (took a r) h = apart-took a h r

  pub keyword-took : (ws : List (Word A)) → Mean P ws → (s : Bytes) → Took P (keyword ws s)
  unfolding keyword
  keyword-took ws h s = then-took (spell ws (spaces s)) (spell-took ws h (spaces s))

-- ---- readers that take at least a byte

then-eats : {A B : Type 0} {n : ℕ} (g : Read A) (f : A → Bytes → Read B) → Eats n g → ((a : A) (r : Bytes) → length r < n → Eats n (f a r)) → Eats n (then_read g f)
unfolding then_read
then-eats (stop r) f h k = h
then-eats (took a r) f h k = k a r h

eaten : {A : Type 0} {m n : ℕ} (g : Read A) → m < n → Within m g → Eats n g
eaten (stop r) l h = omega arith
eaten (took a r) l h = omega arith

-- go on after a word with what it stands for
apart-goes : {B : Type 0} {n : ℕ} (f : Bytes → Read B) → Shortens f → (r : Bytes) → length r < n → Eats n (then_read (apart f r) (λ g t. g t))
unfolding then_read apart
apart-goes f h [] l = eaten (f []) l (h [])
apart-goes {n} f h (b ∷ s) l =
    if-ind (is_digit b || is_letter b) (stop (b ∷ s)) (took f (b ∷ s)) (λ x. Eats n (then_read x (λ g t. g t))) (λ _. omega arith) (λ _. eaten (f (b ∷ s)) l (h (b ∷ s)))

go_on_lem : {B : Type 0} (n : ℕ) (g : Read (Bytes → Read B)) → Eats n g → Took Shortens g → Eats n (then_read (then_read g apart) (λ f r. f r))
unfolding then_read
go_on_lem n (stop r) h k = h
go_on_lem n (took f r) h k = apart-goes f k r h

word-goes : {B : Type 0} (ws : List (Word (Bytes → Read B))) → Mean Shortens ws → (s : Bytes) → Eats (length s) (then_read (keyword ws s) (λ f r. f r))
unfolding keyword
word-goes ws h s =
    let t = spaces s in
    eats-more (then_read (then_read (spell ws t) apart) (λ f r. f r)) (spaces-shorten s) (go_on_lem (length t) (spell ws t) (spell-eats ws t) (spell-took Shortens ws h t))

digits-eat : (s : Bytes) → Eats (length s) (digits s)
unfolding digits
digits-eat [] = le_refl 0
digits-eat (b ∷ s) =
    if-ind (is_digit b) (numeral (b - 48) s) (stop (b ∷ s)) (Eats (suc (length s)))
    (λ _. eaten (numeral (b - 48) s) (omega arith) (numeral-within (b - 48) s)) (λ _. le_refl _)

number-eats : (s : Bytes) → Eats (length s) (number s)
unfolding number
number-eats s = eats-more (digits (spaces s)) (spaces-shorten s) (digits-eat (spaces s))

-- ---- what stands on a line

-- what follows the first of two ends
unfoldable pub dots : {A B : Type 0} → (Bytes → Read A) → (A → B) → Bytes → Read B
dots one f r = then_read (symbol (bytes "..") r) (λ _ t. map_read f (one t))

pub dots-within : {A B : Type 0} (one : Bytes → Read A) → Shortens one → (f : A → B) → Shortens (dots one f)
unfolding dots
dots-within one h f s =
    then-within (symbol (bytes "..") s) _ (symbol-within (bytes "..") s) (λ _ t l. map-within (length s) f (one t) (on-rest one h t l))

pub range-within : {A B : Type 0} (one : Bytes → Read A) → Shortens one → (f : A → A → B) → Shortens (range one f)
unfolding range dots
range-within one h f s = then-within (one s) _ (h s) (λ a r l. on-rest (dots one (f a)) (dots-within one h (f a)) r l)

pub word-only-within : (w : Bytes) → Shortens (word_only w)
unfolding word_only
word-only-within w s = keyword-within (word w tt ∷ []) s

pub assignment-within : Shortens assignment
unfolding assignment
assignment-within s =
    then-within (name (bytes "r") s) _ (name-within (bytes "r") s) (λ r t l.
    then-within (symbol (bytes ":=") t) _ (on-rest (symbol (bytes ":=")) (symbol-within (bytes ":=")) t l) (λ _ u k.
    map-within (length s) (assign r) (read_sum u) (on-rest read_sum read-sum-within u k)))

pub jump-within : Shortens jump
unfolding jump
jump-within s =
    then-within (read_test s) _ (read-test-within s) (λ c r l.
    then-within (word_only (bytes "goto") r) _ (on-rest (word_only (bytes "goto")) (word-only-within (bytes "goto")) r l) (λ _ t k.
    map-within (length s) (λ n. branch n c) (number t) (on-rest number number-within t k)))

pub transfer-within : (w : Bytes) (f : ℕ → ℕ → Action) → Shortens (transfer w f)
unfolding transfer
transfer-within w f s =
    then-within (name (bytes "r") s) _ (name-within (bytes "r") s) (λ a r l.
    then-within (word_only w r) _ (on-rest (word_only w) (word-only-within w) r l) (λ _ t k.
    map-within (length s) (f a) (name (bytes "x") t) (on-rest (name (bytes "x")) (name-within (bytes "x")) t k)))

pub lock-within : (f : ℕ → Action) → Shortens (λ s. map_read f (name (bytes "l") s))
lock-within f s = map-within (length s) f (name (bytes "l") s) (name-within (bytes "l") s)

actions-within : Mean Shortens actions
unfolding actions
actions-within =
    one_word (λ s. le_refl (length s)) (one_word jump-within (one_word (transfer-within (bytes "to") store) (one_word (transfer-within (bytes "from") load)
    (one_word (lock-within unlock) (one_word (lock-within lock) no_words)))))

pub action-within : Shortens action_here
unfolding action_here
action-within [] = le_refl 0
action-within (b ∷ s) =
    if-ind (eqb b 114) (assignment (b ∷ s)) (then_read (keyword actions (b ∷ s)) (λ f r. f r)) (Within (suc (length s)))
    (λ _. assignment-within (b ∷ s)) (λ _. eats-within (suc (length s)) (then_read (keyword actions (b ∷ s)) (λ f r. f r)) (word-goes actions actions-within (b ∷ s)))

timed-eats : (s : Bytes) → Eats (length s) (timed s)
unfolding timed range dots
timed-eats s =
    then-eats (range {B = Action → Line} number (λ a b x. statement_line a b x) s) _
    (then-eats (number s) _ (number-eats s) (λ a r l. eaten (dots number (λ b x. statement_line a b x) r) l (dots-within number number-within (λ b x. statement_line a b x) r)))
    (λ f r l. eaten (map_read f (action_here (spaces r))) l (map-within (length r) f (action_here (spaces r)) (on-rest action_here action-within (spaces r) (spaces-shorten r))))

openings-within : (due : Due) → Mean Shortens (openings due)
unfolding openings
openings-within locks_due = one_word (λ s. map-within (length s) locks_line (number s) (number-within s)) no_words
openings-within var_due = one_word (range-within signed signed-within (λ a b. var_line (interval a b))) (one_word (λ s. le_refl (length s)) no_words)
openings-within reg_due = one_word (range-within signed signed-within (λ a b. reg_line (interval a b))) (one_word (λ s. le_refl (length s)) no_words)
openings-within statement_due = one_word (λ s. le_refl (length s)) (one_word (λ s. le_refl (length s)) no_words)

pub line-here-eats : (due : Due) (s : Bytes) → Eats (length s) (line_here due s)
unfolding line_here
line-here-eats due [] = le_refl 0
line-here-eats due (b ∷ s) =
    if-ind (takes_times due && is_digit b) (timed (b ∷ s)) (then_read (keyword (openings due) (b ∷ s)) (λ f r. f r)) (Eats (suc (length s)))
    (λ _. timed-eats (b ∷ s)) (λ _. word-goes (openings due) (openings-within due) (b ∷ s))

pub line-eats : (due : Due) (s : Bytes) → Eats (length s) (read_line due s)
unfolding read_line
line-eats due s =
    then-eats (line_here due (spaces s)) line_end (eats-more (line_here due (spaces s)) (spaces-shorten s) (line-here-eats due (spaces s)))
    (λ x r l. eaten (line_end x r) l (line-end-within x r))

-- ---- line by line

module _ (n : ℕ) where
  same_lines : (k : ℕ) (g : Read Line) (f h : Line → Bytes → Read (List Started)) → Eats k g → ((x : Line) (r : Bytes) → length r < k → f x r ≡ h x r)
      → then_read g f ≡ then_read g h
  unfolding then_read
  same_lines k (stop r) f h e q = refl
  same_lines k (took x r) f h e q = q x r e

  same_if : (b : Bool) (x y z : Read (List Started)) → y ≡ z → (if b then x else y) ≡ (if b then x else z)
  same_if true x y z q = refl
  same_if false x y z q = q

  pub lines-enough : (k m : ℕ) (due : Due) (s : Bytes) → length s ≤ k → length s ≤ m → read_lines n k due s ≡ read_lines n m due s
  unfolding read_lines read_line line_here spaces then_read
  lines-enough zero zero due s h l = refl
  lines-enough zero (suc m) due [] h l = refl
  lines-enough zero (suc m) due (b ∷ s) h l = absurd (omega arith)
  lines-enough (suc k) zero due [] h l = refl
  lines-enough (suc k) zero due (b ∷ s) h l = absurd (omega arith)
  lines-enough (suc k) (suc m) due s h l =
      same_if (may_end due s) (took [] s) _ _
      (same_lines (length s) (read_line due s) _ _ (line-eats due s) (λ x r j.
      ap (map_read (λ xs. starts (n - length s) x ∷ xs)) (lines-enough k m (due_after x) r (omega arith) (omega arith))))

  -- one line
  pub lines-turn : (due : Due) (s : Bytes) → read_lines n (length s) due s
      ≡ (if may_end due s then took [] s else then_read (read_line due s) (λ x r. map_read (λ xs. starts (n - length s) x ∷ xs) (read_lines n (length r) (due_after x) r)))
  unfolding read_lines
  lines-turn due s =
      lines-enough (length s) (suc (length s)) due s (le_refl _) (omega arith)
      ∙ same_if (may_end due s) (took [] s) _ _
      (same_lines (length s) (read_line due s) _ _ (line-eats due s) (λ x r j.
      ap (map_read (λ xs. starts (n - length s) x ∷ xs)) (lines-enough (length s) (length r) (due_after x) r (omega arith) (le_refl _))))
