-- The lines of a text (02, ticket 2): which may stand where, and what each says. Numbers may be of any size here.
use Rattle.std.specs.Prelude.{Bool, true, false, ◌&&◌, List, [], ◌∷◌, ℕ, zero, suc, ◌-◌, eqb, length, if◌then◌else◌}
use Rattle.rules.specs.Interval.{Interval, interval}
use Rattle.rules.specs.Program.{Action, halt, skip, assign, branch, store, load, unlock, lock, Header}
use Rattle.rules.specs.Format.{Bytes}
use Rattle.text.specs.Words.{bytes, Read, stop, took, then_read, map_read, is_digit, spaces, number, signed, Word, word, keyword, symbol, name, line_end}
use Rattle.text.specs.Notation.{read_sum, read_test}

-- a line behind `limit`, `budget` and `label`
pub data Line : Type 0 where
  locks_line : ℕ → Line
  var_line : Interval → Line
  thread_line : Line
  reg_line : Interval → Line
  statement_line : ℕ → ℕ → Action → Line

-- ---- what stands on a line, up to its end

-- two ends, as `2..3`
unfoldable pub range : {A B : Type 0} → (Bytes → Read A) → (A → A → B) → Bytes → Read B
range one f s = then_read (one s) (λ a r. then_read (symbol (bytes "..") r) (λ _ t. map_read (f a) (one t)))

-- the one word that may stand here
unfoldable pub word_only : Bytes → Bytes → Read (Unit {0})
word_only w s = keyword (word w tt ∷ []) s

unfoldable pub assignment : Bytes → Read Action
assignment s = then_read (name (bytes "r") s) (λ r t. then_read (symbol (bytes ":=") t) (λ _ u. map_read (assign r) (read_sum u)))

unfoldable pub jump : Bytes → Read Action
jump s = then_read (read_test s) (λ c r. then_read (word_only (bytes "goto") r) (λ _ t. map_read (λ n. branch n c) (number t)))

-- `r0 to x1`, `r0 from x1`
unfoldable pub transfer : Bytes → (ℕ → ℕ → Action) → Bytes → Read Action
transfer w f s = then_read (name (bytes "r") s) (λ a r. then_read (word_only w r) (λ _ t. map_read (f a) (name (bytes "x") t)))

unfoldable pub actions : List (Word (Bytes → Read Action))
actions =
    word (bytes "skip") (λ s. took skip s)
    ∷ word (bytes "if") jump
    ∷ word (bytes "store") (transfer (bytes "to") store)
    ∷ word (bytes "load") (transfer (bytes "from") load)
    ∷ word (bytes "unlock") (λ s. map_read unlock (name (bytes "l") s))
    ∷ word (bytes "lock") (λ s. map_read lock (name (bytes "l") s))
    ∷ []

unfoldable pub action_here : Bytes → Read Action
action_here [] = stop []
action_here (b ∷ s) = if eqb b 114 then assignment (b ∷ s) else then_read (keyword actions (b ∷ s)) (λ f r. f r)

-- "One statement a line: its times as `2..3`", then what it does; "`halt` has no times"
unfoldable pub timed : Bytes → Read Line
timed s = then_read (range {B = Action → Line} number (λ a b x. statement_line a b x) s) (λ f r. map_read f (action_here (spaces r)))

-- ---- the order of lines: `limit`, `budget`, `label`, `locks`, then `var` lines, then each `thread` with its `reg` lines

-- what is due: `locks`; `var` or `thread`; `reg` or a statement; a statement, `thread` or the text's end
pub data Due : Type 0 where
  locks_due var_due reg_due statement_due : Due

unfoldable pub due_after : Line → Due
due_after (locks_line n) = var_due
due_after (var_line i) = var_due
due_after thread_line = reg_due
due_after (reg_line i) = reg_due
due_after (statement_line a b x) = statement_due

unfoldable pub openings : Due → List (Word (Bytes → Read Line))
openings locks_due = word (bytes "locks") (λ s. map_read locks_line (number s)) ∷ []
openings var_due =
    word (bytes "var") (range signed (λ a b. var_line (interval a b)))
    ∷ word (bytes "thread") (λ s. took thread_line s)
    ∷ []
openings reg_due =
    word (bytes "reg") (range signed (λ a b. reg_line (interval a b)))
    ∷ word (bytes "halt") (λ s. took (statement_line 0 0 halt) s)
    ∷ []
openings statement_due =
    word (bytes "thread") (λ s. took thread_line s)
    ∷ word (bytes "halt") (λ s. took (statement_line 0 0 halt) s)
    ∷ []

unfoldable pub takes_times : Due → Bool
takes_times locks_due = false
takes_times var_due = false
takes_times reg_due = true
takes_times statement_due = true

unfoldable pub line_here : Due → Bytes → Read Line
line_here due [] = stop []
line_here due (b ∷ s) =
    if takes_times due && is_digit b then timed (b ∷ s) else then_read (keyword (openings due) (b ∷ s)) (λ f r. f r)

unfoldable pub read_line : Due → Bytes → Read Line
read_line due s = then_read (line_here due (spaces s)) line_end

-- ---- the whole text

-- a line, and the place of its first byte, behind the last newline: that may be a space
pub data Started : Type 0 where
  starts : ℕ → Line → Started

unfoldable pub may_end : Due → Bytes → Bool
may_end locks_due s = false
may_end var_due s = false
may_end reg_due s = false
may_end statement_due [] = true
may_end statement_due (b ∷ s) = false

-- all lines, in a text of n bytes: the second number only bounds how many
unfoldable pub read_lines : ℕ → ℕ → Due → Bytes → Read (List Started)
read_lines n zero due s = if may_end due s then took [] s else stop s
read_lines n (suc k) due s =
    let more = then_read (read_line due s) (λ x r. map_read (λ xs. starts (n - length s) x ∷ xs) (read_lines n k (due_after x) r)) in
    if may_end due s then took [] s else more

-- what a text says; `limit` stands at place 0
pub record Text : Type 0 where
  pub header : Header
  pub budget_at : ℕ
  pub label_at : ℕ
  pub lines : List Started

unfoldable pub head_line : {A : Type 0} → Bytes → (Bytes → Read A) → Bytes → Read A
head_line w one s = then_read (then_read (word_only w s) (λ _ r. one r)) line_end

unfoldable pub ends : Bytes → Read (ℕ × ℕ)
ends s = range {B = ℕ × ℕ} number (λ a b. (a, b)) s

unfoldable pub read_text : Bytes → Read Text
read_text s =
    let n = length s in
    then_read (head_line (bytes "limit") number s) (λ limit r.
    then_read (head_line (bytes "budget") number r) (λ budget t.
    then_read (head_line (bytes "label") ends t) (λ label u.
    map_read (λ xs. record {
      header = record { limit = limit; budget = budget; label_low = label.0; label_high = label.1 };
      budget_at = n - length r;
      label_at = n - length t;
      lines = xs;
    }) (read_lines n (length u) locks_due u))))
