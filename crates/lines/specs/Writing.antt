-- What the code reads and writes of a line: the rules' own reading, and the bytes of what was read.
use Rattle.std.specs.Prelude.{◌≡◌, Bool, ◌&&◌, [], ◌∷◌, ◌++◌, ℕ, ◌+◌, ◌-◌, Result, Ok, Err, ltb, length, drop, if◌then◌else◌}
use Rattle.std.proofs.lemmas.List.Edits.{sets}
use Rattle.rules.specs.Format.{Bytes}
use Rattle.rules.specs.Interval.{Interval}
use Rattle.rules.specs.Program.{Action, skip, store, load, unlock, lock}
use Rattle.rules.specs.Encoding.{two, four, field, code_of, encode_operands}
use Rattle.text.specs.Words.{bytes, Read, stop, took, then_read, map_read, name, keyword}
use Rattle.text.specs.Lines.{Line, word_only, jump, transfer, actions, Due, locks_due, var_due, reg_due, statement_due, due_after}
use Rattle.text.specs.Convert.{action_fits, line_fits, fits_byte, field_of}
use Rattle.scan.specs.Writing.{Wrote}
use Rattle.scan.specs.declared.step.Built.{Built}
use Rattle.lines.specs.declared.ranges.Pair.{Pair}
use Rattle.lines.specs.declared.actions.Opening.{Opening}
use Rattle.lines.specs.declared.actions.Opening.TheVariants as opening
use Rattle.lines.specs.declared.line.Due as D
use Rattle.lines.specs.declared.line.Due.TheVariants as due
use Rattle.lines.specs.Registers.{ahead_of}

-- ---- bytes of fields

abbrev pub field_of_one : ℕ → ℕ → Bytes
field_of_one tag n = field tag (n ∷ [])

abbrev pub range_bytes : ℕ → ℕ → ℕ → Bytes
range_bytes tag a b = field tag (four a ++ four b)

-- a statement before its operands
abbrev pub front_bytes : ℕ → ℕ → ℕ → ℕ → Bytes
front_bytes size a b code = 6 ∷ two size ++ two a ++ two b ++ code ∷ []

-- the field of two values that were read, where both fit
abbrev pub pair_fits : Pair → Bool
pair_fits x = ltb x.low 4294967296 && ltb x.high 4294967296

abbrev pub put_pair : Bytes → ℕ → ℕ → Pair → Bytes
put_pair out at tag x = if pair_fits x then sets out at (range_bytes tag x.low x.high) else out

-- ---- something was read, up to q, and written: its bytes may tell of what follows

pub record Put {A K : Type 0} (write : Bytes → A → Bytes) (fits : A → Bool) (kind : A → K)
    (s out : Bytes) (at : ℕ) (after : Bytes) (g : Read A) (k : K) (q end : ℕ) (fit : Bool) : Type 0 where
  pub thing : A
  pub is : g ≡ took thing (drop q s)
  pub kind_is : k ≡ kind thing
  pub fit_is : fit ≡ fits thing
  pub wrote : Wrote out at (write (drop q s) thing) fit after end

-- ---- what a statement does

unfoldable pub Acts : Bytes → Bytes → ℕ → Bytes → Read Action → Result (Built ℕ) ℕ → Type 0
Acts s out at after g (Ok x) = Put (λ _. encode_operands) action_fits code_of s out at after g x.kind x.place x.end x.fits
Acts s out at after g (Err q) = g ≡ stop (drop q s)

-- a code says its action, of one name or of two
pub record OneName (c : ℕ) (f : ℕ → Action) : Type 0 where
  pub code_is : (a : ℕ) → code_of (f a) ≡ c
  pub bytes_are : (a : ℕ) → encode_operands (f a) ≡ a ∷ []
  pub fits_is : (a : ℕ) → action_fits (f a) ≡ fits_byte a

pub record TwoNames (c : ℕ) (f : ℕ → ℕ → Action) : Type 0 where
  pub code_is : (a b : ℕ) → code_of (f a b) ≡ c
  pub bytes_are : (a b : ℕ) → encode_operands (f a b) ≡ a ∷ b ∷ []
  pub fits_is : (a b : ℕ) → action_fits (f a b) ≡ (fits_byte a && fits_byte b)

-- the word that opens a statement, and what stands behind it
abbrev pub word_of : Opening → Bytes
word_of opening.Skip = bytes "skip"
word_of opening.If = bytes "if"
word_of opening.Store = bytes "store"
word_of opening.Load = bytes "load"
word_of opening.Unlock = bytes "unlock"
word_of opening.Lock = bytes "lock"

abbrev pub action_of : Opening → Bytes → Read Action
action_of opening.Skip = λ s. took skip s
action_of opening.If = jump
action_of opening.Store = transfer (bytes "to") store
action_of opening.Load = transfer (bytes "from") load
action_of opening.Unlock = λ s. map_read unlock (name (bytes "l") s)
action_of opening.Lock = λ s. map_read lock (name (bytes "l") s)

-- of the words that may stand here, this one decides
unfoldable pub ActionWord : Bytes → Opening → Type 0
ActionWord s w = then_read (keyword actions s) (λ f r. f r) ≡ then_read (word_only (word_of w) s) (λ _ r. action_of w r)

-- ---- a line

abbrev pub times_small : Pair → Bool
times_small x = ltb x.low 65536 && ltb x.high 65536

-- a statement's front, where its times fit and it has room up to its end
abbrev pub put_timed : Bytes → ℕ → ℕ → Pair → ℕ → Bytes
put_timed out at end x code =
    if ltb (length out) end then out
    else if ltb end (at + 8) then out
    else if times_small x then sets out at (front_bytes (end - at - 3) x.low x.high code)
    else out

abbrev pub due_of : D.Due → Due
due_of due.Locks = locks_due
due_of due.Var = var_due
due_of due.Reg = reg_due
due_of due.Statement = statement_due

-- a line's field, with the registers that the bytes behind it bring
abbrev pub field_before : Bytes → Line → Bytes
field_before s x = field_of (ahead_of (due_after x) s) x

unfoldable pub Lines : Bytes → Bytes → ℕ → Bytes → Read Line → Result (Built D.Due) ℕ → Type 0
Lines s out at after g (Ok x) = Put field_before line_fits due_after s out at after g (due_of x.kind) x.place x.end x.fits
Lines s out at after g (Err q) = g ≡ stop (drop q s)

-- a tag says its range
pub record RangeTag (tag : ℕ) (f : Interval → Line) : Type 0 where
  pub bytes_are : (n : ℕ) (i : Interval) → field_of n (f i) ≡ Rattle.rules.specs.Encoding.encode_range tag i
  pub fits_is : (i : Interval) → line_fits (f i) ≡ Rattle.text.specs.Convert.range_fits i
