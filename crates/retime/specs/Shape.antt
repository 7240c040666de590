-- What the code finds and gives back, in terms of the rule.
use Rattle.std.specs.Prelude.{◌≡◌, Bool, ◌&&◌, List, [], ◌∷◌, ℕ, ◌+◌, leb, ℤ, if◌then◌else◌, Option, Some, None, Result, Ok, Err}
use Rattle.rules.specs.Base.{at_front}
use Rattle.rules.specs.Constants.{greatest_time}
use Rattle.rules.specs.Refusal.{number}
use Rattle.rules.specs.Program.{Statement, Program}
use Rattle.rules.specs.Format.{Bytes, byte, num16, got, times_fit, read_sheet}
use Rattle.rules.specs.Encoding.{code_of}
use Rattle.refusal.specs.declared.Refusal.{Refusal}
use Rattle.refusal.specs.declared.Fault.{Fault}
use Rattle.refusal.specs.Shape.{rule_of}
use Rattle.reader.specs.Facts.{statement_in}
use Rattle.label.specs.declared.Answer.{Answer}
use Rattle.label.specs.Shape.{five_of}
use Rattle.retimed.specs.Retime.{is_statement, Change, no_change, Changed, Previewed}
use Rattle.retimed.specs.TakeBack.{TakenBack}
use Rattle.retime.specs.declared.find.Found.{Found}
use Rattle.retime.specs.declared.change.Change as D
use Rattle.retime.specs.declared.change.Changed as C
use Rattle.retime.specs.declared.back.TakenBack as B

-- ---- a statement by its thread and its number

abbrev pub found_of : Statement → Found
found_of x = record { place = x.place; code = code_of x.action; least = x.least; greatest = x.greatest }

-- the same from the bytes at its place
abbrev pub found_at : Bytes → ℕ → Found
found_at s p = record { place = p; code = byte s (p + 7); least = num16 s (p + 3); greatest = num16 s (p + 5) }

unfoldable pub found_in : Program → ℕ → ℕ → Option Found
found_in g t k = if is_statement g t k then Some (found_of (statement_in g t k)) else None

abbrev pub Finds : Bytes → ℕ → ℕ → Option Found → Type 0
Finds s t k f = (g : Program) (e : ℕ) → read_sheet s ≡ got g e → f ≡ found_in g t k

-- the times of a statement of a code
abbrev pub may_by : ℕ → ℕ → ℕ → Bool
may_by code least greatest = times_fit code least greatest && leb greatest greatest_time

-- ---- what the calls give

-- the number of a fault's refusal
abbrev pub number_in : Fault → ℕ
number_in f = number (rule_of f.refusal)

-- a change as the code holds it
abbrev pub change_of : D.Change → Change
change_of c = record {
  thread = c.thread;
  statement = c.statement;
  old_least = c.old_least;
  old_greatest = c.old_greatest;
  new_least = c.new_least;
  new_greatest = c.new_greatest;
}

abbrev pub change_in : Change → D.Change
change_in c = record {
  thread = c.thread;
  statement = c.statement;
  old_least = c.old_least;
  old_greatest = c.old_greatest;
  new_least = c.new_least;
  new_greatest = c.new_greatest;
}

abbrev pub changed_as : ℕ → ℕ → Change → C.Changed
changed_as r p c = record { refusal = r; place = p; change = change_in c }

-- the numbers of an answer, by the result
abbrev pub changed_by : Result D.Change Fault → C.Changed
changed_by (Ok c) = record { refusal = 0; place = 0; change = c }
changed_by (Err f) = changed_as (number_in f) f.place no_change

-- with what the sheet holds afterwards
abbrev pub changed_of : C.Changed → Bytes → Changed
changed_of c sheet = record { refusal = c.refusal; place = c.place; change = change_of c.change; sheet = sheet }

abbrev pub taken_as : ℕ → ℕ → B.TakenBack
taken_as r p = record { refusal = r; place = p }

abbrev pub taken_by : Result (Unit {0}) Fault → B.TakenBack
taken_by (Ok u) = taken_as 0 0
taken_by (Err f) = taken_as (number_in f) f.place

abbrev pub taken_of : B.TakenBack → Bytes → TakenBack
taken_of b sheet = record { refusal = b.refusal; place = b.place; sheet = sheet }

abbrev pub answer_by : Result Answer Fault → Answer
answer_by (Ok a) = a
answer_by (Err f) = five_of (number_in f) f.place 0 0 0

-- what is left in all that was lent to a preview
pub record Leaves (x : Previewed) (sheet copy : Bytes) (work : List ℤ) : Type 0 where
  pub sheet_is : sheet ≡ x.sheet
  pub copy_is : copy ≡ x.copy
  pub work_is : work ≡ x.work

-- ---- what the exported calls give

-- the refusal, and an answer's numbers at the front of an array that has room for them
pub record NumbersIn (refusal : ℕ) (numbers before after : List ℕ) (r : ℕ) : Type 0 where
  pub refusal_is : r ≡ refusal
  pub numbers_are : after ≡ at_front numbers before

-- of a change: refusal, place, thread, statement, old and new times
abbrev pub eight : ℕ → ℕ → Change → List ℕ
eight r p c = r ∷ p ∷ c.thread ∷ c.statement ∷ c.old_least ∷ c.old_greatest ∷ c.new_least ∷ c.new_greatest ∷ []

abbrev pub EightIn : Changed → List ℕ → List ℕ → ℕ → Type 0
EightIn x = NumbersIn x.refusal (eight x.refusal x.place x.change)

-- of a change taken back
abbrev pub TwoIn : TakenBack → List ℕ → List ℕ → ℕ → Type 0
TwoIn x = NumbersIn x.refusal (x.refusal ∷ x.place ∷ [])
