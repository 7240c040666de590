-- New times on one statement, and the check's answer with them (02, ticket 7); what the change returns (ticket 8).
use Rattle.std.specs.Prelude.{Bool, ◌&&◌, List, ℕ, ◌+◌, ◌/◌, ◌%◌, leb, ltb, ℤ, pos, length, replicate, set}
use Rattle.rules.specs.Refusal.{number, no_such_name, off_range, output_full}
use Rattle.rules.specs.Constants.{greatest_time}
use Rattle.rules.specs.Program.{Statement, Thread, Program}
use Rattle.rules.specs.Format.{Bytes, Got, bad, got, need, and_then, times_fit, read_sheet}
use Rattle.rules.specs.Encoding.{code_of}
use Rattle.rules.specs.Search.{Answer, five, answer}
use Rattle.reader.specs.Facts.{thread_in, statement_in}

-- ---- the change

-- "The change writes the four time bytes in the sheet and no other byte": those of the statement whose field stands at p
unfoldable pub retimed : Bytes → ℕ → ℕ → ℕ → Bytes
retimed s p least greatest =
    set (set (set (set s (p + 3) (least / 256)) (p + 4) (least % 256)) (p + 5) (greatest / 256)) (p + 6) (greatest % 256)

-- "one statement, named by thread and statement number from 0": whether there is such a statement
unfoldable pub is_statement : Program → ℕ → ℕ → Bool
is_statement g t k = ltb t (length g.threads) && ltb k (length (thread_in g t).statements)

-- "times that statement may [..] have", by 01: "Halt has times 0 and 0; all others have least at least 1, greatest at most 65,535"
unfoldable pub may_have : Statement → ℕ → ℕ → Bool
may_have x least greatest = times_fit (code_of x.action) least greatest && leb greatest greatest_time

-- "Refused: the sheet's own number from 1 to 9, [..] then 5 for no such statement, [..] with place 0". Otherwise what follows for the
-- statement, and for where the reading ended
unfoldable pub on_statement : {A : Type 0} → Bytes → ℕ → ℕ → (Statement → ℕ → Got A) → Got A
on_statement s t k then = and_then (read_sheet s) (λ g e. need (is_statement g t k) no_such_name 0 (then (statement_in g t k) e))

-- what a change did: "the old and new times with thread and statement number" (ticket 8)
pub record Change : Type 0 where
  pub thread : ℕ
  pub statement : ℕ
  pub old_least : ℕ
  pub old_greatest : ℕ
  pub new_least : ℕ
  pub new_greatest : ℕ

-- statement k of thread t, from times a, b to times c, d
abbrev pub from_to : ℕ → ℕ → ℕ → ℕ → ℕ → ℕ → Change
from_to t k a b c d = record { thread = t; statement = k; old_least = a; old_greatest = b; new_least = c; new_greatest = d }

-- the statement having been x
abbrev pub did : ℕ → ℕ → Statement → ℕ → ℕ → Change
did t k x least greatest = from_to t k x.least x.greatest least greatest

-- "(zeros if refused)"
abbrev pub no_change : Change
no_change = from_to 0 0 0 0 0 0

-- a sheet that was changed, and what the change did
pub record Done : Type 0 where
  pub sheet : Bytes
  pub change : Change

-- "then 4 for times that statement may not have, [..] with place 0". Otherwise the changed sheet, and what was done
abbrev pub change_times : Bytes → ℕ → ℕ → ℕ → ℕ → Got Done
change_times s t k least greatest =
    on_statement s t k (λ x e.
    need (may_have x least greatest) off_range 0 (
    got (record { sheet = retimed s x.place least greatest; change = did t k x least greatest }) e))

-- the answer of the call, 0 and 0 where the change is made, and what the sheet holds afterwards
pub record Changed : Type 0 where
  pub refusal : ℕ
  pub place : ℕ
  pub change : Change
  pub sheet : Bytes

-- refused, "the sheet unchanged"
unfoldable pub changed : Bytes → Got Done → Changed
changed s (bad r p) = record { refusal = number r; place = p; change = no_change; sheet = s }
changed s (got d e) = record { refusal = 0; place = 0; change = d.change; sheet = d.sheet }

unfoldable pub change : Bytes → ℕ → ℕ → ℕ → ℕ → Changed
change s t k least greatest = changed s (change_times s t k least greatest)

-- ---- the program that the changed sheet reads as: the same, but for those times

unfoldable pub with_times : ℕ → ℕ → Statement → Statement
with_times least greatest x = record { place = x.place; least = least; greatest = greatest; action = x.action }

unfoldable pub with_statement : ℕ → Statement → Thread → Thread
with_statement k x t = record { place = t.place; regs = t.regs; statements = set t.statements k x }

-- with another statement k of thread t
unfoldable pub edited : Program → ℕ → ℕ → Statement → Program
edited g t k x = record { header = g.header; locks = g.locks; vars = g.vars; threads = set g.threads t (with_statement k x (thread_in g t)) }

abbrev pub retime : Program → ℕ → ℕ → ℕ → ℕ → Program
retime g t k least greatest = edited g t k (with_times least greatest (statement_in g t k))

-- ---- the preview

-- "exactly as changing a copy [..] and running the search would, whether the search accepts or refuses": with n numbers lent. What stands
-- in the way of the change has "steps 0", and low and high 0
unfoldable pub checked : ℕ → Got Done → Answer
checked n (bad r p) = five (number r) p 0 0 0
checked n (got d e) = answer d.sheet n

-- "the sheet's own number from 1 to 9, then 19 for a short copy buffer [..], then 5 [..], then 4 [..], these three with place 0": the copy
-- buffer has m bytes
unfoldable pub preview_answer : Bytes → ℕ → ℕ → ℕ → ℕ → ℕ → ℕ → Answer
preview_answer s m n t k least greatest =
    checked n (and_then (read_sheet s) (λ g e. need (leb (length s) m) output_full 0 (change_times s t k least greatest)))

-- the five numbers, and what is left in all that was lent
pub record Previewed : Type 0 where
  pub answer : Answer
  pub sheet : Bytes
  pub copy : Bytes
  pub work : List ℤ

-- "the sheet is untouched by it", "the copy and work buffers zeroed after every preview"
unfoldable pub preview : Bytes → Bytes → List ℤ → ℕ → ℕ → ℕ → ℕ → Previewed
preview s copy work t k least greatest = record {
  answer = preview_answer s (length copy) (length work) t k least greatest;
  sheet = s;
  copy = replicate (length copy) 0;
  work = replicate (length work) (pos 0);
}
