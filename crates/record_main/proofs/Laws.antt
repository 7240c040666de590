-- The printed line: written number by number, never longer than 47 bytes, and told by the first 16,385 bytes of a sheet and the first
-- 65,537 of a record.
use mathlib.Core.Path.{◌≡◌, refl, ap, ◌∙◌}
use mathlib.Core.Bool.{Bool, true, false}
use mathlib.Core.List.{[], ◌∷◌, ◌++◌}
use Prim.Native.Nat.{ℕ, ◌+◌, ◌^◌, ◌≤◌, ◌<◌}
use native.Mathlib.Omega.{arith}
use borrow.Author.Tests.{lt-leb}
use lib.ListN.{length, take}
use Rattle.rules.specs.Refusal.{too_long}
use Rattle.rules.specs.Program.{Program}
use Rattle.rules.specs.Format.{Bytes, Got, bad, got, need, read_sheet}
use Rattle.rules.specs.Product.{decimal}
use Rattle.rules.proofs.Longest.{told-by-front, sheet-told}
use Rattle.writing.specs.Out.{out_of, write, Writes, line_of}
use Rattle.writing.proofs.Written.{fits-inside}
use Rattle.writing.proofs.Decimal.{number-length}
use Rattle.recorded.specs.Follow.{file_number, bit, longest_record, File, the_sheet, the_record, Answer, follow_record, answer_of, follow_with, follow}
use Rattle.record_main.specs.Line.{line, longest_line, printed, EnoughRead}

-- ---- the five numbers, one behind the other

-- what is written of the answer's numbers is the line
pub line-as : (a : Answer) (f d : ℕ) → f ≡ file_number a.file → d ≡ bit a.finished → (before after : Bytes) (n : ℕ)
    → Writes (line_of (a.refusal ∷ f ∷ a.place ∷ d ∷ a.tick ∷ [])) before 0 after n → Writes (line a) before 0 after n
unfolding line line_of
line-as a f d e h before after n w = w ∙ (λ i. write (line_of (a.refusal ∷ e i ∷ a.place ∷ h i ∷ a.tick ∷ [])) (out_of before 0))

-- ---- the line's length

file-digit : (f : File) → file_number f < 10
file-digit the_sheet = omega arith
file-digit the_record = omega arith

bit-digit : (b : Bool) → bit b < 10
bit-digit false = omega arith
bit-digit true = omega arith

module _ (a : Answer) (r : a.refusal < 2 ^ 32) (p : a.place < 2 ^ 64) (t : a.tick < 2 ^ 32) where
  line-length : length (line a) ≤ longest_line
  unfolding line
  line-length =
      let fifth = decimal a.tick ++ 10 ∷ [] in
      let fourth = decimal (bit a.finished) ++ 32 ∷ fifth in
      let third = decimal a.place ++ 32 ∷ fourth in
      let second = decimal (file_number a.file) ++ 32 ∷ third in
      let first-long = number-length 9 a.refusal 32 second (omega arith) in
      let second-long = number-length 0 (file_number a.file) 32 third (file-digit a.file) in
      let third-long = number-length 19 a.place 32 fourth (omega arith) in
      let fourth-long = number-length 0 (bit a.finished) 32 fifth (bit-digit a.finished) in
      let fifth-long = number-length 9 a.tick 10 [] (omega arith) in
      omega arith

  -- so an array of that length has room for it
  pub line-fits : (l m : Bytes) (n : ℕ) → longest_line ≤ length l → Writes (line a) l 0 m n → n ≤ length m
  line-fits l m n h e = let k = line-length in fits-inside (line a) l m n e (omega arith)

-- ---- what is printed of a sheet and a record

pub printed-written : (sheet recorded : Bytes) (a : Answer) → a ≡ follow sheet recorded → (before after : Bytes) (n : ℕ)
    → Writes (line a) before 0 after n → Writes (printed sheet recorded) before 0 after n
unfolding printed
printed-written sheet recorded a e before after n w = w ∙ ap (λ (x : Answer). write (line x) (out_of before 0)) e

-- ---- enough is read

record-too-long : (g : Program) (r : Bytes) → longest_record < length r → follow_record g r ≡ bad too_long 0
unfolding follow_record need
record-too-long g r h = rw (lt-leb (length r) longest_record h)

cut_record : (x : Got Program) (r : Bytes) → follow_with (take (longest_record + 1) r) x ≡ follow_with r x
unfolding follow_with
cut_record (bad n p) r = refl
cut_record (got g e) r = ap (answer_of g) (told-by-front (follow_record g) longest_record (bad too_long 0) (record-too-long g) r)

pub enough-read : EnoughRead
unfolding printed follow
enough-read sheet recorded =
    ap line (ap (follow_with _) (sheet-told sheet) ∙ cut_record (read_sheet sheet) recorded)
