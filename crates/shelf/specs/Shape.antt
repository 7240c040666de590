-- The code's data as the rule's, and what it is for a slice to be a part of one that was lent.
use Rattle.std.specs.Prelude.{◌≡◌, List, [], ◌∷◌, ◌++◌, ℕ, ◌+◌, ◌≤◌, eqb, length, if◌then◌else◌, Option, Some, None, Result, Ok, Err}
use Rattle.std.specs.Borrow.{Bor}
use Rattle.rules.specs.Base.{at_front}
use Rattle.rules.specs.Format.{Bytes, Got, bad, got}
use Rattle.refusal.specs.declared.Fault.{Fault}
use Rattle.refusal.specs.Shape.{rule_of, fault_at}
use Rattle.shelf.specs.Pairs as P
use Rattle.shelf.specs.Pairs.{hit, miss, stop}
use Rattle.shelf.specs.Lookup as L
use Rattle.shelf.specs.Lookup.{Part, Answer, customers, ours, file_number, file_of, bytes_of, empty_start, found, refused}
use Rattle.shelf.specs.declared.File.{File}
use Rattle.shelf.specs.declared.File.TheVariants.{Customers, Ours}
use Rattle.shelf.specs.declared.Found.{Found}
use Rattle.shelf.specs.declared.Refused.{Refused}
use Rattle.shelf.specs.declared.Numbers.{Numbers}
use Rattle.shelf.specs.declared.pairs.Pair.{Pair}
use Rattle.shelf.specs.declared.pairs.Sheet.{Sheet}

-- ---- one file

abbrev pub sheet : ℕ → ℕ → Sheet
sheet p n = record { place = p; size = n }

abbrev pub pair_of : Got P.Pair → Result Pair Fault
pair_of (bad r p) = Err (fault_at r p)
pair_of (got x q) = Ok (record { name = x.name; sheet = sheet x.place x.size })

abbrev pub look_of : P.Look → Result (Option Sheet) Fault
look_of (hit p n) = Ok (Some (sheet p n))
look_of miss = Ok None
look_of (stop r p) = Err (fault_at r p)

-- ---- both files

abbrev pub rule_file : File → L.File
rule_file Customers = customers
rule_file Ours = ours

-- what the look in a file comes to, with the file
abbrev pub found_in : File → P.Look → Result (Option Found) Refused
found_in f (hit p n) = Ok (Some (record { file = f; sheet = sheet p n }))
found_in f miss = Ok None
found_in f (stop r p) = Err (record { file = f; fault = fault_at r p })

-- the rule's answer that is meant, and an answer in numbers
abbrev pub answer_of : Result Found Refused → Answer
answer_of (Ok x) = found (rule_file x.file) x.sheet.place x.sheet.size
answer_of (Err y) = refused (rule_file y.file) (rule_of y.fault.refusal) y.fault.place

abbrev pub numbers_of : Answer → Numbers
numbers_of a = record { refusal = a.refusal; file = file_number a.file; place = a.place; size = a.part.size }

-- the file of a number, and the part that an answer's numbers name
abbrev pub file_by : ℕ → L.File
file_by n = if eqb n 0 then customers else ours

abbrev pub part_of : Numbers → Part
part_of x = if eqb x.refusal 0 then record { file = file_by x.file; from = x.place; size = x.size } else empty_start

-- ---- a part, as a slice of a slice that was lent

-- the part lies in its file
abbrev pub Fits : Part → Bytes → Bytes → Type 0
Fits p customer house = p.from + p.size ≤ length (file_of p.file customer house)

abbrev pub lent_of : L.File → Bor Bytes → Bor Bytes → Bor Bytes
lent_of customers customer house = customer
lent_of ours customer house = house

-- "the very part": its bytes, in the memory of its file's slice, and there as many bytes behind that slice's first as the part's place
-- says. So it is no copy, even of the same bytes
pub record IsPart (p : Part) (r customer house : Bor Bytes) : Type 0 where
  pub bytes : r.now ≡ bytes_of p customer.now house.now
  pub block : r.ref_ptr.0 ≡ (lent_of p.file customer house).ref_ptr.0
  pub first : r.ref_ptr.1 ≡ (lent_of p.file customer house).ref_ptr.1 + p.from

-- ---- the answer in numbers

-- refusal, file and place, in the order in which the program prints them
abbrev pub three_of : Answer → List ℕ
three_of a = a.refusal ∷ file_number a.file ∷ a.place ∷ []

-- what the exported call gives: the refusal, and the three and the part's size at the front of an array that has room for four
pub record FourIn (a : Answer) (before after : List ℕ) (r : ℕ) : Type 0 where
  pub refusal : r ≡ a.refusal
  pub numbers : after ≡ at_front (three_of a ++ a.part.size ∷ []) before
