-- Both files (02, ticket 14): "Look for a name in the customer's file, else in ours".
use Rattle.std.specs.Prelude.{ℕ, take, drop}
use Rattle.rules.specs.Refusal.{Refusal, number, no_such_name}
use Rattle.rules.specs.Format.{Bytes}
use Rattle.shelf.specs.Pairs.{Look, hit, miss, stop, look_in}

pub data File : Type 0 where
  customers ours : File

-- "which file", as a number
abbrev pub file_number : File → ℕ
file_number customers = 0
file_number ours = 1

-- a part of a file: from a place on, so many bytes
pub record Part : Type 0 where
  pub file : File
  pub from : ℕ
  pub size : ℕ

-- the file that is meant, and the bytes of a part
abbrev pub file_of : File → Bytes → Bytes → Bytes
file_of customers customer house = customer
file_of ours customer house = house

abbrev pub bytes_of : Part → Bytes → Bytes → Bytes
bytes_of p customer house = take p.size (drop p.from (file_of p.file customer house))

-- "hand back the very part of the shelf it was found on, with the place of its first byte and which file"
pub record Answer : Type 0 where
  -- 0: it was found
  pub refusal : ℕ
  pub file : File
  -- of the sheet's first byte; where it is refused, of the field at fault, for 5 it is 0
  pub place : ℕ
  pub part : Part

abbrev pub found : File → ℕ → ℕ → Answer
found f p n = record { refusal = 0; file = f; place = p; part = record { file = f; from = p; size = n } }

-- "on any refusal the part handed back is the empty start of our shelf"
abbrev pub empty_start : Part
empty_start = record { file = ours; from = 0; size = 0 }

-- "with that file and the field's place"
abbrev pub refused : File → Refusal → ℕ → Answer
refused f r p = record { refusal = number r; file = f; place = p; part = empty_start }

-- what the look in a file comes to; where the name is not in it, what comes after
unfoldable pub look_on : File → Look → Answer → Answer
look_on f (hit p n) after = found f p n
look_on f miss after = after
look_on f (stop r p) after = refused f r p

-- "Refused, file by file: ..; after both, 5, with our file and place 0"
unfoldable pub lookup : ℕ → Bytes → Bytes → Answer
lookup name customer house = look_on customers (look_in name customer) (look_on ours (look_in name house) (refused ours no_such_name 0))
