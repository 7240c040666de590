-- What the code gives back of a sheet, in terms of the definition.
use Rattle.std.specs.Prelude.{◌≡◌, List, ℕ, replicate}
use Rattle.rules.specs.Base.{at_front}
use Rattle.rules.specs.Format.{Bytes}
use Rattle.printed.specs.Print.{Printing, print_sheet}
use Rattle.printed.specs.Claims.{BringsBack}
use Rattle.writing.specs.Out.{three}
use Rattle.print.specs.declared.output.Printing as D

-- with what the lent buffer holds afterwards
abbrev pub printing_of : D.Printing → Bytes → Printing
printing_of r text = record { refusal = r.refusal; place = r.place; written = r.written; text = text }

-- a refusal by its number
abbrev pub refused_by : ℕ → ℕ → ℕ → Printing
refused_by room r p = record { refusal = r; place = p; written = 0; text = replicate room 0 }

-- whatever is not refused converts back to the sheet, byte for byte
abbrev pub PrintsWell : ℕ → Bytes → Type 0
PrintsWell room s = (print_sheet room s).refusal ≡ 0 → BringsBack room s

-- ---- what the exported call gives

-- the refusal, and the three numbers at the front of an array that has room for them
pub record ThreeIn (x : Printing) (before after : List ℕ) (r : ℕ) : Type 0 where
  pub refusal_is : r ≡ x.refusal
  pub numbers_are : after ≡ at_front (three x.refusal x.place x.written) before

-- what is left in the lent buffer
abbrev pub Leaves : Printing → Bytes → Type 0
Leaves x text = text ≡ x.text
