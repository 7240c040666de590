-- The code's answer as the rule's.
use Rattle.std.specs.Prelude.{◌≡◌, ℕ, List}
use Rattle.rules.specs.Base.{at_front}
use Rattle.recorded.specs.Follow.{Answer, the_sheet, the_record, listed}
use Rattle.recorded.specs.Follow as F
use Rattle.record.specs.declared.whole.File.{File}
use Rattle.record.specs.declared.whole.File.TheVariants.{Sheet, Record}
use Rattle.record.specs.declared.whole.Followed.{Followed}

abbrev pub file_of : File → F.File
file_of Sheet = the_sheet
file_of Record = the_record

abbrev pub followed_of : Followed → Answer
followed_of a = record { refusal = a.refusal; file = file_of a.file; place = a.place; finished = a.finished; tick = a.tick }

-- what the exported call gives: the refusal, and the five numbers at the front of an array that has room for them
pub record FiveIn (a : Answer) (before after : List ℕ) (r : ℕ) : Type 0 where
  pub refusal : r ≡ a.refusal
  pub numbers : after ≡ at_front (listed a) before
