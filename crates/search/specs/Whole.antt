-- The search of a whole sheet, as the code gives it.
use Rattle.std.specs.Prelude.{ℕ, eqb, if◌then◌else◌, Result, Ok, Err}
use Rattle.rules.specs.Refusal.{number, out_of_room}
use Rattle.rules.specs.Program.{Program}
use Rattle.rules.specs.Format.{Got, bad, got}
use Rattle.rules.specs.Search.{End, fails, search_from}
use Rattle.refusal.specs.Shape.{rule_of}
use Rattle.refusal.specs.declared.Fault.{Fault}
use Rattle.search.specs.declared.whole.Searched.{Searched}
use Rattle.search.specs.Run.{end_of}

-- a sheet that does not read, with its refusal's number and place; or the label's ends, and how the search ended
pub data Search : Type 0 where
  unread : ℕ → ℕ → Search
  ended : ℕ → ℕ → End → Search

-- "At the start one state is held (0 slots: refusal 14, steps 0)."
unfoldable pub end_with : ℕ → Program → End
end_with slots g = if eqb slots 0 then fails out_of_room 0 0 else search_from g slots

unfoldable pub search_of : ℕ → Got Program → Search
search_of slots (bad r p) = unread (number r) p
search_of slots (got g e) = ended g.header.label_low g.header.label_high (end_with slots g)

abbrev pub searched_of : Result Searched Fault → Search
searched_of (Err f) = unread (number (rule_of f.refusal)) f.place
searched_of (Ok s) = ended s.label.low.0 s.label.high.0 (end_of s.outcome)
