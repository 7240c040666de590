-- How the code's search ends, in the rules.
use Rattle.std.specs.Prelude.{ℕ, Option, Some, None, Result, Ok, Err}
use Rattle.rules.specs.Search as S
use Rattle.rules.specs.Search.{unseen, seen, fails, finds}
use Rattle.refusal.specs.Shape.{rule_of}
use Rattle.refusal.specs.declared.Fault.{Fault}
use Rattle.search.specs.declared.run.Window.{Window}
use Rattle.search.specs.declared.run.Outcome.{Outcome}

abbrev pub window_of : Option Window → S.Window
window_of None = unseen
window_of (Some w) = seen w.low.0 w.high.0

abbrev pub end_in : ℕ → Result (Option Window) Fault → S.End
end_in n (Ok w) = finds n (window_of w)
end_in n (Err f) = fails (rule_of f.refusal) f.place n

abbrev pub end_of : Outcome → S.End
end_of o = end_in o.steps o.end
