-- What the loop of `search::run::search` keeps, and what falls.
use Prim.Native.Nat.{◌-◌}
use mathlib.Core.List.{[], ◌∷◌}
use Rattle.rules.specs.Search as S
use Rattle.rules.specs.Search.{unseen}
use Rattle.state.specs.Shape.{sizes_of, state_of}
use Rattle.reader.specs.Facts.{program_in}
use Rattle.search.specs.Run.{window_of}
use Rattle.search.proofs.RunLaws.{Goes}
use Rattle.search.proofs.run.search.Given as goal

abbrev pub invariant-loop-stack : goal.invariant-loop-stack
invariant-loop-stack l = Goes (S.search l.budget (program_in l.sheet) l.fn.stack.slots
    (state_of (sizes_of (program_in l.sheet)) l.fn.first ∷ []) unseen 0)
    (program_in l.sheet) l.budget l.fn.stack l.stack l.steps (window_of l.found)

abbrev pub decreases-loop-stack : goal.decreases-loop-stack
decreases-loop-stack l = l.budget - l.steps
