-- What an event does to the stack of states.
use Rattle.std.specs.Prelude.{◌≡◌, List, [], ◌∷◌, ℤ, Result}
use Rattle.rules.specs.Search as S
use Rattle.refusal.specs.declared.Refusal.{Refusal}
use Rattle.state.specs.Cells.{decode}
use Rattle.state.specs.Shape.{Sizes, state_of}
use Rattle.event.specs.Push.{Pushed}
use Rattle.event.specs.Act.{Acts}
use Rattle.event.specs.declared.stack.Stack.{Stack}

-- the same buffer, with room for as many states
abbrev pub SameStack : Stack → Stack → Type 0
SameStack a b = (b.work.ghost_name ≡ a.work.ghost_name) × (b.slots ≡ a.slots)

-- from the stack a to b the states xs went on top, the first uppermost
abbrev pub Grows : Sizes → Stack → Stack → List S.State → Type 0
Grows z a b xs = Pushed z a.slots a.work.now b.work.now a.height b.height xs

-- a slot's numbers were written, and the state that they hold went on top
abbrev pub PutOnTop : (List ℤ → List ℤ → Type 0) → Stack → Stack → Type 0
PutOnTop wrote a b = (old new : List ℤ) × wrote old new × ((z : Sizes) → Grows z a b (state_of z (decode new) ∷ []))

-- a refusal, and the numbers and the height as they were, or the states on the stack
abbrev pub Leaves : Sizes → Stack → Stack → Result (Unit {0}) Refusal → S.Next → Type 0
Leaves z a b r x = Acts z a.slots a.work.now b.work.now a.height b.height r x
