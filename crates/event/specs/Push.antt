-- What new states on the stack are: heights count up to one more than there are slots.
use Rattle.std.specs.Prelude.{◌≡◌, List, ◌++◌, ℕ, ◌+◌, ◌*◌, ◌≤◌, ◌<◌, min, length, ℤ}
use Rattle.rules.specs.Base.{Free}
use Rattle.rules.specs.Constants.{numbers_per_state}
use Rattle.rules.specs.Search as S
use Rattle.state.specs.Cells.{stack_of}
use Rattle.state.specs.Shape.{Sizes, states_of}

-- the buffer has room for so many slots, and for one at least
abbrev pub Room : ℕ → List ℤ → Type 0
Room slots b = (slots * numbers_per_state ≤ length b) × (1 ≤ slots)

-- from the height h and the buffer b to the height k and the buffer c, the states xs went on top, the first uppermost; where there was
-- no slot for one of them, what the buffer holds is left free
pub record Pushed (z : Sizes) (slots : ℕ) (b c : List ℤ) (h k : ℕ) (xs : List S.State) : Type 0 where
  pub count : k ≡ min (h + length xs) (slots + 1)
  pub stack : k ≤ slots → states_of z (stack_of k c) ≡ xs ++ states_of z (stack_of h b)
  pub no_slot : slots < k → Free c
  pub same_length : length c ≡ length b
