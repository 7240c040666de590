-- 01, "A reviewer tries": the tools that demands 1 and 2 shut out. A tool is any function from a sheet and a lent buffer to five
-- numbers and the buffer that it leaves.
use Rattle.std.specs.Prelude.{◌≡◌, List, ℤ, length}
use Rattle.rules.specs.Constants.{lent_by_program}
use Rattle.rules.specs.Format.{Bytes}
use Rattle.rules.specs.Search.{Answer}
use Rattle.rules.specs.Demands.{AllZeros, FollowsTheRules}
use Rattle.rules.specs.Worked.{D}

pub record Tool : Type 0 where
  pub answers : Bytes → List ℤ → Answer
  pub leaves : Bytes → List ℤ → List ℤ

-- demands 1 and 2 of every sheet and every buffer
pub record Meets (t : Tool) : Type 0 where
  pub zeros : (sheet : Bytes) (lent : List ℤ) → AllZeros lent (t.leaves sheet lent)
  pub follows : (sheet : Bytes) (lent : List ℤ) → FollowsTheRules sheet lent (t.answers sheet lent)

pub record Tried (t : Tool) : Type 0 where
  -- "a tool that turns down every sheet": some sheet is accepted
  pub accepts_some : (sheet : Bytes) × (lent : List ℤ) × ((t.answers sheet lent).refusal ≡ 0)
  -- "one that returns A's five numbers always", or any other five
  pub not_constant : (a : Answer) → ((sheet : Bytes) (lent : List ℤ) → t.answers sheet lent ≡ a) → ⊥
  -- "One that touches nothing"
  pub touches_something : ((sheet : Bytes) (lent : List ℤ) → t.leaves sheet lent ≡ lent) → ⊥
  -- "One that searches the first state and invents the others, and one that makes up the steps": on D the steps are 19
  pub nineteen_on_D : (lent : List ℤ) → length lent ≡ lent_by_program → (t.answers D lent).steps ≡ 19

-- the claim
abbrev pub ShutOut : Type 0
ShutOut = (t : Tool) → Meets t → Tried t
