-- The code's answer as the rules' five numbers.
use Rattle.std.specs.Prelude.{◌≡◌, List, [], ◌∷◌, ℕ, ℤ, length}
use Rattle.rules.specs.Base.{at_front}
use Rattle.rules.specs.Format.{Bytes}
use Rattle.rules.specs.Search as S
use Rattle.rules.specs.Search.{five, judge, answer}
use Rattle.rules.specs.Demands.{WindowInside}
use Rattle.search.specs.Whole.{Search, unread, ended}
use Rattle.label.specs.declared.Answer.{Answer}

abbrev pub answer_of : Answer → S.Answer
answer_of a = five a.refusal a.place a.steps a.low a.high

abbrev pub five_of : ℕ → ℕ → ℕ → ℕ → ℕ → Answer
five_of r p n a b = record { refusal = r; place = p; steps = n; low = a; high = b }

-- the answer to the search of a sheet
abbrev pub answer_to : Search → S.Answer
answer_to (unread k p) = five k p 0 0 0
answer_to (ended low high e) = judge low high e

-- what an accepted sheet's window promises, of the five numbers that the rules give
abbrev pub WindowOf : Bytes → List ℤ → Type 0
WindowOf sheet lent = WindowInside sheet (answer sheet (length lent))

-- the five numbers in the order in which they are printed
abbrev pub listed : S.Answer → List ℕ
listed a = a.refusal ∷ a.place ∷ a.steps ∷ a.low ∷ a.high ∷ []

-- what an exported call gives: the refusal, and the five at the front of an array that has room for them
pub record FiveIn (a : S.Answer) (before after : List ℕ) (r : ℕ) : Type 0 where
  pub refusal : r ≡ a.refusal
  pub numbers : after ≡ at_front (listed a) before
