-- What evaluation gives, from the rules' evaluation of the tree that the same bytes read as.
use Rattle.std.specs.Prelude.{List, map, ℕ, take, Option, Some, None, Result}
use Rattle.rules.specs.Refusal as R
use Rattle.rules.specs.Interval.{Interval}
use Rattle.rules.specs.Program.{Arith}
use Rattle.rules.specs.Format.{Got, bad, got}
use Rattle.rules.specs.Expression.{Regs, evaluate}
use Rattle.refusal.specs.declared.Refusal.{Refusal}
use Rattle.interval.specs.declared.Span.{Span}
use Rattle.interval.specs.Shape.{interval_of, result_of}

-- the first n of the code's eight registers are the thread's
unfoldable pub regs_of : ℕ → List Span → Regs
regs_of n l = take n (map interval_of l)

-- what is worked out on a tree, with the place behind it; `unread` where the bytes read as none, whatever the refusal
pub data Found (A : Type 0) : Type 0 where
  unread : Found A
  read : A → ℕ → Found A

abbrev pub found_of : {A B : Type 0} → (A → B) → Got A → Found B
found_of f (bad r p) = unread
found_of f (got a q) = read (f a) q

-- the code's pair of what was worked out and the place behind it, read by f
abbrev pub seen : {A B : Type 0} → (A → B) → Option (A × ℕ) → Found B
seen f None = unread
seen f (Some (a, q)) = read (f a) q

-- ---- evaluation

abbrev pub evaluated_of : Option (Result Span Refusal × ℕ) → Found (R.Result Interval)
evaluated_of o = seen result_of o

abbrev pub evaluated_in : Regs → Got Arith → Found (R.Result Interval)
evaluated_in rs g = found_of (λ a. evaluate a rs) g
