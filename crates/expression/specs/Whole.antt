-- What an assignment and a branch get from the expression of their statement.
use Rattle.std.specs.Prelude.{◌≡◌, ℕ}
use Rattle.std.proofs.Math.Option.{Option, none}
use Rattle.rules.specs.Base.{Free}
use Rattle.rules.specs.Refusal as R
use Rattle.rules.specs.Refusal.{fault, bad_expression}
use Rattle.rules.specs.Program.{Condition}
use Rattle.rules.specs.Expression.{Regs}
use Rattle.rules.specs.Format.{Got}
use Rattle.expression.specs.Evaluation.{Found, unread, read}
use Rattle.expression.specs.Parts.{check_of, parts_in}
use Rattle.expression.specs.Comparison.{narrowed_of}
use Rattle.expression.specs.Narrowing.{yes_in, no_in}
use Rattle.expression.specs.declared.whole.Branch.{Branch}

-- what was worked out, the place behind it forgotten; where nothing stands there, a fault, and no registers
abbrev pub result_in : {A : Type 0} → Found (R.Result A) → R.Result A
result_in unread = fault bad_expression
result_in (read r q) = r

abbrev pub left_in : Found (Option Regs) → Option Regs
left_in unread = none
left_in (read o q) = o

-- a branch on the condition that a reading gives, with n registers
pub record Branches (n : ℕ) (rs : Regs) (g : Got Condition) (b : Branch) : Type 0 where
  pub check : check_of b.check ≡ result_in (parts_in rs g)
  pub yes : narrowed_of n b.yes ≡ left_in (yes_in rs g)
  pub no : narrowed_of n b.no ≡ left_in (no_in rs g)
  -- the registers past the n that the thread has
  pub yes_others : Free b.yes
  pub no_others : Free b.no
