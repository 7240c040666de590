-- Expressions over intervals, and narrowing by a condition (01, "The search").
use Rattle.std.specs.Prelude.{◌&&◌, List, [], ◌∷◌, ℕ, ℤ, pos, get_or, set, if◌then◌else◌}
use Rattle.std.proofs.Math.Option.{Option, none, some}
use Rattle.std.proofs.Math.IntN.{pred_ℤ, suc_ℤ}
use Rattle.std.specs.Int.Signed.{le_z, lt_z}
use Rattle.rules.specs.Refusal.{Result, value, fault, on_both}
use Rattle.rules.specs.Constants.{half32}
use Rattle.rules.specs.Interval.{Interval, interval, combine, meet, join, min_z, max_z, eq_z}
use Rattle.rules.specs.Program.{Arith, constant, register, operation, Condition, always, never, negation, conjunction, equal, less}

-- the registers of a thread
abbrev pub Regs : Type 0
Regs = List Interval

abbrev pub zero_interval : Interval
zero_interval = interval (pos 0) (pos 0)

-- ---- evaluation: the interval of an expression, or the first fault. 02, ticket 1: "Within one expression the left operand speaks
-- first, then the right, then the operator"

unfoldable pub evaluate : Arith → Regs → Result Interval
evaluate (constant z) rs = value (interval z z)
evaluate (register r) rs = value (get_or rs r zero_interval)
evaluate (operation o a b) rs = on_both (combine half32 o) (evaluate a rs) (evaluate b rs)

-- "10 is given in every part of a condition with the registers as they stand before narrowing", and 16 where 10 is: the first
-- fault from the left. Not, "and", equal and less have no fault of their own
unfoldable pub all_parts : Condition → Regs → Result (Unit {0})
all_parts always rs = value tt
all_parts never rs = value tt
all_parts (negation c) rs = all_parts c rs
all_parts (conjunction c d) rs = on_both (λ _ _. value tt) (all_parts c rs) (all_parts d rs)
all_parts (equal a b) rs = on_both (λ _ _. value tt) (evaluate a rs) (evaluate b rs)
all_parts (less a b) rs = on_both (λ _ _. value tt) (evaluate a rs) (evaluate b rs)

-- ---- narrowing: the registers that are left, or `none`, the empty state

-- an interval cut from above and from below
unfoldable pub at_most : ℤ → Interval → Interval
at_most z i = interval i.low (min_z i.high z)

unfoldable pub at_least : ℤ → Interval → Interval
at_least z i = interval (max_z i.low z) i.high

-- "A register narrowed to nothing empties the state."
unfoldable pub keep : Regs → ℕ → Interval → Option Regs
keep rs r i = if le_z i.low i.high then some (set rs r i) else none

-- a side that is one register is cut by f; any other side changes nothing
unfoldable pub on_register : (Interval → Interval) → Arith → Option Regs → Option Regs
on_register f (constant z) o = o
on_register f (register r) none = none
on_register f (register r) (some rs) = keep rs r (f (get_or rs r zero_interval))
on_register f (operation o a b) rs = rs

-- "equal is empty if the two intervals don't meet, else each side that is one register becomes the meet"
unfoldable pub equal_yes : Arith → Arith → Regs → Interval → Interval → Option Regs
equal_yes a b rs i j =
    let m = meet i j in
    if le_z m.low m.high then on_register (λ k. meet k m) b (on_register (λ k. meet k m) a (some rs)) else none

-- "equal empties only if both sides are the same single value, else keeps"
unfoldable pub equal_no : Regs → Interval → Interval → Option Regs
equal_no rs i j = if eq_z i.low i.high && (eq_z j.low j.high && eq_z i.low j.low) then none else some rs

-- "less is empty unless left low is below right high, else a left register's high becomes at most right high less 1, a
-- right register's low at least left low plus 1"
unfoldable pub less_yes : Arith → Arith → Regs → Interval → Interval → Option Regs
less_yes a b rs i j =
    if lt_z i.low j.high
    then on_register (at_least (suc_ℤ i.low)) b (on_register (at_most (pred_ℤ j.high)) a (some rs))
    else none

-- "less is empty unless left high is at least right low, else a left register's low is raised to right low, a right
-- register's high lowered to left high"
unfoldable pub less_no : Arith → Arith → Regs → Interval → Interval → Option Regs
less_no a b rs i j =
    if le_z j.low i.high
    then on_register (at_most i.high) b (on_register (at_least j.low) a (some rs))
    else none

-- ""and" joins the two sides' no results register by register, an empty one ignored"
unfoldable pub join_regs : Regs → Regs → Regs
join_regs [] ss = []
join_regs (r ∷ rs) [] = []
join_regs (r ∷ rs) (s ∷ ss) = join r s ∷ join_regs rs ss

unfoldable pub join_both : Option Regs → Option Regs → Option Regs
join_both none y = y
join_both (some rs) none = some rs
join_both (some rs) (some ss) = some (join_regs rs ss)

-- narrow what is left of an earlier narrowing
unfoldable pub then_narrow : Option Regs → (Regs → Option Regs) → Option Regs
then_narrow none f = none
then_narrow (some rs) f = f rs

-- the rule of a comparison on its two sides' intervals, both worked out before either is narrowed. Every part had a reading
-- before narrowing, and so has every part here: a fault does not occur
unfoldable pub compared : (Interval → Interval → Option Regs) → Result Interval → Result Interval → Option Regs
compared f (fault r) y = none
compared f (value i) (fault r) = none
compared f (value i) (value j) = f i j

-- "The yes rule of a negation is the no rule of its operand, and the reverse."
unfoldable mutual
  pub narrow_yes : Condition → Regs → Option Regs
  narrow_yes always rs = some rs
  narrow_yes never rs = none
  narrow_yes (negation c) rs = narrow_no c rs
  narrow_yes (conjunction c d) rs = then_narrow (narrow_yes c rs) (λ ss. narrow_yes d ss)
  narrow_yes (equal a b) rs = compared (equal_yes a b rs) (evaluate a rs) (evaluate b rs)
  narrow_yes (less a b) rs = compared (less_yes a b rs) (evaluate a rs) (evaluate b rs)

  pub narrow_no : Condition → Regs → Option Regs
  narrow_no always rs = none
  narrow_no never rs = some rs
  narrow_no (negation c) rs = narrow_yes c rs
  narrow_no (conjunction c d) rs = join_both (narrow_no c rs) (narrow_no d rs)
  narrow_no (equal a b) rs = compared (equal_no rs) (evaluate a rs) (evaluate b rs)
  narrow_no (less a b) rs = compared (less_no a b rs) (evaluate a rs) (evaluate b rs)
