-- An event of a run that lacks a result is refused with 10 or 16: the two faults of arithmetic, and no other.
use Rattle.std.specs.Prelude.{if◌then◌else◌}
use mathlib.Core.Bool.{not}
use mathlib.Core.List.{List}
use Prim.Native.Nat.{ℕ}
use lib.IntN.{ℤ}
use Rattle.rules.specs.Refusal.{no_reading, off_scale, Result, value, fault, on_value}
use Rattle.rules.specs.Constants.{half32}
use Rattle.rules.specs.Interval.{Operator, operate, in_range, divides_by_zero, calculate}
use Rattle.rules.specs.Program.{Arith, constant, register, operation, Condition, always, never, negation, conjunction, equal, less}
use Rattle.rules.specs.Program.{Action, halt, skip, assign, branch, store, load, unlock, lock, Program}
use Rattle.rules.specs.Run.{RunThread, RunState, value_of, truth_of, act, thread_of, statement_of, is_event, Outcome, not_event, no_result, next, outcome, step}
use Rattle.rules.proofs.Base.{if-ind}
use Rattle.rules.proofs.Given.{OfArithmetic, zero_divisor, off_the_scale, ArithmeticOnly, both-arithmetic}

-- ---- single values

on-arithmetic : {A B : Type 0} (f : A → B) (x : Result A) → ArithmeticOnly x → ArithmeticOnly (on_value (λ a. value (f a)) x)
unfolding on_value
on-arithmetic f (fault r) h = h
on-arithmetic f (value a) h = tt

calculate-arithmetic : (n : ℕ) (o : Operator) (x y : ℤ) → ArithmeticOnly (calculate n o x y)
unfolding calculate
calculate-arithmetic n o x y =
    let z = operate o x y in
    if-ind (divides_by_zero o y) (fault no_reading) (if in_range n z then value z else fault off_scale) ArithmeticOnly (λ _. zero_divisor)
    (λ _. if-ind (in_range n z) (value z) (fault off_scale) ArithmeticOnly (λ _. tt) (λ _. off_the_scale))

value-arithmetic : (a : Arith) (zs : List ℤ) → ArithmeticOnly (value_of a zs)
unfolding value_of
value-arithmetic (constant z) zs = tt
value-arithmetic (register r) zs = tt
value-arithmetic (operation o a b) zs =
    both-arithmetic (calculate half32 o) (calculate-arithmetic half32 o) (value_of a zs) (value_of b zs) (value-arithmetic a zs) (value-arithmetic b zs)

truth-arithmetic : (c : Condition) (zs : List ℤ) → ArithmeticOnly (truth_of c zs)
unfolding truth_of
truth-arithmetic always zs = tt
truth-arithmetic never zs = tt
truth-arithmetic (negation c) zs = on-arithmetic not (truth_of c zs) (truth-arithmetic c zs)
truth-arithmetic (conjunction c d) zs = both-arithmetic _ (λ _ _. tt) (truth_of c zs) (truth_of d zs) (truth-arithmetic c zs) (truth-arithmetic d zs)
truth-arithmetic (equal a b) zs = both-arithmetic _ (λ _ _. tt) (value_of a zs) (value_of b zs) (value-arithmetic a zs) (value-arithmetic b zs)
truth-arithmetic (less a b) zs = both-arithmetic _ (λ _ _. tt) (value_of a zs) (value_of b zs) (value-arithmetic a zs) (value-arithmetic b zs)

-- ---- an event

act-arithmetic : (s : RunState) (t : ℕ) (x : RunThread) (e : ℕ) (a : Action) → ArithmeticOnly (act s t x e a)
unfolding act
act-arithmetic s t x e halt = tt
act-arithmetic s t x e skip = tt
act-arithmetic s t x e (assign r a) = on-arithmetic _ (value_of a x.regs) (value-arithmetic a x.regs)
act-arithmetic s t x e (branch to c) = on-arithmetic _ (truth_of c x.regs) (truth-arithmetic c x.regs)
act-arithmetic s t x e (store r v) = tt
act-arithmetic s t x e (load r v) = tt
act-arithmetic s t x e (unlock l) = tt
act-arithmetic s t x e (lock l) = tt

abbrev pub FaultOnly : Outcome → Type 0
FaultOnly not_event = Unit {0}
FaultOnly (no_result r) = OfArithmetic r
FaultOnly (next s) = Unit {0}

pub step-arithmetic : (g : Program) (s : RunState) (t e : ℕ) → FaultOnly (step g s t e)
unfolding step outcome
step-arithmetic g s t e =
    let r = act s t (thread_of s t) e (statement_of g s t).action in
    if-ind (is_event g s t e) (outcome r) not_event FaultOnly (λ _. by r (act-arithmetic s t (thread_of s t) e (statement_of g s t).action)) (λ _. tt)
  where
    by : (r : Result RunState) → ArithmeticOnly r → FaultOnly (outcome r)
    by (fault r) h = h
    by (value s) h = tt
