-- Which refusals a search gives, and at which place: 10 and 16 at a statement, 11 to 14 at place 0, no other. So it is for any step that
-- stops with these only, and the step of 01 is such a step.
use Rattle.std.specs.Prelude.{if◌then◌else◌}
use mathlib.Core.Option.{Option}
use mathlib.Core.List.{List, [], ◌∷◌, ◌++◌}
use Prim.Native.Nat.{ℕ, zero, suc, ◌+◌, max}
use lib.Dec.{leb, ltb}
use lib.ListN.{length}
use Rattle.rules.specs.Base.{all}
use Rattle.rules.specs.Refusal.{Refusal, no_reading, stuck, past_limit, out_of_steps, out_of_room, off_scale, Result, value, fault, on_both}
use Rattle.rules.specs.Constants.{half32}
use Rattle.rules.specs.Interval.{Interval, Operator, operate, hull, may_divide_by_zero, fits, within, combine}
use Rattle.rules.specs.Program.{Arith, constant, register, operation, Condition, always, never, negation, conjunction, equal, less}
use Rattle.rules.specs.Program.{Action, halt, skip, assign, branch, store, load, unlock, lock, Program}
use Rattle.rules.specs.Expression.{Regs, evaluate, all_parts, narrow_yes, narrow_no}
use Rattle.rules.specs.Search.{State, ThreadState, Live, Next, unread, states, from_value, branches, effect, Turn, refused, ended, follow, before, events, turn_bound, greatest_low, waits, turn_of, turn, live_from, Window, Step, stop, go_on, unseen, after_turn, Stepper, search_step, End, fails, finds, resume, search_by, start, from_by, search_from}
use Rattle.rules.proofs.Base.{if-ind}

-- arithmetic has two faults
pub data OfArithmetic : Refusal → Type 0 where
  zero_divisor : OfArithmetic no_reading
  off_the_scale : OfArithmetic off_scale

abbrev pub ArithmeticOnly : {A : Type 0} → Result A → Type 0
ArithmeticOnly (value a) = Unit {0}
ArithmeticOnly (fault r) = OfArithmetic r

pub both-arithmetic : {A B C : Type 0} (f : A → B → Result C) → ((a : A) (b : B) → ArithmeticOnly (f a b)) → (x : Result A) (y : Result B)
    → ArithmeticOnly x → ArithmeticOnly y → ArithmeticOnly (on_both f x y)
unfolding on_both
both-arithmetic f k (fault r) y h l = h
both-arithmetic f k (value a) (fault r) h l = l
both-arithmetic f k (value a) (value b) h l = k a b

combine-arithmetic : (n : ℕ) (o : Operator) (i j : Interval) → ArithmeticOnly (combine n o i j)
unfolding combine within
combine-arithmetic n o i j =
    let k = hull (operate o) i j in
    if-ind (may_divide_by_zero o j) (fault no_reading) (within n k) ArithmeticOnly (λ _. zero_divisor) (λ _. if-ind (fits n k) (value k) (fault off_scale) ArithmeticOnly (λ _. tt) (λ _. off_the_scale))

evaluate-arithmetic : (a : Arith) (rs : Regs) → ArithmeticOnly (evaluate a rs)
unfolding evaluate
evaluate-arithmetic (constant z) rs = tt
evaluate-arithmetic (register r) rs = tt
evaluate-arithmetic (operation o a b) rs =
    both-arithmetic (combine half32 o) (combine-arithmetic half32 o) (evaluate a rs) (evaluate b rs) (evaluate-arithmetic a rs) (evaluate-arithmetic b rs)

parts-arithmetic : (c : Condition) (rs : Regs) → ArithmeticOnly (all_parts c rs)
unfolding all_parts
parts-arithmetic always rs = tt
parts-arithmetic never rs = tt
parts-arithmetic (negation c) rs = parts-arithmetic c rs
parts-arithmetic (conjunction c d) rs = both-arithmetic _ (λ _ _. tt) (all_parts c rs) (all_parts d rs) (parts-arithmetic c rs) (parts-arithmetic d rs)
parts-arithmetic (equal a b) rs = both-arithmetic _ (λ _ _. tt) (evaluate a rs) (evaluate b rs) (evaluate-arithmetic a rs) (evaluate-arithmetic b rs)
parts-arithmetic (less a b) rs = both-arithmetic _ (λ _ _. tt) (evaluate a rs) (evaluate b rs) (evaluate-arithmetic a rs) (evaluate-arithmetic b rs)

-- what a turn gives: 10 and 16 at a statement; 11 and 12 at place 0
pub data OfTurn : Refusal → ℕ → Type 0 where
  unreadable : {r : Refusal} → OfArithmetic r → (p : ℕ) → OfTurn r p
  is_stuck : OfTurn stuck 0
  past_limit_lem : OfTurn past_limit 0

-- what a search gives besides: 13 and 14 at place 0; no other
pub data Given : Refusal → ℕ → Type 0 where
  of_turn : {r : Refusal} {p : ℕ} → OfTurn r p → Given r p
  no_steps : Given out_of_steps 0
  no_room : Given out_of_room 0

abbrev GivenNext : Next → Type 0
GivenNext (unread r) = OfArithmetic r
GivenNext (states xs) = Unit {0}

abbrev pub GivenTurn : Turn → Type 0
GivenTurn (refused r p) = OfTurn r p
GivenTurn (ended a b) = Unit {0}
GivenTurn (follow xs) = Unit {0}

value-given : {A : Type 0} (f : A → State) (o : Result A) → ArithmeticOnly o → GivenNext (from_value f o)
unfolding from_value
value-given f (fault r) h = h
value-given f (value a) h = tt

branches-given : (f g : Regs → State) (o : Result (Unit {0})) (y n : Option Regs) → ArithmeticOnly o → GivenNext (branches f g o y n)
unfolding branches
branches-given f g (fault r) y n h = h
branches-given f g (value u) y n h = tt

effect-given : (s : State) (t : ℕ) (x : ThreadState) (low high : ℕ) (a : Action) → GivenNext (effect s t x low high a)
unfolding effect
effect-given s t x low high halt = tt
effect-given s t x low high skip = tt
effect-given s t x low high (assign r a) = value-given _ (evaluate a x.regs) (evaluate-arithmetic a x.regs)
effect-given s t x low high (branch to c) = branches-given _ _ (all_parts c x.regs) (narrow_yes c x.regs) (narrow_no c x.regs) (parts-arithmetic c x.regs)
effect-given s t x low high (store r v) = tt
effect-given s t x low high (load r v) = tt
effect-given s t x low high (unlock l) = tt
effect-given s t x low high (lock l) = tt

before-given : (p : ℕ) (n : Next) (t : Turn) → GivenNext n → GivenTurn t → GivenTurn (before p n t)
unfolding before
before-given p (unread r) t h k = unreadable h p
before-given p (states xs) (refused r q) h k = k
before-given p (states xs) (ended a b) h k = tt
before-given p (states xs) (follow ys) h k = tt

events-given : (s : State) (latest bound : ℕ) (vs : List Live) → GivenTurn (events s latest bound vs)
unfolding events
events-given s latest bound [] = tt
events-given s latest bound (v ∷ vs) =
    let from = max latest (v.here.low + v.statement.least) in
    let n = effect s v.thread v.here from bound v.statement.action in
    let h = events-given s latest bound vs in
    if-ind (leb from bound) (before v.statement.place n (events s latest bound vs)) (events s latest bound vs) GivenTurn
    (λ _. before-given v.statement.place n (events s latest bound vs) (effect-given s v.thread v.here from bound v.statement.action) h) (λ _. h)

live-given : (g : Program) (s : State) (vs : List Live) → GivenTurn (turn_of g s vs)
unfolding turn_of
live-given g s [] = tt
live-given g s (v ∷ vs) =
    let bound = turn_bound v vs in
    let es = events s (greatest_low s.threads) bound (v ∷ vs) in
    if-ind (all (waits s.owners) (v ∷ vs)) (refused stuck 0) (if ltb g.header.limit bound then refused past_limit 0 else es) GivenTurn (λ _. is_stuck)
    (λ _. if-ind (ltb g.header.limit bound) (refused past_limit 0) es GivenTurn (λ _. past_limit_lem) (λ _. events-given s (greatest_low s.threads) bound (v ∷ vs)))

pub turn-given : (g : Program) (s : State) → GivenTurn (turn g s)
unfolding turn
turn-given g s = live-given g s (live_from 0 g.threads s.threads)

abbrev pub GivenStep : Step → Type 0
GivenStep (stop r p) = Given r p
GivenStep (go_on xs w) = Unit {0}

after-turn-given : (slots : ℕ) (xs : List State) (w : Window) (t : Turn) → GivenTurn t → GivenStep (after_turn slots xs w t)
unfolding after_turn
after-turn-given slots xs w (refused r p) h = of_turn h
after-turn-given slots xs w (ended a b) h = tt
after-turn-given slots xs w (follow new) h =
    if-ind (leb (length xs + length new) slots) (go_on (new ++ xs) w) (stop out_of_room 0) GivenStep (λ _. tt) (λ _. no_room)

-- a step that stops with these only
abbrev pub StopsGiven : Stepper → Type 0
StopsGiven step = (x : State) (xs : List State) (w : Window) → GivenStep (step x xs w)

pub step_given : (g : Program) (slots : ℕ) → StopsGiven (search_step g slots)
unfolding search_step
step_given g slots x xs w = after-turn-given slots xs w (turn g x) (turn-given g x)

abbrev pub GivenEnd : End → Type 0
GivenEnd (fails r p n) = Given r p
GivenEnd (finds n w) = Unit {0}

resume-given : (n : ℕ) (k : List State → Window → End) → ((ys : List State) (w : Window) → GivenEnd (k ys w)) → (t : Step) → GivenStep t → GivenEnd (resume n k t)
unfolding resume
resume-given n k f (stop r p) h = h
resume-given n k f (go_on ys w) h = f ys w

search-by-given : (step : Stepper) → StopsGiven step → (left : ℕ) (xs : List State) (w : Window) (n : ℕ) → GivenEnd (search_by step left xs w n)
unfolding search_by
search-by-given step h zero [] w n = tt
search-by-given step h zero (x ∷ xs) w n = no_steps
search-by-given step h (suc left) [] w n = tt
search-by-given step h (suc left) (x ∷ xs) w n =
    resume-given (suc n) (λ ys w'. search_by step left ys w' (suc n)) (λ ys w'. search-by-given step h left ys w' (suc n)) (step x xs w) (h x xs w)

pub from-given : (step : Program → ℕ → Stepper) (g : Program) (slots : ℕ) → StopsGiven (step g slots) → GivenEnd (from_by step g slots)
unfolding from_by
from-given step g slots h = search-by-given (step g slots) h g.header.budget (start g ∷ []) unseen 0

pub search-given : (g : Program) (slots : ℕ) → GivenEnd (search_from g slots)
unfolding search_from
search-given g slots = from-given search_step g slots (step_given g slots)
