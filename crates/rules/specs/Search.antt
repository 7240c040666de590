-- The search over states of intervals, and the five numbers of the whole (01, "The search").
use Rattle.std.specs.Prelude.{Bool, false, ◌&&◌, not, List, [], ◌∷◌, ◌++◌, map, ℕ, zero, suc, ◌+◌, ◌/◌, min, max, leb, ltb, eqb, length, get_or, set, replicate, if◌then◌else◌}
use Rattle.std.proofs.Math.Option.{Option, none, some}
use Rattle.rules.specs.Base.{all}
use Rattle.rules.specs.Refusal.{Refusal, number, stuck, past_limit, out_of_steps, out_of_room, label_broken, Result, value, fault}
use Rattle.rules.specs.Constants.{numbers_per_state}
use Rattle.rules.specs.Interval.{Interval}
use Rattle.rules.specs.Program.{Action, halt, skip, assign, branch, store, load, unlock, lock, is_halt, Statement, Thread, Program, no_statement}
use Rattle.rules.specs.Lock.{Owner, may_take, after_lock, after_unlock}
use Rattle.rules.specs.Expression.{Regs, zero_interval, evaluate, all_parts, narrow_yes, narrow_no}
use Rattle.rules.specs.Format.{Bytes, Got, bad, got, read_sheet}

-- "A state is as above, with intervals for clocks, registers and variables."
pub record ThreadState : Type 0 where
  pub at : ℕ
  pub low : ℕ
  pub high : ℕ
  pub regs : Regs

pub record State : Type 0 where
  pub threads : List ThreadState
  pub vars : List Interval
  pub owners : List Owner

-- ---- one event of thread t, which stands at x; its clock becomes low..high

-- a fault of the arithmetic, or the states that follow
pub data Next : Type 0 where
  unread : Refusal → Next
  states : List State → Next

unfoldable pub moved : State → ℕ → ℕ → ℕ → ℕ → Regs → List Interval → List Owner → State
moved s t at low high rs vs os =
    record { threads = set s.threads t (record { at = at; low = low; high = high; regs = rs }); vars = vs; owners = os }

-- the state that a value makes
unfoldable pub from_value : {A : Type 0} → (A → State) → Result A → Next
from_value f (fault r) = unread r
from_value f (value a) = states (f a ∷ [])

-- "leaving out an empty one"
unfoldable pub unless_empty : (Regs → State) → Option Regs → List State
unless_empty f none = []
unless_empty f (some rs) = f rs ∷ []

-- "An if makes the yes state (jump), then the no state (move on)"
unfoldable pub branches : (Regs → State) → (Regs → State) → Result (Unit {0}) → Option Regs → Option Regs → Next
branches jump on (fault r) y n = unread r
branches jump on (value u) y n = states (unless_empty jump y ++ unless_empty on n)

unfoldable pub effect : State → ℕ → ThreadState → ℕ → ℕ → Action → Next
effect s t x low high halt = states []
effect s t x low high skip = states (moved s t (suc x.at) low high x.regs s.vars s.owners ∷ [])
effect s t x low high (assign r a) =
    from_value (λ i. moved s t (suc x.at) low high (set x.regs r i) s.vars s.owners) (evaluate a x.regs)
effect s t x low high (branch to c) =
    branches (λ rs. moved s t to low high rs s.vars s.owners) (λ rs. moved s t (suc x.at) low high rs s.vars s.owners)
    (all_parts c x.regs) (narrow_yes c x.regs) (narrow_no c x.regs)
effect s t x low high (store r v) =
    states (moved s t (suc x.at) low high x.regs (set s.vars v (get_or x.regs r zero_interval)) s.owners ∷ [])
effect s t x low high (load r v) =
    states (moved s t (suc x.at) low high (set x.regs r (get_or s.vars v zero_interval)) s.vars s.owners ∷ [])
effect s t x low high (unlock l) =
    states (moved s t (suc x.at) low high x.regs s.vars (set s.owners l (after_unlock t (get_or s.owners l none))) ∷ [])
effect s t x low high (lock l) =
    let o = get_or s.owners l none in
    states (moved s t (if may_take t o then suc x.at else x.at) low high x.regs s.vars (set s.owners l (after_lock t o)) ∷ [])

-- ---- a turn: "Each live thread in turn, lowest number first"

-- a live thread: its number, where it stands, and its statement
pub record Live : Type 0 where
  pub thread : ℕ
  pub here : ThreadState
  pub statement : Statement

unfoldable pub statement_at : Thread → ThreadState → Statement
statement_at t x = get_or t.statements x.at no_statement

-- the live threads, numbered from n
unfoldable pub live_from : ℕ → List Thread → List ThreadState → List Live
live_from n [] xs = []
live_from n (t ∷ ts) [] = []
live_from n (t ∷ ts) (x ∷ xs) =
    let st = statement_at t x in
    let rest = live_from (suc n) ts xs in
    if is_halt st.action then rest else record { thread = n; here = x; statement = st } ∷ rest

unfoldable pub greatest_low : List ThreadState → ℕ
greatest_low [] = 0
greatest_low (x ∷ xs) = max x.low (greatest_low xs)

unfoldable pub greatest_high : List ThreadState → ℕ
greatest_high [] = 0
greatest_high (x ∷ xs) = max x.high (greatest_high xs)

-- "The turn's bound M is the least, over live threads, of clock high plus greatest time."
unfoldable pub turn_bound : Live → List Live → ℕ
turn_bound v [] = v.here.high + v.statement.greatest
turn_bound v (w ∷ ws) = min (v.here.high + v.statement.greatest) (turn_bound w ws)

-- 11: the thread stands at a lock another owns
unfoldable pub waits : List Owner → Live → Bool
waits os v = at v.statement.action
  where
    at : Action → Bool
    at halt = false
    at skip = false
    at (assign r a) = false
    at (branch t c) = false
    at (store r x) = false
    at (load r x) = false
    at (unlock l) = false
    at (lock l) = not (may_take v.thread (get_or os l none))

-- refused, all at halt with the least and greatest tick, or the states that follow
pub data Turn : Type 0 where
  refused : Refusal → ℕ → Turn
  ended : ℕ → ℕ → Turn
  follow : List State → Turn

-- the states of an event of the statement at a place, before those of the later threads
unfoldable pub before : ℕ → Next → Turn → Turn
before p (unread r) later = refused r p
before p (states xs) (refused r q) = refused r q
before p (states xs) (ended a b) = ended a b
before p (states xs) (follow ys) = follow (xs ++ ys)

-- "has an event from the greater of all clock lows and its own low plus least time, up to M; if empty, the thread is passed
-- over": latest is the greatest clock low
unfoldable pub events : State → ℕ → ℕ → List Live → Turn
events s latest bound [] = follow []
events s latest bound (v ∷ vs) =
    let from = max latest (v.here.low + v.statement.least) in
    let later = events s latest bound vs in
    if leb from bound then before v.statement.place (effect s v.thread v.here from bound v.statement.action) later else later

-- "if all stand at halt, its low is the greatest clock low, its high the greatest clock high [..]; otherwise 11, then 12,
-- then successors"
unfoldable pub turn_of : Program → State → List Live → Turn
turn_of g s [] = ended (greatest_low s.threads) (greatest_high s.threads)
turn_of g s (v ∷ vs) =
    let bound = turn_bound v vs in
    if all (waits s.owners) (v ∷ vs) then refused stuck 0
    else if ltb g.header.limit bound then refused past_limit 0
    else events s (greatest_low s.threads) bound (v ∷ vs)

unfoldable pub turn : Program → State → Turn
turn g s = turn_of g s (live_from 0 g.threads s.threads)

-- ---- the search

-- the window found so far
pub data Window : Type 0 where
  unseen : Window
  seen : ℕ → ℕ → Window

-- "the window widens to hold both (Definition 2)"
unfoldable pub widen : Window → ℕ → ℕ → Window
widen unseen a b = seen a b
widen (seen c d) a b = seen (min c a) (max d b)

-- the top state's turn, over the stack below it: a refusal, or the stack and the window to go on with
pub data Step : Type 0 where
  stop : Refusal → ℕ → Step
  go_on : List State → Window → Step

-- "then 14 if held plus new exceeds the slots. New states go on top, the first made uppermost."
unfoldable pub after_turn : ℕ → List State → Window → Turn → Step
after_turn slots xs w (refused r p) = stop r p
after_turn slots xs w (ended a b) = go_on xs (widen w a b)
after_turn slots xs w (follow new) = if leb (length xs + length new) slots then go_on (new ++ xs) w else stop out_of_room 0

-- what a step makes of the top state, the stack below it and the window
abbrev pub Stepper : Type 0
Stepper = State → List State → Window → Step

unfoldable pub search_step : Program → ℕ → Stepper
search_step g slots x xs w = after_turn slots xs w (turn g x)

-- how a search ends: a refusal, its place and the steps; or the steps and the window
pub data End : Type 0 where
  fails : Refusal → ℕ → ℕ → End
  finds : ℕ → Window → End

-- after a step, with n steps taken: k is the search from there on
unfoldable pub resume : ℕ → (List State → Window → End) → Step → End
resume n k (stop r p) = fails r p n
resume n k (go_on ys w) = k ys w

-- "While a state is held: refusal 13 is tried; the top state is taken and steps grows by one", whatever a step is. The first
-- number is what is left of the budget, n the steps taken.
unfoldable pub search_by : Stepper → ℕ → List State → Window → ℕ → End
search_by step zero [] w n = finds n w
search_by step zero (x ∷ xs) w n = fails out_of_steps 0 n
search_by step (suc left) [] w n = finds n w
search_by step (suc left) (x ∷ xs) w n = resume (suc n) (λ ys w'. search_by step left ys w' (suc n)) (step x xs w)

-- the search of 01, by its own step (who unfolds it sees the loop)
unfoldable pub search : ℕ → Program → ℕ → List State → Window → ℕ → End
unfolding search_by
search left g slots xs w n = search_by (search_step g slots) left xs w n

-- the states that a search takes, in order: "the steps taken, which equal the states the rule takes, the refused one included"
unfoldable pub resume_taking : (List State → Window → List State) → Step → List State
resume_taking k (stop r p) = []
resume_taking k (go_on ys w) = k ys w

unfoldable pub takes : ℕ → Program → ℕ → List State → Window → List State
takes zero g slots xs w = []
takes (suc left) g slots [] w = []
takes (suc left) g slots (x ∷ xs) w = x ∷ resume_taking (λ ys w'. takes left g slots ys w') (search_step g slots x xs w)

-- every thread at its statement 0 with its clock at 0, values in the sheet's ranges, no lock owned
unfoldable pub start : Program → State
start g = record {
  threads = map (λ (t : Thread). record { at = 0; low = 0; high = 0; regs = t.regs }) g.threads;
  vars = g.vars;
  owners = replicate g.locks none;
}

-- the search of a program with some slots, by its step; and that of 01
unfoldable pub from_by : (Program → ℕ → Stepper) → Program → ℕ → End
from_by step g slots = search_by (step g slots) g.header.budget (start g ∷ []) unseen 0

unfoldable pub search_from : Program → ℕ → End
unfolding from_by search
search_from g slots = from_by search_step g slots

-- the states that the search of a program takes
unfoldable pub states_taken : Program → ℕ → List State
states_taken g slots = if eqb slots 0 then [] else takes g.header.budget g slots (start g ∷ []) unseen

-- ---- "five numbers: refusal (0 if accepted), place, steps, low, high"

pub record Answer : Type 0 where
  pub refusal : ℕ
  pub place : ℕ
  pub steps : ℕ
  pub low : ℕ
  pub high : ℕ

abbrev pub five : ℕ → ℕ → ℕ → ℕ → ℕ → Answer
five r p n a b = record { refusal = r; place = p; steps = n; low = a; high = b }

-- the five numbers of a search that ended, by the label low..high. 15: "the window found is not inside the label". A search that
-- ends without a refusal has found a window (`Demands.WindowFound`), so the second case does not occur; it is a refusal all the
-- same
unfoldable pub judge : ℕ → ℕ → End → Answer
judge low high (fails r p n) = five (number r) p n 0 0
judge low high (finds n unseen) = five (number label_broken) 0 n 0 0
judge low high (finds n (seen a b)) = if leb low a && leb b high then five 0 0 n a b else five (number label_broken) 0 n a b

-- "At the start one state is held (0 slots: refusal 14, steps 0)." `from` is the search of a program with some slots
unfoldable pub answer_by : (Program → ℕ → End) → ℕ → Got Program → Answer
answer_by from slots (bad r p) = five (number r) p 0 0 0
answer_by from slots (got g e) = if eqb slots 0 then five (number out_of_room) 0 0 0 0 else judge g.header.label_low g.header.label_high (from g slots)

-- the five numbers of 01, by its own search
unfoldable pub answer_with : ℕ → Got Program → Answer
unfolding answer_by
answer_with slots x = answer_by search_from slots x

-- "slots are the buffer's length divided by 100, rounded down": the five numbers for a sheet and the length of the work buffer
unfoldable pub answer : Bytes → ℕ → Answer
answer s n = answer_with (n / numbers_per_state) (read_sheet s)
