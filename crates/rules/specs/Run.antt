-- A timed run (01, that section): one step over single values, lists of events, starts and finishes.
use Rattle.std.specs.Prelude.{◌≡◌, Bool, true, false, ◌&&◌, ◌||◌, not, List, [], ◌∷◌, ℕ, suc, ◌+◌, max, T, leb, ℤ, pos, length, get_or, set, replicate, if◌then◌else◌}
use Rattle.std.proofs.Math.Option.{none}
use Rattle.std.specs.Int.Signed.{lt_z}
use Rattle.rules.specs.Base.{all_below}
use Rattle.rules.specs.Refusal.{Refusal, Result, value, fault, on_value, on_both}
use Rattle.rules.specs.Constants.{half32}
use Rattle.rules.specs.Interval.{Interval, ◌∈◌, eq_z, calculate}
use Rattle.rules.specs.Program.{Arith, constant, register, operation, Condition, always, never, negation, conjunction, equal, less}
use Rattle.rules.specs.Program.{Action, halt, skip, assign, branch, store, load, unlock, lock, is_halt, Statement, Thread, Program, no_statement, no_thread}
use Rattle.rules.specs.Lock.{Owner, may_take, after_lock, after_unlock}

-- "A run has, for each thread, a statement, a clock starting at 0 and register values; values for variables; an owner or
-- none for each lock"
pub record RunThread : Type 0 where
  pub at : ℕ
  pub clock : ℕ
  pub regs : List ℤ

pub record RunState : Type 0 where
  pub threads : List RunThread
  pub vars : List ℤ
  pub owners : List Owner

abbrev pub no_run_thread : RunThread
no_run_thread = record { at = 0; clock = 0; regs = [] }

-- ---- arithmetic and conditions on single values

unfoldable pub value_of : Arith → List ℤ → Result ℤ
value_of (constant z) rs = value z
value_of (register r) rs = value (get_or rs r (pos 0))
value_of (operation o a b) rs = on_both (calculate half32 o) (value_of a rs) (value_of b rs)

-- "Both sides of "and" are always worked out."
unfoldable pub truth_of : Condition → List ℤ → Result Bool
truth_of always rs = value true
truth_of never rs = value false
truth_of (negation c) rs = on_value (λ b. value (not b)) (truth_of c rs)
truth_of (conjunction c d) rs = on_both (λ a b. value (a && b)) (truth_of c rs) (truth_of d rs)
truth_of (equal a b) rs = on_both (λ x y. value (eq_z x y)) (value_of a rs) (value_of b rs)
truth_of (less a b) rs = on_both (λ x y. value (lt_z x y)) (value_of a rs) (value_of b rs)

-- ---- one event: "The statement takes effect then and the clock becomes e."

-- the state in which thread t stands at a statement, with clock e and these registers, variables and owners
unfoldable pub standing : RunState → ℕ → ℕ → ℕ → List ℤ → List ℤ → List Owner → RunState
standing s t at e rs vs os = record { threads = set s.threads t (record { at = at; clock = e; regs = rs }); vars = vs; owners = os }

-- "Assign and load write their register, store its variable; an if whose condition holds jumps; otherwise the thread moves
-- on." A lock that another owns: "the thread stays and tries afresh with a new time".
unfoldable pub act : RunState → ℕ → RunThread → ℕ → Action → Result RunState
act s t x e halt = value s
act s t x e skip = value (standing s t (suc x.at) e x.regs s.vars s.owners)
act s t x e (assign r a) = on_value (λ z. value (standing s t (suc x.at) e (set x.regs r z) s.vars s.owners)) (value_of a x.regs)
act s t x e (branch to c) =
    on_value (λ b. value (standing s t (if b then to else suc x.at) e x.regs s.vars s.owners)) (truth_of c x.regs)
act s t x e (store r v) = value (standing s t (suc x.at) e x.regs (set s.vars v (get_or x.regs r (pos 0))) s.owners)
act s t x e (load r v) = value (standing s t (suc x.at) e (set x.regs r (get_or s.vars v (pos 0))) s.vars s.owners)
act s t x e (unlock l) =
    value (standing s t (suc x.at) e x.regs s.vars (set s.owners l (after_unlock t (get_or s.owners l none))))
act s t x e (lock l) =
    let o = get_or s.owners l none in
    value (standing s t (if may_take t o then suc x.at else x.at) e x.regs s.vars (set s.owners l (after_lock t o)))

-- thread t and the statement that it stands at
unfoldable pub thread_of : RunState → ℕ → RunThread
thread_of s t = get_or s.threads t no_run_thread

unfoldable pub statement_of : Program → RunState → ℕ → Statement
statement_of g s t = get_or (get_or g.threads t no_thread).statements (thread_of s t).at no_statement

-- "A thread is live unless it stands at halt."
unfoldable pub live : Program → RunState → ℕ → Bool
live g s t = not (is_halt (statement_of g s t).action)

-- "some live thread with clock c ends its statement at tick e, where e − c lies within its times, e is at least every
-- thread's clock, and each live thread's clock plus its greatest time is at least e"
unfoldable pub is_event : Program → RunState → ℕ → ℕ → Bool
is_event g s t e =
    let c = (thread_of s t).clock in
    let n = length g.threads in
    live g s t
    && ((leb (c + (statement_of g s t).least) e && leb e (c + (statement_of g s t).greatest))
    && (all_below n (λ u. leb (thread_of s u).clock e)
    && all_below n (λ u. not (live g s u) || leb e ((thread_of s u).clock + (statement_of g s u).greatest))))

-- what a thread and a tick come to: not an event, an event whose arithmetic has no result, or the next state
pub data Outcome : Type 0 where
  not_event : Outcome
  no_result : Refusal → Outcome
  next : RunState → Outcome

unfoldable pub outcome : Result RunState → Outcome
outcome (fault r) = no_result r
outcome (value s) = next s

unfoldable pub step : Program → RunState → ℕ → ℕ → Outcome
step g s t e = if is_event g s t e then outcome (act s t (thread_of s t) e (statement_of g s t).action) else not_event

-- ---- "A run's events stand in one list, each a thread and a tick, failed lock tries included."

pub record Event : Type 0 where
  pub thread : ℕ
  pub tick : ℕ

-- "each later one on the state its forerunner left": after a step, the rest of the list is played by k.
-- "An event whose arithmetic has no result leaves no state and ends the list"
unfoldable pub continue : Outcome → List Event → (RunState → Outcome) → Outcome
continue not_event es k = not_event
continue (no_result r) [] k = no_result r
continue (no_result r) (e ∷ es) k = not_event
continue (next s) es k = k s

-- what a list of events comes to from a state; `not_event`: the list is not a run. "The empty list is a run."
unfoldable pub play : Program → RunState → List Event → Outcome
play g s [] = next s
play g s (v ∷ es) = continue (step g s v.thread v.tick) es (λ s'. play g s' es)

abbrev pub Happens : Outcome → Type 0
Happens not_event = ⊥
Happens (no_result r) = Unit {0}
Happens (next s) = Unit {0}

-- the list of events is a run from s
abbrev pub IsRun : Program → RunState → List Event → Type 0
IsRun g s es = Happens (play g s es)

-- "the run can go on if some thread and tick make an event"
abbrev pub CanGoOn : Program → RunState → Type 0
CanGoOn g s = (t : ℕ) × (e : ℕ) × T (is_event g s t e)

-- "The run finishes when all stand at halt, at the greatest clock."
unfoldable pub finished : Program → RunState → Bool
finished g s = all_below (length g.threads) (λ t. not (live g s t))

unfoldable pub greatest_clock : List RunThread → ℕ
greatest_clock [] = 0
greatest_clock (x ∷ xs) = max x.clock (greatest_clock xs)

-- ---- "Starting values lie in the sheet's ranges", "with every thread at its statement 0"

-- values on their intervals, one by one
pub data AllIn : List ℤ → List Interval → Type 0 where
  no_values : AllIn [] []
  one_value : {z : ℤ} {i : Interval} {zs : List ℤ} {is : List Interval} → z ∈ i → AllIn zs is → AllIn (z ∷ zs) (i ∷ is)

pub data ThreadsStart : List Thread → List RunThread → Type 0 where
  no_more : ThreadsStart [] []
  one_more : {t : Thread} {zs : List ℤ} {ts : List Thread} {xs : List RunThread} → AllIn zs t.regs → ThreadsStart ts xs
      → ThreadsStart (t ∷ ts) (record { at = 0; clock = 0; regs = zs } ∷ xs)

pub record Starts (g : Program) (s : RunState) : Type 0 where
  pub threads_start : ThreadsStart g.threads s.threads
  pub vars_start : AllIn s.vars g.vars
  -- "at first none"
  pub owners_start : s.owners ≡ replicate g.locks none
