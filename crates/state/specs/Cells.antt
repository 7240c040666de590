-- The numbers of a state, and back; the slots of the buffer and the stack that they hold.
use Rattle.std.specs.Prelude.{ℕ, zero, suc, min, ◌+◌, ◌*◌, ◌<◌, ◌≤◌, ◌≡◌, List, [], ◌∷◌, ◌++◌, get_or, take, drop, length, ℤ, pos, negsuc}
use Rattle.rules.specs.Constants.{half32, numbers_per_state, most_threads, most_variables, most_registers, most_locks}
use Rattle.interval.specs.declared.Span.{Span}
use Rattle.interval.specs.Shape.{zero_span}
use Rattle.state.specs.declared.Thread.{Thread}
use Rattle.state.specs.declared.State.{State}
use Rattle.state.specs.Access.{thread_at, owner_at}

-- ---- a state to its numbers: how many there are does not depend on the state

abbrev pub span_cells : Span → List ℤ
span_cells v = v.low.0 ∷ v.high.0 ∷ []

-- n spans of l, n bytes of l, from the i-th on
unfoldable pub span_cells_from : List Span → ℕ → ℕ → List ℤ
span_cells_from l i zero = []
span_cells_from l i (suc n) = (get_or l i zero_span).low.0 ∷ (get_or l i zero_span).high.0 ∷ span_cells_from l (suc i) n

unfoldable pub byte_cells_from : List ℕ → ℕ → ℕ → List ℤ
byte_cells_from l i zero = []
byte_cells_from l i (suc n) = pos (get_or l i 0) ∷ byte_cells_from l (suc i) n

unfoldable pub spans_cells : List Span → List ℤ
unfolding span_cells_from
spans_cells l = span_cells_from l 0 8

unfoldable pub owners_cells : List ℕ → List ℤ
unfolding byte_cells_from
owners_cells l = byte_cells_from l 0 8

unfoldable pub thread_cells : Thread → List ℤ
unfolding spans_cells
thread_cells th = pos th.at ∷ pos th.clock.low.0 ∷ pos th.clock.high.0 ∷ spans_cells th.regs

unfoldable pub encode : State → List ℤ
unfolding thread_cells spans_cells owners_cells
encode s =
    thread_cells (thread_at s 0)
    ++ (thread_cells (thread_at s 1)
    ++ (thread_cells (thread_at s 2) ++ (thread_cells (thread_at s 3) ++ (spans_cells s.vars ++ owners_cells s.owners))))

-- a thread's clock is a number that a cell holds
pub record Timed (th : Thread) : Type 0 where
  pub low : th.clock.low.0 < half32
  pub high : th.clock.high.0 < half32

pub record AllTimed (s : State) : Type 0 where
  pub timed : (t : ℕ) → t < most_threads → Timed (thread_at s t)

-- ---- numbers to a state: a number that is no byte reads as the nearest one, and one below 0 as 0

abbrev pub byte_of : ℤ → ℕ
byte_of (pos n) = min n 255
byte_of (negsuc n) = 0

abbrev pub time_of : ℤ → ℕ
time_of (pos n) = n
time_of (negsuc n) = 0

abbrev pub cell_at : List ℤ → ℕ → ℤ
cell_at b k = get_or b k (pos 0)

abbrev pub byte_from : List ℤ → ℕ → ℕ
byte_from b k = byte_of (cell_at b k)

abbrev pub time_from : List ℤ → ℕ → ℕ
time_from b k = time_of (cell_at b k)

abbrev pub span_from : List ℤ → ℕ → Span
span_from b k = record { low = record { 0 = cell_at b k }; high = record { 0 = cell_at b (k + 1) } }

abbrev pub spans_from : List ℤ → ℕ → List Span
spans_from b k =
    span_from b k ∷ span_from b (k + 2) ∷ span_from b (k + 4) ∷ span_from b (k + 6)
    ∷ span_from b (k + 8) ∷ span_from b (k + 10) ∷ span_from b (k + 12) ∷ span_from b (k + 14) ∷ []

abbrev pub bytes_from : List ℤ → ℕ → List ℕ
bytes_from b k =
    byte_from b k ∷ byte_from b (k + 1) ∷ byte_from b (k + 2) ∷ byte_from b (k + 3)
    ∷ byte_from b (k + 4) ∷ byte_from b (k + 5) ∷ byte_from b (k + 6) ∷ byte_from b (k + 7) ∷ []

abbrev pub thread_from : List ℤ → ℕ → Thread
thread_from b k = record {
  at = byte_from b k;
  clock = record { low = record { 0 = time_from b (k + 1) }; high = record { 0 = time_from b (k + 2) } };
  regs = spans_from b (k + 3);
}

unfoldable pub decode : List ℤ → State
decode b = record {
  threads = thread_from b 0 ∷ thread_from b 19 ∷ thread_from b 38 ∷ thread_from b 57 ∷ [];
  vars = spans_from b 76;
  owners = bytes_from b 92;
}

-- ---- slots, and the stack

abbrev pub slot_of : List ℤ → ℕ → List ℤ
slot_of b k = take numbers_per_state (drop (k * numbers_per_state) b)

-- the buffer with a slot's numbers replaced, and with a state's in it
abbrev pub with_slot : List ℤ → ℕ → List ℤ → List ℤ
with_slot b k cells = take (k * numbers_per_state) b ++ (cells ++ drop (k * numbers_per_state + numbers_per_state) b)

abbrev pub stored : List ℤ → ℕ → State → List ℤ
stored b k s = with_slot b k (encode s)

-- the stack of n states that the buffer holds, the top first
unfoldable pub stack_of : ℕ → List ℤ → List State
stack_of zero b = []
stack_of (suc n) b = decode (slot_of b n) ∷ stack_of n b

-- ---- what a state's lists are where the machine holds it

pub record Sound (s : State) : Type 0 where
  pub four : length s.threads ≡ most_threads
  pub regs : (t : ℕ) → t < most_threads → length (thread_at s t).regs ≡ most_registers
  pub ats : (t : ℕ) → t < most_threads → (thread_at s t).at ≤ 255
  pub vars : length s.vars ≡ most_variables
  pub owners : length s.owners ≡ most_locks
  pub owned : (l : ℕ) → l < most_locks → owner_at s l ≤ 255
