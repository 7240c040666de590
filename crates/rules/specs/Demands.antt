-- The three demands of the request, stated. Nothing here is proved: `proofs/Demands.antt` proves what they say of the rules
-- themselves, and the promise of the library's call says all three of its sheet and its work buffer.
use Rattle.std.specs.Prelude.{◌≡◌, not, List, ℕ, ◌*◌, ◌≤◌, T, ℤ, pos, length, replicate}
use Rattle.rules.specs.Program.{Program}
use Rattle.rules.specs.Format.{Bytes, got, read_sheet}
use Rattle.rules.specs.Run.{RunState, Event, next, play, IsRun, CanGoOn, finished, greatest_clock, Starts}
use Rattle.rules.specs.Search.{Window, seen, finds, search_from, Answer, answer}

-- ---- 1. "the work buffer is all zeros at return", whatever the sheet and however small the buffer
-- (that a call reads nothing outside what it was lent, wraps no sum and returns is proved of every function)

abbrev pub AllZeros : List ℤ → List ℤ → Type 0
AllZeros lent left = left ≡ replicate (length lent) (pos 0)

-- 01: "the sheet is unchanged", in every case
abbrev pub Unchanged : Bytes → Bytes → Type 0
Unchanged before after = after ≡ before

-- ---- 2. "The window, the step count and each refusal are the ones those rules give, no wider and no narrower"

abbrev pub FollowsTheRules : Bytes → List ℤ → Answer → Type 0
FollowsTheRules sheet lent given = given ≡ answer sheet (length lent)

-- "a label is accepted only if the window lies inside it": of an accepted sheet and its five numbers. And every run that
-- finishes does so inside the window
pub record WindowInside (sheet : Bytes) (given : Answer) : Type 0 where
  pub program : Program
  pub end : ℕ
  pub reads : read_sheet sheet ≡ got program end
  pub from_label_lem : program.header.label_low ≤ given.low
  pub to_label : given.high ≤ program.header.label_high
  pub holds_finishes : (s : RunState) → Starts program s → (es : List Event) (x : RunState) → play program s es ≡ next x → T (finished program x)
      → (given.low ≤ greatest_clock x.threads) × (greatest_clock x.threads ≤ given.high)

abbrev pub AcceptedInside : Type 0
AcceptedInside = (sheet : Bytes) (n : ℕ) → (answer sheet n).refusal ≡ 0 → WindowInside sheet (answer sheet n)

-- 01: "A search that ends without a refusal has found a window; this is shown."
abbrev pub IsSeen : Window → Type 0
IsSeen w = (a : ℕ) × (b : ℕ) × (w ≡ seen a b)

abbrev pub WindowFound : Type 0
WindowFound = (sheet : Bytes) (g : Program) (end : ℕ) → read_sheet sheet ≡ got g end
    → (slots steps : ℕ) (w : Window) → search_from g slots ≡ finds steps w → IsSeen w

-- 0, or one of 10 to 16
pub record OfSearch (n : ℕ) : Type 0 where
  pub at_least : (n ≡ 0 → ⊥) → 10 ≤ n
  pub at_most : n ≤ 16

-- of a sheet that reads, whatever the buffer, the refusal is such a number: none of the reader's 1 to 9, and neither 19 nor 21
abbrev pub NoSheetFault : Type 0
NoSheetFault = (sheet : Bytes) (n : ℕ) (g : Program) (end : ℕ) → read_sheet sheet ≡ got g end → OfSearch (answer sheet n).refusal

-- ---- 3. what holds of a list of events that is a run from a starting state

pub record HoldsOfRun (g : Program) (s : RunState) (es : List Event) : Type 0 where
  -- "after that list no arithmetic in it has lacked a result": it leaves a state
  pub state : RunState
  pub has_result : play g s es ≡ next state
  -- "the run can go on exactly when it has not finished"
  pub unfinished_goes_on : T (not (finished g state)) → CanGoOn g state
  pub finished_stops : CanGoOn g state → T (not (finished g state))
  -- "if it has finished, it did so at a tick inside the label"
  pub above_label_low : T (finished g state) → g.header.label_low ≤ greatest_clock state.threads
  pub below_label_high : T (finished g state) → greatest_clock state.threads ≤ g.header.label_high
  -- "No run of the sheet has more events than one number fixed for that sheet"
  pub few_events : length es ≤ length g.threads * g.header.limit

-- an accepted sheet reads as a program; there is a start in its ranges; and so it is for "every choice of starting values in
-- its ranges and every list of events a run may have from there"
pub record HoldsOfSheet (sheet : Bytes) : Type 0 where
  pub program : Program
  pub end : ℕ
  pub reads : read_sheet sheet ≡ got program end
  pub some_start : RunState
  pub starts : Starts program some_start
  pub every_run : (s : RunState) → Starts program s → (es : List Event) → IsRun program s es → HoldsOfRun program s es

-- "A sheet is accepted if the tool gives it refusal 0 with some work buffer."
abbrev pub AcceptedHolds : Type 0
AcceptedHolds = (sheet : Bytes) (n : ℕ) → (answer sheet n).refusal ≡ 0 → HoldsOfSheet sheet
