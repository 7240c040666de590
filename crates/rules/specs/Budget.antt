-- How much budget is enough, and what a larger budget or work buffer keeps (02, ticket 11), stated. Nothing here is proved:
-- `proofs/Budget.antt` proves the whole, `BudgetClaims`.
use Rattle.std.specs.Prelude.{◌≡◌, List, [], ◌∷◌, ◌++◌, ℕ, zero, suc, ◌+◌, ◌*◌, ◌/◌, ◌^◌, ◌≤◌, ◌<◌, length, take, drop}
use Rattle.rules.specs.Base.{Each}
use Rattle.rules.specs.Refusal.{Refusal, number, out_of_steps, out_of_room}
use Rattle.rules.specs.Constants.{greatest_budget, numbers_per_state}
use Rattle.rules.specs.Program.{Header, Program}
use Rattle.rules.specs.Format.{Bytes, got, byte, num32, read_sheet}
use Rattle.rules.specs.Run.{RunState, Event, IsRun, Starts}
use Rattle.rules.specs.Search.{unseen, End, fails, finds, search, start, Answer, five, answer_with, answer}
use Rattle.rules.specs.Encoding.{four}
use Rattle.rules.specs.Sheets.{header, locks, thread, register, halt, branch, constant, reg, less}
use Rattle.rules.specs.Worked.{Fact, gives, Holds, B_with, C, D, E}

-- ---- "for sheets that read well and budgets in 01's range: any answer but 13 keeps its five numbers under every larger budget"

abbrev pub ReadsWell : Bytes → Type 0
ReadsWell s = (g : Program) × (end : ℕ) × (read_sheet s ≡ got g end)

abbrev pub AnyBut : Refusal → Answer → Type 0
AnyBut r a = a.refusal ≡ number r → ⊥

-- the budget's four bytes stand at 7 to 10: behind the first field's header and the limit
abbrev pub budget_in : Bytes → ℕ
budget_in s = num32 s 7

-- "the rest being equal": two sheets of one length that differ at most in these bytes
pub record SameButBudget (s t : Bytes) : Type 0 where
  pub same_length : length s ≡ length t
  pub same_before : (p : ℕ) → p < 7 → byte s p ≡ byte t p
  pub same_behind : (p : ℕ) → 11 ≤ p → byte s p ≡ byte t p

-- `answers` gives the five numbers for a sheet and the length of a work buffer
abbrev pub KeptByBudget : (Bytes → ℕ → Answer) → Type 0
KeptByBudget answers =
    (s t : Bytes) (n : ℕ) → ReadsWell s → SameButBudget s t → budget_in s ≤ budget_in t → budget_in t ≤ greatest_budget
    → AnyBut out_of_steps (answers s n) → answers t n ≡ answers s n

-- the sheet with budget b in those bytes
unfoldable pub with_budget : ℕ → Bytes → Bytes
with_budget b s = take 7 s ++ four b ++ drop 11 s

-- the same of a larger budget written there
abbrev pub KeptWithBudget : (Bytes → ℕ → Answer) → Type 0
KeptWithBudget answers =
    (s : Bytes) (n b : ℕ) → ReadsWell s → budget_in s ≤ b → b ≤ greatest_budget
    → AnyBut out_of_steps (answers s n) → answers (with_budget b s) n ≡ answers s n

-- ---- "and any but 14 under every larger buffer": of every sheet, whether it reads or not

abbrev pub KeptByBuffer : (Bytes → ℕ → Answer) → Type 0
KeptByBuffer answers = (s : Bytes) (n m : ℕ) → n ≤ m → AnyBut out_of_room (answers s n) → answers s m ≡ answers s n

-- ---- "in the rules taken with no upper end on the budget": a program with any budget, and its five numbers

abbrev pub header_with : ℕ → Header → Header
header_with b h = record { limit = h.limit; budget = b; label_low = h.label_low; label_high = h.label_high }

abbrev pub rebudgeted : ℕ → Program → Program
rebudgeted b g = record { header = header_with b g.header; locks = g.locks; vars = g.vars; threads = g.threads }

-- (the place where the reading ended plays no part: 0 stands for it)
unfoldable pub answer_of : Program → ℕ → Answer
answer_of g n = answer_with (n / numbers_per_state) (got g 0)

-- those of a sheet are those of the program that it reads as
abbrev pub AnswersAsProgram : Type 0
AnswersAsProgram = (s : Bytes) (n : ℕ) (g : Program) (end : ℕ) → read_sheet s ≡ got g end → answer s n ≡ answer_of g n

-- any answer but 13 is kept there too
abbrev pub KeptOfProgram : Type 0
KeptOfProgram = (g : Program) (n b : ℕ) → g.header.budget ≤ b → AnyBut out_of_steps (answer_of g n) → answer_of (rebudgeted b g) n ≡ answer_of g n

-- ---- "With n threads and limit L, a budget of at least the sum of the powers of 2n from power 0 to power n times L never meets 13"

-- the sum of the powers of b from power 0 to a power
unfoldable pub powers : ℕ → ℕ → ℕ
powers b zero = b ^ 0
powers b (suc k) = powers b k + b ^ suc k

-- for n threads and a limit
abbrev pub enough_for : ℕ → ℕ → ℕ
enough_for n limit = powers (2 * n) (n * limit)

abbrev pub enough : Program → ℕ
enough g = enough_for (length g.threads) g.header.limit

-- of the five numbers, with any work buffer
abbrev pub EnoughNeverMeets : Type 0
EnoughNeverMeets =
    (s : Bytes) (g : Program) (end : ℕ) → read_sheet s ≡ got g end
    → (n b : ℕ) → enough g ≤ b → AnyBut out_of_steps (answer_of (rebudgeted b g) n)

-- so a sheet whose own budget is enough is never answered 13
abbrev pub EnoughInTheSheet : Type 0
EnoughInTheSheet = (s : Bytes) (n : ℕ) (g : Program) (end : ℕ) → read_sheet s ≡ got g end → enough g ≤ g.header.budget → AnyBut out_of_steps (answer s n)

-- a search that does not end with refusal r
abbrev pub NotBy : Refusal → End → Type 0
NotBy r (fails q p n) = number q ≡ number r → ⊥
NotBy r (finds n w) = Unit {0}

-- and of the search, with any number of slots
abbrev pub SearchNeverMeets : Type 0
SearchNeverMeets =
    (s : Bytes) (g : Program) (end : ℕ) → read_sheet s ≡ got g end
    → (slots b : ℕ) → enough g ≤ b → NotBy out_of_steps (search b g slots (start g ∷ []) unseen 0)

-- ---- "Show also that a run of an accepted sheet has at most n times L events."

abbrev pub FewEvents : Type 0
FewEvents =
    (s : Bytes) (n : ℕ) → (answer s n).refusal ≡ 0 → (g : Program) (end : ℕ) → read_sheet s ≡ got g end
    → (x : RunState) → Starts g x → (es : List Event) → IsRun g x es → length es ≤ length g.threads * g.header.limit

-- ---- worked

-- the greatest limit for which the sum for n threads is a budget that 01 allows, and that sum
pub record GreatestLimit (n limit sum : ℕ) : Type 0 where
  pub sum_is : enough_for n limit ≡ sum
  pub is_allowed : sum ≤ greatest_budget
  pub no_later_one : (later : ℕ) → limit < later → greatest_budget < enough_for n later

-- statement r, an if of one tick on register r, undecided, that goes on at the next statement either way: it doubles the states
abbrev pub either_way : ℕ → Bytes
either_way r = branch 1 1 (suc r) (less (reg r) (constant 5))

-- one thread and limit 3: three of them
abbrev pub one_after_another : ℕ → Bytes
one_after_another budget = header 3 budget 0 3 ++ locks 0 ++ thread 3 ++ register 0 9 ++ register 0 9 ++ register 0 9 ++ either_way 0 ++ either_way 1 ++ either_way 2 ++ halt

-- two threads and limit 1: one of them in each
abbrev pub side_by_side : ℕ → Bytes
side_by_side budget = header 1 budget 0 1 ++ locks 0 ++ thread 1 ++ register 0 9 ++ either_way 0 ++ halt ++ thread 1 ++ register 0 9 ++ either_way 0 ++ halt

unfoldable pub budgets : List Fact
budgets =
    -- the search takes 1 + 2 + 4 + 8 states: the sum, and no smaller budget is enough for it
    gives (one_after_another (enough_for 1 3)) 12000 (five 0 0 15 3 3)
    ∷ gives (one_after_another 14) 12000 (five 13 0 14 0 0)
    -- 1 + 4 + 8 states, where the sum is 1 + 4 + 16
    ∷ gives (side_by_side (enough_for 2 1)) 12000 (five 0 0 13 1 1)
    -- a smaller budget is often enough: the sum for two threads and limit 10 has thirteen digits, and D takes 19 steps
    ∷ gives (with_budget 18 D) 12000 (five 13 0 18 0 0)
    ∷ gives (with_budget 19 D) 12000 (five 0 0 19 3 4)
    ∷ gives (with_budget greatest_budget D) 12000 (five 0 0 19 3 4)
    -- a refusal is kept as well: stuck, and a broken label
    ∷ gives (with_budget 2 E) 12000 (five 13 0 2 0 0)
    ∷ gives (with_budget 3 E) 12000 (five 11 0 3 0 0)
    ∷ gives (with_budget greatest_budget E) 12000 (five 11 0 3 0 0)
    ∷ gives (with_budget 2 (B_with 10 100 3 3)) 12000 (five 15 0 2 2 3)
    ∷ gives (with_budget greatest_budget (B_with 10 100 3 3)) 12000 (five 15 0 2 2 3)
    -- with one slot C has no room after its first step, whatever the budget; with two the budget decides
    ∷ gives (with_budget 1 C) 199 (five 14 0 1 0 0)
    ∷ gives (with_budget greatest_budget C) 199 (five 14 0 1 0 0)
    ∷ gives (with_budget 1 C) 200 (five 13 0 1 0 0)
    ∷ gives (with_budget 5 C) 200 (five 0 0 5 2 4)
    ∷ gives (with_budget 5 C) 12000 (five 0 0 5 2 4)
    ∷ []

-- ---- the claim

pub record BudgetClaims : Type 0 where
  pub larger_budget : KeptByBudget answer
  pub larger_budget_written : KeptWithBudget answer
  pub larger_buffer : KeptByBuffer answer
  pub as_program : AnswersAsProgram
  pub larger_budget_of_program : KeptOfProgram
  pub enough_never_meets : EnoughNeverMeets
  pub enough_in_the_sheet : EnoughInTheSheet
  pub search_never_meets : SearchNeverMeets
  pub few_events : FewEvents
  -- the sum is a budget that 01 allows for limits up to these
  pub one_thread : GreatestLimit 1 22 8388607
  pub two_threads : GreatestLimit 2 5 1398101
  pub three_threads : GreatestLimit 3 2 55987
  pub four_threads : GreatestLimit 4 1 4681
  pub budgets_hold : Each Holds budgets
