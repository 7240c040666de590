-- The index of a sheet: what the code gives of a program, and the tables it is made from.
use Rattle.std.specs.Prelude.{◌≡◌, Bool, true, List, [], ◌∷◌, map, ℕ, suc, ◌+◌, ◌*◌, ◌≤◌, leb, eqb, ltb, length, replicate, if◌then◌else◌, Result, Ok, Err}
use Rattle.std.proofs.lemmas.List.Edits.{sets}
use Rattle.rules.specs.Constants.{most_threads, most_statements}
use Rattle.rules.specs.Refusal.{no_such_name, no_halt, too_long}
use Rattle.rules.specs.Program.{Statement, Thread, Program}
use Rattle.rules.specs.Format.{Bytes, byte, Got, bad, got, need, read_fields}
use Rattle.refusal.specs.declared.Fault.{Fault}
use Rattle.refusal.specs.Shape.{fault_at}
use Rattle.field.specs.Ticks.{tick}
use Rattle.field.specs.declared.fields.Header.{Header}
use Rattle.field.specs.declared.outcome.Counted.{Counted}
use Rattle.reader.specs.declared.threads.ThreadEntry.{ThreadEntry}
use Rattle.reader.specs.declared.threads.Threads.{Threads}
use Rattle.reader.specs.declared.Index.{Index}

-- a place in an index is a number of two bytes
abbrev pub greatest_place : ℕ
greatest_place = 65535

-- the reader with another greatest length; `read_sheet` is this with `longest_sheet`
unfoldable pub read_up_to : ℕ → Bytes → Got Program
read_up_to most s = need (leb (length s) most) too_long 0 (read_fields s)

-- ---- closing a thread, from the places of its statements

-- the statement at p is no if, or its target is below n
unfoldable pub target_at : Bytes → ℕ → ℕ → Bool
target_at s n p = if eqb (byte s (p + 7)) 3 then ltb (byte s (p + 8)) n else true

-- every statement's target is below n: nothing, or the first that is not
unfoldable pub targets_at : Bytes → ℕ → List ℕ → Result (Unit {0}) Fault
targets_at s n [] = Ok tt
targets_at s n (p ∷ ps) = if target_at s n p then targets_at s n ps else Err (fault_at no_such_name p)

-- the last statement is halt
unfoldable pub last_at : Bytes → List ℕ → Result (Unit {0}) Fault
last_at s [] = Ok tt
last_at s (p ∷ []) = if eqb (byte s (p + 7)) 0 then Ok tt else Err (fault_at no_halt p)
last_at s (p ∷ q ∷ qs) = last_at s (q ∷ qs)

-- ---- a thread's statements: x is the code's answer, and the table l became m

abbrev pub places_of : List Statement → List ℕ
places_of xs = map (λ (x : Statement). x.place) xs

-- the places stand at the front of the table
abbrev pub StatementsRead : Got (List Statement) → List ℕ → List ℕ → Result Counted Fault → Type 0
StatementsRead (bad r p) l m x = x ≡ Err (fault_at r p)
StatementsRead (got xs q) l m x = (x ≡ Ok (record { count = length xs; end = q })) × (m ≡ sets l 0 (places_of xs)) × (length xs ≤ most_statements)

abbrev pub ThreadRead : Got Thread → List ℕ → List ℕ → Result Counted Fault → Type 0
ThreadRead (bad r p) l m x = x ≡ Err (fault_at r p)
ThreadRead (got t q) l m x =
    (x ≡ Ok (record { count = length t.statements; end = q })) × (m ≡ sets l 0 (places_of t.statements)) × (length t.statements ≤ most_statements)

-- ---- all threads

-- the places of thread t's statements stand from t * most_statements on
unfoldable pub lay_places : ℕ → List Thread → List ℕ → List ℕ
lay_places t [] l = l
lay_places t (x ∷ xs) l = lay_places (suc t) xs (sets l (t * most_statements) (places_of x.statements))

abbrev pub entry_with : ℕ → ℕ → ℕ → ThreadEntry
entry_with place registers statements = record { place = place; registers = registers; statements = statements }

abbrev pub no_entry : ThreadEntry
no_entry = entry_with 0 0 0

abbrev pub entry_of : Thread → ThreadEntry
entry_of t = entry_with t.place (length t.regs) (length t.statements)

-- an entry for each thread, and empty ones behind them
abbrev pub entries_of : List Thread → List ThreadEntry
entries_of ts = sets (replicate most_threads no_entry) 0 (map entry_of ts)

-- no place is stored
abbrev pub no_places : List ℕ
no_places = replicate (most_threads * most_statements) 0

abbrev pub ThreadsRead : Got (List Thread) → List ℕ → List ℕ → Result Threads Fault → Type 0
ThreadsRead (bad r p) l m x = x ≡ Err (fault_at r p)
ThreadsRead (got ts q) l m x = (x ≡ Ok (record { count = length ts; entries = entries_of ts })) × (m ≡ lay_places 0 ts l)

-- ---- the index

-- of a program; a refusal has its place
unfoldable pub index_of : Got Program → Result Index Fault
index_of (bad r p) = Err (fault_at r p)
index_of (got g e) = Ok (record {
  limit = tick g.header.limit;
  budget = g.header.budget;
  label_low = tick g.header.label_low;
  label_high = tick g.header.label_high;
  locks = g.locks;
  variables = length g.vars;
  threads = length g.threads;
  entries = entries_of g.threads;
  places = lay_places 0 g.threads no_places;
})

-- the same from what the code read before the threads
abbrev pub index_with : Header → ℕ → ℕ → Got (List Thread) → Result Index Fault
index_with h locks vars (bad r p) = Err (fault_at r p)
index_with h locks vars (got ts e) = Ok (record {
  limit = h.limit;
  budget = h.budget;
  label_low = h.label_low;
  label_high = h.label_high;
  locks = locks;
  variables = vars;
  threads = length ts;
  entries = entries_of ts;
  places = lay_places 0 ts no_places;
})
