-- Runs worked out by hand, so that demand 3 speaks of the runs that 01 means: a sheet, a state, a list of events, and what the list
-- comes to from that state.
use Rattle.std.specs.Prelude.{◌≡◌, List, [], ◌∷◌, ◌++◌, ℕ, ℤ, pos}
use Rattle.std.proofs.Math.Option.{none, some}
use Rattle.rules.specs.Base.{Each}
use Rattle.rules.specs.Refusal.{no_reading}
use Rattle.rules.specs.Program.{Program}
use Rattle.rules.specs.Format.{Bytes, Got, bad, got, read_sheet}
use Rattle.rules.specs.Lock.{Owner}
use Rattle.rules.specs.Run.{RunState, Event, Outcome, not_event, no_result, next, play}
use Rattle.rules.specs.Sheets.{header, locks, thread, register, halt, assign, lock, unlock, constant, reg, divide}
use Rattle.rules.specs.Worked.{B_with, C, D, F}

pub record Played : Type 0 where
  pub sheet : Bytes
  pub from : RunState
  pub events : List Event
  pub comes_to : Outcome

abbrev pub play_on : Got Program → RunState → List Event → Outcome
play_on (bad r p) s es = not_event
play_on (got g e) s es = play g s es

abbrev pub Plays : Played → Type 0
Plays p = play_on (read_sheet p.sheet) p.from p.events ≡ p.comes_to

-- a row of the table below
abbrev pub row : Bytes → RunState → List Event → Outcome → Played
row sheet from es o = record { sheet = sheet; from = from; events = es; comes_to = o }

-- thread t ends its statement at a tick
abbrev pub ends : ℕ → ℕ → Event
ends t tick = record { thread = t; tick = tick }

-- one thread at statement k with its clock at a tick, and a register's value
abbrev pub one : ℕ → ℕ → ℤ → RunState
one k c z = record { threads = record { at = k; clock = c; regs = z ∷ [] } ∷ []; vars = []; owners = [] }

-- two threads, each at a statement with its clock, no registers, and the owners of the locks
abbrev pub two : ℕ → ℕ → ℕ → ℕ → List Owner → RunState
two k c l d os = record { threads = record { at = k; clock = c; regs = [] } ∷ record { at = l; clock = d; regs = [] } ∷ []; vars = []; owners = os }

-- 10 divided by register 0, which may be 0
abbrev pub divides : Bytes
divides = header 10 100 0 10 ++ locks 0 ++ thread 1 ++ register 0 5 ++ assign 1 1 0 (divide (constant 10) (reg 0)) ++ halt

-- thread 0 takes the lock twice and frees it once; thread 1 frees it, which it does not own
abbrev pub relocks : Bytes
relocks =
    header 10 100 0 10 ++ locks 1
    ++ thread 0 ++ lock 1 1 0 ++ lock 1 1 0 ++ unlock 1 1 0 ++ halt
    ++ thread 0 ++ unlock 1 1 0 ++ halt

unfoldable pub runs : List Played
runs =
    -- C: the ends at tick 3 come in either order
    row C (two 0 0 0 0 []) (ends 0 3 ∷ ends 1 3 ∷ []) (next (two 1 3 1 3 []))
    ∷ row C (two 0 0 0 0 []) (ends 1 3 ∷ ends 0 3 ∷ []) (next (two 1 3 1 3 []))
    -- no end past another live thread's latest tick; none before a clock; and 4 is reached once the other has halted
    ∷ row C (two 0 0 0 0 []) (ends 0 4 ∷ []) not_event
    ∷ row C (two 0 0 0 0 []) (ends 1 3 ∷ ends 0 2 ∷ []) not_event
    ∷ row C (two 0 0 0 0 []) (ends 1 2 ∷ ends 0 4 ∷ []) (next (two 1 4 1 2 []))
    -- a thread that stands at halt has no event; there is no third thread
    ∷ row C (two 0 0 0 0 []) (ends 1 3 ∷ ends 1 4 ∷ []) not_event
    ∷ row C (two 0 0 0 0 []) (ends 2 3 ∷ []) not_event
    -- D: at tick 2 the lock is freed first, then taken: finished at 3
    ∷ row D (two 0 0 0 0 (none ∷ [])) (ends 0 1 ∷ ends 1 1 ∷ ends 0 2 ∷ ends 1 2 ∷ ends 1 3 ∷ []) (next (two 2 2 2 3 (none ∷ [])))
    -- or tried first, which fails and takes a time of its own: finished at 4
    ∷ row D (two 0 0 0 0 (none ∷ [])) (ends 0 1 ∷ ends 1 1 ∷ ends 1 2 ∷ ends 0 2 ∷ ends 1 3 ∷ ends 1 4 ∷ []) (next (two 2 2 2 4 (none ∷ [])))
    -- "owned already, it is owned"; another's unlock "only moves on"; the owner's frees it, "however often taken"
    ∷ row relocks (two 0 0 0 0 (none ∷ [])) (ends 0 1 ∷ ends 1 1 ∷ ends 0 2 ∷ []) (next (two 2 2 1 1 (some 0 ∷ [])))
    ∷ row relocks (two 2 2 1 1 (some 0 ∷ [])) (ends 0 3 ∷ []) (next (two 3 3 1 1 (none ∷ [])))
    -- the limit is no rule of runs
    ∷ row (B_with 2 100 0 2) (record { threads = record { at = 0; clock = 0; regs = [] } ∷ []; vars = []; owners = [] }) (ends 0 3 ∷ [])
    (next (record { threads = record { at = 1; clock = 3; regs = [] } ∷ []; vars = []; owners = [] }))
    -- a division without a result is an event, and ends the list
    ∷ row divides (one 0 0 (pos 0)) (ends 0 1 ∷ []) (no_result no_reading)
    ∷ row divides (one 0 0 (pos 0)) (ends 0 1 ∷ ends 0 2 ∷ []) not_event
    ∷ row divides (one 0 0 (pos 4)) (ends 0 1 ∷ []) (next (one 1 1 (pos 2)))
    -- F: which branch is taken is the value's
    ∷ row F (one 0 0 (pos 4)) (ends 0 1 ∷ []) (next (one 2 1 (pos 4)))
    ∷ row F (one 0 0 (pos 5)) (ends 0 1 ∷ ends 0 11 ∷ []) (next (one 2 11 (pos 5)))
    -- "The empty list is a run."
    ∷ row F (one 0 0 (pos 5)) [] (next (one 0 0 (pos 5)))
    ∷ []

-- the claim: each list comes to what is said
abbrev pub RunsPlay : Type 0
RunsPlay = Each Plays runs
