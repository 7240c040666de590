-- What a state is in the rules: of the code's four threads, eight registers each, eight variables and eight locks, as many as
-- the program has.
use Rattle.std.specs.Prelude.{ℕ, zero, suc, List, [], ◌∷◌, map, take, length}
use Rattle.std.proofs.Math.Option.{none, some}
use Rattle.rules.specs.Lock.{Owner}
use Rattle.rules.specs.Program as P
use Rattle.rules.specs.Program.{Program}
use Rattle.rules.specs.Search as S
use Rattle.expression.specs.Evaluation.{regs_of}
use Rattle.state.specs.declared.Thread.{Thread}
use Rattle.state.specs.declared.State.{State}

abbrev pub owner_of : ℕ → Owner
owner_of zero = none
owner_of (suc t) = some t

-- a thread with n registers
abbrev pub thread_of : ℕ → Thread → S.ThreadState
thread_of n x = record { at = x.at; low = x.clock.low.0; high = x.clock.high.0; regs = regs_of n x.regs }

-- one count of registers for each thread of the sheet
unfoldable pub threads_of : List ℕ → List Thread → List S.ThreadState
threads_of [] xs = []
threads_of (n ∷ ns) [] = []
threads_of (n ∷ ns) (x ∷ xs) = thread_of n x ∷ threads_of ns xs

unfoldable pub owners_of : ℕ → List ℕ → List Owner
owners_of n l = take n (map owner_of l)

-- how many of each the program has: registers, by thread; variables; locks
pub record Sizes : Type 0 where
  pub regs : List ℕ
  pub vars : ℕ
  pub locks : ℕ

unfoldable pub sizes_of : Program → Sizes
sizes_of g = record { regs = map (λ (t : P.Thread). length t.regs) g.threads; vars = length g.vars; locks = g.locks }

unfoldable pub state_of : Sizes → State → S.State
state_of z s = record { threads = threads_of z.regs s.threads; vars = regs_of z.vars s.vars; owners = owners_of z.locks s.owners }

unfoldable pub states_of : Sizes → List State → List S.State
states_of z xs = map (state_of z) xs
