-- Demand 3 speaks of something: a run of sheet B, one event at tick 3, that finishes there, inside the label 2..3.
use mathlib.Core.Path.{◌≡◌, refl}
use mathlib.Core.List.{List, [], ◌∷◌}
use Prim.Native.Nat.{ℕ}
use lib.Dec.{T}
use Rattle.rules.specs.Program.{Program, skip, halt}
use Rattle.rules.specs.Format.{got, read_sheet}
use Rattle.rules.specs.Run.{RunState, Event, next, play, finished, greatest_clock, no_values, no_more, one_more, Starts}
use Rattle.rules.specs.Demands.{HoldsOfSheet}
use Rattle.rules.specs.Worked.{B}
use Rattle.rules.proofs.Compute.{every-rule}
use Rattle.rules.proofs.Demands.{accepted_holds}

abbrev program : Program
program = record {
  header = record { limit = 10; budget = 100; label_low = 2; label_high = 3 };
  locks = 0;
  vars = [];
  threads = record {
    place = 23;
    regs = [];
    statements = record { place = 27; least = 2; greatest = 3; action = skip } ∷ record { place = 35; least = 0; greatest = 0; action = halt } ∷ [];
  } ∷ [];
}

-- the one thread at a statement, its clock at a tick
abbrev standing-at : ℕ → ℕ → RunState
standing-at k c = record { threads = record { at = k; clock = c; regs = [] } ∷ []; vars = []; owners = [] }

abbrev at-three : List Event
at-three = record { thread = 0; tick = 3 } ∷ []

pub record FinishedRun : Type 0 where
  pub reads : read_sheet B ≡ got program 43
  pub starts : Starts program (standing-at 0 0)
  pub plays : play program (standing-at 0 0) at-three ≡ next (standing-at 1 3)
  pub finishes : T (finished program (standing-at 1 3))
  pub at_tick : greatest_clock (standing-at 1 3).threads ≡ 3

pub finished-run : FinishedRun
unfolding every-rule
finished-run = record {
  reads = refl;
  starts = record { threads_start = one_more no_values no_more; vars_start = no_values; owners_start = refl };
  plays = refl;
  finishes = tt;
  at_tick = refl;
}

-- and what demand 3 says of B
pub B-holds : HoldsOfSheet B
unfolding every-rule
B-holds = accepted_holds B 12000 refl
