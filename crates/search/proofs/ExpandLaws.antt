-- The loop over the threads of a state, from the last to the first.
use Rattle.std.specs.Prelude.{Result, Ok}
use mathlib.Core.Path.{◌≡◌, refl}
use mathlib.Core.List.{[]}
use Prim.Native.Nat.{ℕ, suc, ◌-◌, ◌≤◌, ◌<◌}
use native.Mathlib.Omega.{arith}
use lib.ListN.{length, drop_of_length-le}
use Rattle.rules.specs.Program.{Program}
use Rattle.rules.specs.Search as S
use Rattle.rules.specs.Search.{Turn, refused, ended, follow, events, live_from}
use Rattle.refusal.specs.declared.Fault.{Fault}
use Rattle.event.proofs.PushLaws.{none-pushed}
use Rattle.search.specs.Taken.{program_of, sizes_in, rules_state, live_after}
use Rattle.search.specs.Turn.{Makes, events_in}
use Rattle.search.specs.declared.taken.Taken.{Taken}
use Rattle.event.specs.Stack.{SameStack}
use Rattle.event.specs.declared.stack.Stack.{Stack}

-- from the stack a, the events of the threads from t on have made m, and the stack b
pub record Expanding (x : Taken) (latest bound : ℕ) (a b : Stack) (m : Result (Unit {0}) Fault) (t : ℕ) : Type 0 where
  pub inside : t ≤ length (program_of x).threads
  pub same : SameStack a b
  pub made : Makes (sizes_in x) a b m (events_in x latest bound t)

-- behind the last thread nothing is made
no-events : (g : Program) (s : S.State) (latest bound n : ℕ) → n ≡ length g.threads → events s latest bound (live_after g s n) ≡ follow []
unfolding live_from events
no-events g s latest bound n q = let l : length g.threads ≤ n = omega arith in rw (drop_of_length-le g.threads l)

pub expand-start : (x : Taken) (latest bound n : ℕ) (a : Stack) → n ≡ length (program_of x).threads → Expanding x latest bound a a (Ok tt) n
expand-start x latest bound n a q = record {
  inside = omega arith;
  same = (refl, refl);
  made = rw (no-events (program_of x) (rules_state x) latest bound n q) (refl, none-pushed a.high);
}

-- the threads behind the one before t
pub expand-later : {x : Taken} {latest bound : ℕ} {a b : Stack} {m : Result (Unit {0}) Fault} {t : ℕ} → Expanding x latest bound a b m t → 0 < t
    → Makes (sizes_in x) a b m (events_in x latest bound (suc (t - 1)))
expand-later {t = t} at l = let e : suc (t - 1) ≡ t = omega arith in rw e at.made
