-- What holds of each of four threads.
use mathlib.Core.List.{[], ◌∷◌}
use Prim.Native.Nat.{ℕ, zero, suc, ◌<◌}
use native.Mathlib.Omega.{arith}
use lib.ListN.{get_or}
use Rattle.rules.specs.Constants.{most_threads}
use Rattle.state.specs.declared.Thread.{Thread}
use Rattle.state.specs.Access.{zero_thread}

-- what holds of four threads, each at its number
pub at-four : (P : ℕ → Thread → Type 0) (a b c d : Thread) → P 0 a → P 1 b → P 2 c → P 3 d → (t : ℕ) → t < most_threads → P t (get_or (a ∷ b ∷ c ∷ d ∷ []) t zero_thread)
at-four P a b c d pa pb pc pd zero h = pa
at-four P a b c d pa pb pc pd (suc zero) h = pb
at-four P a b c d pa pb pc pd (suc (suc zero)) h = pc
at-four P a b c d pa pb pc pd (suc (suc (suc zero))) h = pd
at-four P a b c d pa pb pc pd (suc (suc (suc (suc k)))) h = absurd (omega arith)
