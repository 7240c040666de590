-- Which action halts, as the code decodes it.
use mathlib.Core.Path.{◌≡◌, refl}
use Prim.Native.Nat.{ℕ}
use Rattle.rules.specs.Program as R
use Rattle.rules.specs.Program.{is_halt}
use Rattle.field.specs.Decoded.{action_of, halts}

pub halts-same : (at e : ℕ) (o : R.Action) → halts (action_of at e o) ≡ is_halt o
unfolding action_of is_halt
halts-same at e R.halt = refl
halts-same at e R.skip = refl
halts-same at e (R.assign r a) = refl
halts-same at e (R.branch t c) = refl
halts-same at e (R.store r v) = refl
halts-same at e (R.load r v) = refl
halts-same at e (R.unlock l) = refl
halts-same at e (R.lock l) = refl
