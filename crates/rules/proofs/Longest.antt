-- One byte more than a sheet may have is enough to read: a longer sheet is refused for its length, whatever stands in it.
use mathlib.Core.Path.{◌≡◌, sym, ap, ◌∙◌}
use Prim.Native.Nat.{ℕ, ◌+◌, ◌<◌}
use native.Mathlib.Decide.{dec_le}
use native.Mathlib.Omega.{arith}
use borrow.Author.Tests.{lt-leb}
use lib.ListN.{length, take}
use lib.Seq.{take_all, length-take-le}
use Rattle.rules.specs.Refusal.{too_long}
use Rattle.rules.specs.Constants.{longest_sheet}
use Rattle.rules.specs.Format.{Bytes, bad, need, read_sheet}

-- what is the same for all that are longer than n is told by the first n + 1 bytes
pub told-by-front : {A : Type 0} (f : Bytes → A) (n : ℕ) (x : A) → ((s : Bytes) → n < length s → f s ≡ x) → (s : Bytes) → f (take (n + 1) s) ≡ f s
told-by-front f n x same s = elim (dec_le (length s) (n + 1)) [
  | yes h ↦ ap f (take_all (n + 1) s h)
  | no h ↦ let cut = length-take-le (n + 1) s (omega arith) in same (take (n + 1) s) (omega (arith, cut)) ∙ sym (same s (omega arith))
]

pub sheet-too-long : (s : Bytes) → longest_sheet < length s → read_sheet s ≡ bad too_long 0
unfolding read_sheet need
sheet-too-long s h = rw (lt-leb (length s) longest_sheet h)

pub sheet-told : (s : Bytes) → read_sheet (take (longest_sheet + 1) s) ≡ read_sheet s
sheet-told = told-by-front read_sheet longest_sheet (bad too_long 0) sheet-too-long
