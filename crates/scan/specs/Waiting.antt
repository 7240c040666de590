-- Codes that go before what is written, and wait beside it.
use Rattle.std.specs.Prelude.{◌≡◌, [], ◌∷◌, ℕ, ◌+◌, min, ltb, length, take, reverse, if◌then◌else◌}
use Rattle.rules.specs.Format.{Bytes}
use Rattle.scan.specs.declared.waiting.Waiting.{Waiting}
use Rattle.scan.specs.Writing.{inserted}

-- the codes that wait, as they are put: the last one first
unfoldable pub waiting : {N : ℕ} → Waiting N → Bytes
waiting w = reverse (take w.count w.codes)

-- one code more, c, waits before the others, w; where these are as many as there is room for, they are put before what stands from at
-- to end, and c waits alone
pub record Keeps (room : ℕ) (m : Bytes) (at end : ℕ) (w : Bytes) (c : ℕ) (after : Bytes) (end' : ℕ) (w' : Bytes) : Type 0 where
  pub bytes_are : after ≡ (if ltb (length w) room then m else inserted m at end w)
  pub end_is : end' ≡ (if ltb (length w) room then end else min (end + length w) 65536)
  pub codes_are : w' ≡ c ∷ (if ltb (length w) room then w else [])
