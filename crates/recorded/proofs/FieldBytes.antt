-- A record's fields and their bytes, both ways: where the bytes that the recorder writes for a field stand, that field stands; and where a
-- field stands, so do the bytes that the recorder writes for what is read from it.
use mathlib.Core.Path.{◌≡◌, refl, ap, ◌∙◌}
use mathlib.Core.List.{◌∷◌, ◌++◌}
use Prim.Native.Nat.{ℕ, ◌+◌, ◌-◌, ◌*◌, ◌/◌, ◌%◌}
use native.Mathlib.Omega.{arith}
use lib.IntN.{ℤ}
use lib.ListN.{drop}
use Rattle.rules.specs.Format.{Bytes, AreBytes, byte, num16, num32, int32, twos_complement}
use Rattle.rules.specs.Encoding.{two, four, unsigned}
use Rattle.rules.specs.Run.{Event}
use Rattle.rules.specs.Fits.{Value}
use Rattle.rules.proofs.Values.{unsigned-read, read-unsigned}
use Rattle.rules.proofs.FieldAt.{Field, byte-from, field-there, behind-field, one_at, below, two_at, head_at}
use Rattle.recorded.specs.Follow.{clock_at}
use Rattle.recorded.specs.Recorder.{value_field, event_field}

-- ---- what the recorder writes is a field

-- the recorder's field of a value, and its field of an event
pub record ValueThere (r : Bytes) (at : ℕ) (z : ℤ) (rest : Bytes) : Type 0 where
  pub field : Field 32 4 r at
  pub value_is : int32 r (at + 3) ≡ z
  pub behind : drop (at + 3 + 4) r ≡ rest

pub record EventThere (r : Bytes) (at : ℕ) (v : Event) (rest : Bytes) : Type 0 where
  pub field : Field 33 3 r at
  pub thread_is : byte r (at + 3) ≡ v.thread
  pub clock_is : num16 r (at + 4) ≡ clock_at v.tick
  pub behind : drop (at + 3 + 3) r ≡ rest

module _ (r : Bytes) (at : ℕ) (rest : Bytes) where
  pub value_there : (z : ℤ) → Value z → drop at r ≡ value_field z ++ rest → ValueThere r at z rest
  unfolding int32 num32
  value_there z f e =
      let n = unsigned z in
      let body = four n in
      let is = byte-from r at (value_field z ++ rest) e in
      let a : byte r (at + 3) ≡ n / 65536 / 256 = is 3 (at + 3) refl in
      let b : byte r (at + 3 + 1) ≡ n / 65536 % 256 = is 4 (at + 3 + 1) (omega arith) in
      let c : byte r (at + 3 + 2) ≡ n % 65536 / 256 = is 5 (at + 3 + 2) (omega arith) in
      let d : byte r (at + 3 + 2 + 1) ≡ n % 65536 % 256 = is 6 (at + 3 + 2 + 1) (omega arith) in
      let number : num32 r (at + 3) ≡ n = omega arith in
      record { field = field-there r at 32 body rest e; value_is = ap twos_complement number ∙ unsigned-read z f; behind = behind-field r at 32 body rest e }

  pub event-there : (v : Event) → drop at r ≡ event_field v ++ rest → EventThere r at v rest
  event-there v e =
      let k = clock_at v.tick in
      let body : Bytes = v.thread ∷ two k in
      let is = byte-from r at (event_field v ++ rest) e in
      let b : byte r (at + 4) ≡ k / 256 = is 4 (at + 4) refl in
      let d : byte r (at + 4 + 1) ≡ k % 256 = is 5 (at + 4 + 1) (omega arith) in
      record { field = field-there r at 33 body rest e; thread_is = is 3 (at + 3) refl; clock_is = omega arith; behind = behind-field r at 33 body rest e }

-- ---- a field's bytes are those that the recorder writes

module _ (r : Bytes) (bytes : AreBytes r) where
  pub value-bytes : (at : ℕ) → Field 32 4 r at → drop at r ≡ value_field (int32 r (at + 3)) ++ drop (at + 3 + 4) r
  unfolding int32 num32
  value-bytes at f =
      let l = f.fits in
      let high = num16 r (at + 3) in
      let low = num16 r (at + 3 + 2) in
      let n = unsigned (int32 r (at + 3)) in
      let small = below r bytes in
      let b = small (at + 3) in let c = small (at + 3 + 1) in let d = small (at + 3 + 2) in let e = small (at + 3 + 2 + 1) in
      let back : n ≡ high * 65536 + low = read-unsigned (high * 65536 + low) (omega arith) in
      let x : high ≡ n / 65536 = omega arith in
      let y : low ≡ n % 65536 = omega arith in
      head_at r bytes 32 4 at f
      ∙ ap (λ (m : Bytes). 32 ∷ two 4 ++ m) (two_at r bytes (at + 3) (at + 3 + 2) refl (omega arith)
      ∙ ap (λ (m : Bytes). two high ++ m) (two_at r bytes (at + 3 + 2) (at + 3 + 4) (omega arith) (omega arith)))
      ∙ (λ i. 32 ∷ two 4 ++ (two (x i) ++ (two (y i) ++ drop (at + 3 + 4) r)))

  pub event-bytes : (at : ℕ) (v : Event) → Field 33 3 r at → byte r (at + 3) ≡ v.thread → num16 r (at + 4) ≡ clock_at v.tick
      → drop at r ≡ event_field v ++ drop (at + 6) r
  event-bytes at v f t clock =
      let l = f.fits in
      head_at r bytes 33 3 at f
      ∙ ap (λ (m : Bytes). 33 ∷ two 3 ++ m) (one_at r (at + 3) (at + 4) (omega arith) (omega arith)
      ∙ ap (λ (m : Bytes). byte r (at + 3) ∷ m) (two_at r bytes (at + 4) (at + 6) (omega arith) (omega arith)))
      ∙ (λ i. 33 ∷ two 3 ++ (t i ∷ two (clock i) ++ drop (at + 6) r))
