-- What the machine's hold on a state tells of its lists: their lengths, and that a byte is one; and what its hold on a slot's
-- numbers tells of them.
use mathlib.Core.Path.{◌≡◌}
use mathlib.Core.List.{List, [], ◌∷◌}
use Prim.Native.Nat.{ℕ, zero, suc, ◌<◌, ◌≤◌, ◌^◌}
use native.Mathlib.Omega.{arith}
use native.Mathlib.Nat.{not-suc-le-zero, le_of_suc-le-suc}
use lib.ListN.{length, get_or}
use lib.IntN.{ℤ}
use lib.Signed.{mag}
use mir.Syntax.{w32}
use mir.Val.{Val}
use denote.Shadow.{shadow}
use denote.Array.{each}
use denote.Signed.{SInt}
use denote.RattleType.{Valss, owns}
use denote.Struct.Declared.{shape}
use denote.Struct.Field.{u8-field}
use Rattle.state.specs.contracts.State as State-m
use Rattle.state.specs.contracts.Thread as Thread-m
use Rattle.state.specs.declared.Thread.{Thread}
use Rattle.state.specs.declared.State.{State}
use Rattle.state.specs.Access.{zero_thread}
use Rattle.state.specs.Cells.{cell_at, Sound}

each-byte : (l : List ℕ) (us : List Val) → shadow (each u8-field.row.Denot u8-field.row.own_val l us) → (k : ℕ) → k < length l → get_or l k 0 ≤ 255
each-byte [] us g k h = absurd (not-suc-le-zero h)
each-byte (x ∷ l) [] g k h = absurd g
each-byte (x ∷ l) (u ∷ us) g zero h = omega (arith, g.0.1)
each-byte (x ∷ l) (u ∷ us) g (suc k) h = each-byte l us g.1 k (le_of_suc-le-suc h)

thread-good : (x : Thread) (u : Val) → shadow (Thread-m.the_row.own_val x (u ∷ [])) → (length x.regs ≡ 8) × (x.at ≤ 255)
thread-good x u g = (g.1.1.1.1.0.1.0.1, omega (arith, g.1.1.0.1))

each-thread : (l : List Thread) (us : List Val) → shadow (each Thread-m.the_row.Denot Thread-m.the_row.own_val l us) → (k : ℕ) → k < length l → (length (get_or l k zero_thread).regs ≡ 8) × ((get_or l k zero_thread).at ≤ 255)
each-thread [] us g k h = absurd (not-suc-le-zero h)
each-thread (x ∷ l) [] g k h = absurd g
each-thread (x ∷ l) (u ∷ us) g zero h = thread-good x u g.0
each-thread (x ∷ l) (u ∷ us) g (suc k) h = each-thread l us g.1 k (le_of_suc-le-suc h)

pub sound-of : (s : State) (vs : Valss (shape State-m.the_type).fields) → shadow (owns (shape State-m.the_type).fields ((State-m.the_type).to s) vs) → Sound s
sound-of s vs g =
    let four : length s.threads ≡ 4 = g.0.1.0.1 in
    let owners : length s.owners ≡ 8 = g.1.1.0.1.0.1 in
    let ts = each-thread s.threads g.0.0 g.0.1.1 in
    record {
      four = four;
      regs = λ k h. (ts k (omega arith)).0;
      ats = λ k h. (ts k (omega arith)).1;
      vars = g.1.0.1.0.1;
      owners = owners;
      owned = λ k h. each-byte s.owners g.1.1.0.0 g.1.1.0.1.1 k (omega arith);
    }

-- a number of 32 bits is one
pub each-small : (l : List ℤ) (us : List Val) → shadow (each (SInt w32).Denot (SInt w32).own_val l us) → (k : ℕ) → k < length l → mag (cell_at l k) < 2 ^ 31
each-small [] us g k h = absurd (not-suc-le-zero h)
each-small (x ∷ l) [] g k h = absurd g
each-small (x ∷ l) (u ∷ us) g zero h = g.0.1
each-small (x ∷ l) (u ∷ us) g (suc k) h = each-small l us g.1 k (le_of_suc-le-suc h)
