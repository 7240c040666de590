-- What a reader gives that writes what it reads, as the rules' own reading and the bytes of what it read.
use Rattle.std.specs.Prelude.{◌≡◌, Bool, ◌++◌, ℕ, ◌+◌, ◌-◌, ◌≤◌, min, T, ltb, length, take, drop, if◌then◌else◌, Result, Ok, Err}
use Rattle.std.proofs.lemmas.List.Edits.{sets}
use Rattle.rules.specs.Format.{Bytes}
use Rattle.text.specs.Words.{Read, stop, took}
use Rattle.scan.specs.declared.step.Built.{Built}

-- where it fits and there is room, the bytes stand at the place; the end is known all the same, counted up to 65,536, which is
-- past every output
pub record Wrote (out : Bytes) (at : ℕ) (enc : Bytes) (fit : Bool) (after : Bytes) (end : ℕ) : Type 0 where
  pub end_is : end ≡ min (at + length enc) 65536
  pub bytes_are : T fit → at + length enc ≤ length out → after ≡ sets out at enc

-- how a thing is written, whether its numbers fit, and whether it is a condition
pub record Form (A : Type 0) : Type 0 where
  pub bytes : A → Bytes
  pub fits : A → Bool
  pub logical : A → Bool

-- something was read, up to the place behind it, and written
pub record Made {A : Type 0} (F : Form A) (s out : Bytes) (at : ℕ) (after : Bytes) (g : Read A) (b : Built Bool) : Type 0 where
  pub thing : A
  pub is : g ≡ took thing (drop b.place s)
  pub kind : b.kind ≡ F.logical thing
  pub fit_is : b.fits ≡ F.fits thing
  pub wrote : Wrote out at (F.bytes thing) b.fits after b.end

unfoldable pub Builds : {A : Type 0} → Form A → Bytes → Bytes → ℕ → Bytes → Read A → Result (Built Bool) ℕ → Type 0
Builds F s out at after g (Ok b) = Made F s out at after g b
Builds F s out at after g (Err q) = g ≡ stop (drop q s)

abbrev pub built_place : {K : Type 0} → Result (Built K) ℕ → ℕ
built_place (Ok b) = b.place
built_place (Err q) = q

abbrev pub built_end : {K : Type 0} → ℕ → Result (Built K) ℕ → ℕ
built_end at (Ok b) = b.end
built_end at (Err q) = at

-- neither the place nor the end goes back
pub record OnwardBuilt {K : Type 0} (s : Bytes) (p at : ℕ) (r : Result (Built K) ℕ) : Type 0 where
  pub on : p ≤ built_place r
  pub inside : built_place r ≤ length s
  pub from : at ≤ built_end at r
  pub top : built_end at r ≤ 65536

-- a thing stands written, and what is read goes on behind it
pub record Begun {A : Type 0} (F : Form A) (out : Bytes) (at : ℕ) (now : Bytes) (b : Built Bool) (a : A) : Type 0 where
  pub fit_is : b.fits ≡ F.fits a
  pub wrote : Wrote out at (F.bytes a) b.fits now b.end
  pub room : length out ≡ length now

-- bs is put before what stands from at to end, which moves on; where there is no room for that, nothing changes
abbrev pub inserted : Bytes → ℕ → ℕ → Bytes → Bytes
inserted m at end bs =
    if ltb (length m) (end + length bs) then m else take at m ++ (bs ++ (take (end - at) (drop at m) ++ drop (end + length bs) m))
