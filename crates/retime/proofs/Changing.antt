-- The change by what the code finds and tests.
use Rattle.std.specs.Prelude.{Err}
use mathlib.Core.Path.{◌≡◌, refl, sym, ap, ◌∙◌}
use mathlib.Core.Bool.{Bool, true, false}
use Prim.Native.Nat.{ℕ, ◌+◌, ◌≤◌, ◌<◌}
use native.Mathlib.Omega.{arith}
use lib.Dec.{T}
use lib.ListN.{length}
use Rattle.rules.specs.Refusal.{off_range}
use Rattle.rules.specs.Format.{Bytes, bad, times_fit}
use Rattle.rules.proofs.Format.{times-in-order}
use Rattle.rules.proofs.IfAt.{is_true}
use Rattle.refusal.specs.declared.Refusal.{Refusal}
use Rattle.refusal.specs.declared.Fault.{Fault}
use Rattle.refusal.specs.Shape.{rule_of, fault_of}
use Rattle.reader.specs.Facts.{statement_in}
use Rattle.retimed.specs.Retime.{retimed, may_have, from_to, change_times, change}
use Rattle.retimed.proofs.Change.{times-off, times-made, change-refused, change-made, statement-room, least_small, greatest_small}
use Rattle.retime.specs.declared.find.Found.{Found}
use Rattle.retime.specs.Shape.{may_by, changed_as, changed_by, changed_of}
use Rattle.retime.proofs.Finding.{FoundThere}

-- ---- the code's test of times

pub times_reversed : (c l h : ℕ) → h < l → times_fit c l h ≡ false
times_reversed c l h g = by (times_fit c l h) (times-in-order c l h)
  where
    by : (b : Bool) → (T b → l ≤ h) → b ≡ false
    by true f = let e = f tt in absurd (omega arith)
    by false f = refl

-- ---- what the code finds, tests and gives

module _ {s : Bytes} {t k : ℕ} {f : Found} (w : FoundThere s t k f) (l h : ℕ) where
  pub may_of : may_have (statement_in w.program t k) l h ≡ may_by f.code l h
  unfolding may_have
  may_of = ap (λ (y : Found). may_by y.code l h) (sym w.same)

  pub place-of : (statement_in w.program t k).place ≡ f.place
  place-of = ap (λ (y : Found). y.place) (sym w.same)

  -- the code writes where there is room, numbers that two bytes hold
  pub may_write : may_by f.code l h ≡ true → (f.place + 7 ≤ length s) × (l < 65536) × (h < 65536)
  may_write m =
      let g = w.program in
      let a = is_true (may_have (statement_in g t k) l h) (may_of ∙ m) in
      let room : f.place + 7 ≤ length s = omega (arith, statement-room s t k g w.end w.reads w.there, place-of) in
      (room, least_small s t k g w.end w.reads w.there l h a, greatest_small s t k g w.end w.reads w.there l h a)

  pub found-made : may_by f.code l h ≡ true → {new : Bytes} → new ≡ retimed s f.place l h
      → changed_of (changed_as 0 0 (from_to t k f.least f.greatest l h)) new ≡ change s t k l h
  found-made m a =
      let g = w.program in
      let made = times-made s t k l h g w.end w.reads w.there (is_true (may_have (statement_in g t k) l h) (may_of ∙ m)) in
      ap (changed_of (changed_as 0 0 (from_to t k f.least f.greatest l h))) a
      ∙ ap (λ (x : Found). changed_of (changed_as 0 0 (from_to t k x.least x.greatest l h)) (retimed s x.place l h)) w.same
      ∙ sym (change-made s t k l h made)

  pub found-off : may_by f.code l h ≡ false → change_times s t k l h ≡ bad off_range 0
  found-off m = times-off s t k l h w.program w.end w.reads w.there (may_of ∙ m)

-- refused: the number and its place, zeros, and the sheet as it was
pub given-refused : (s : Bytes) (t k l h : ℕ) (f : Fault) → change_times s t k l h ≡ bad (rule_of f.refusal) f.place
    → changed_of (changed_by (Err f)) s ≡ change s t k l h
given-refused s t k l h f e = sym (change-refused s t k l h e)

pub given-placeless : (s : Bytes) (t k l h : ℕ) {f : Fault} {r : Refusal} → f ≡ fault_of r → change_times s t k l h ≡ bad (rule_of r) 0
    → changed_of (changed_by (Err f)) s ≡ change s t k l h
given-placeless s t k l h {r = r} q e = ap (λ (f : Fault). changed_of (changed_by (Err f)) s) q ∙ given-refused s t k l h (fault_of r) e
