-- Closing a thread, from the places of its statements, one place after the other.
use Rattle.std.specs.Prelude.{◌≡◌, ℕ, suc, ◌+◌, ◌-◌, ◌<◌, List, [], ◌∷◌, length, drop, get_or, slice_get, eqb, if◌then◌else◌, Some, Ok, Err}
use Rattle.std.proofs.Common.{refl, ap, subst, arith, add-one}
use Rattle.std.proofs.Math.Seq.{drop-cons}
use Rattle.rules.specs.Format.{Bytes, byte}
use Rattle.refusal.specs.declared.Refusal.TheVariants.{NoSuchName, NoHalt}
use Rattle.field.specs.Outcome.{needed}
use Rattle.reader.specs.Index.{target_at, targets_at, last_at}

last_from : (s : Bytes) (x : ℕ) (xs : List ℕ) (p : ℕ) → slice_get (x ∷ xs) (length xs) ≡ Some p
    → last_at s (x ∷ xs) ≡ needed (eqb (byte s (p + 7)) 0) NoHalt p
unfolding last_at
last_from s x [] p e = let h : x ≡ p = cc in ap (λ (q : ℕ). needed (eqb (byte s (q + 7)) 0) NoHalt q) h
last_from s x (y ∷ ys) p e = last_from s y ys p e

-- where the last place is p
pub last_is : (s : Bytes) (ps : List ℕ) (p : ℕ) → slice_get ps (length ps - 1) ≡ Some p → last_at s ps ≡ needed (eqb (byte s (p + 7)) 0) NoHalt p
last_is s [] p e = absurd (cc)
last_is s (x ∷ xs) p e =
    let m : suc (length xs) - 1 ≡ length xs = omega arith in
    last_from s x xs p (subst (λ (k : ℕ). slice_get (x ∷ xs) k ≡ Some p) m e)

-- where there is none
pub last_none : (s : Bytes) (ps : List ℕ) → length ps ≡ 0 → last_at s ps ≡ Ok tt
unfolding last_at
last_none s [] e = refl
last_none s (x ∷ xs) e = absurd (omega arith)

-- the targets from place k on
pub targets_from : (s : Bytes) (n k : ℕ) (ps : List ℕ) → k < length ps
    → targets_at s n (drop k ps) ≡ (if target_at s n (get_or ps k 0) then targets_at s n (drop (k + 1) ps) else Err (record { refusal = NoSuchName; place = get_or ps k 0 }))
unfolding targets_at
targets_from s n k ps h = rw (add-one, drop-cons ps k 0)
