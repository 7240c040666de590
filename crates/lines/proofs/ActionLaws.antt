-- What a statement does: numbers that fit a byte, and bytes put before others.
use Rattle.std.specs.Prelude.{if◌then◌else◌}
use mathlib.Core.Path.{◌≡◌, refl, ap, subst, ◌∙◌}
use mathlib.Core.Bool.{Bool, true, false, ◌&&◌}
use mathlib.Core.List.{[], ◌∷◌, ◌++◌}
use Prim.Native.Nat.{ℕ, suc, ◌+◌, ◌≤◌, ◌<◌, min}
use native.Mathlib.Omega.{arith}
use lib.Dec.{T, ltb}
use lib.ListN.{length, set, length-append}
use lib.Seq.{sets, set_comm}
use Rattle.rules.specs.Format.{Bytes}
use Rattle.rules.proofs.Base.{and_left, and_right}
use Rattle.text.specs.Convert.{fits_byte}
use Rattle.scan.specs.Reading.{capped}
use Rattle.scan.specs.Writing.{Wrote}
use Rattle.scan.proofs.WordLaws.{capped-below, capped_same}

pub small_is : (v : ℕ) → ltb (capped v) 256 ≡ fits_byte v
unfolding fits_byte
small_is v = capped-below 256 v (omega arith)

pub if-true : {X : Type 0} (b : Bool) (x y : X) → T b → (if b then x else y) ≡ x
if-true true x y t = refl
if-true false x y t = absurd t

-- where a number fits it is what was put
pub put_is : (m after : Bytes) (at : ℕ) (x v : ℕ) → x ≡ capped v → after ≡ (if ltb x 256 then set m at x else m) → T (ltb x 256)
    → after ≡ set m at v
put_is m after at x v c p t = p ∙ if-true (ltb x 256) (set m at x) m t
    ∙ ap (set m at) (c ∙ capped_same 256 v (omega arith) (subst (λ z. T (ltb z 256)) c t))

pub fit_of : (x v : ℕ) → x ≡ capped v → ltb x 256 ≡ fits_byte v
fit_of x v c = ap (λ z. ltb z 256) c ∙ small_is v

-- where the code tests one of two facts before the other
pub and-of : {a b : Bool} → a ≡ true → b ≡ (a && b)
and-of h = rw h

pub and-not : {a : Bool} (b : Bool) → a ≡ false → a ≡ (a && b)
and-not b h = rw h

-- ---- bytes put before what is written

set_before : (o : Bytes) (at k : ℕ) (b : ℕ) (y : Bytes) → at < k → set (sets o k y) at b ≡ sets (set o at b) k y
set_before o at k b [] l = refl
set_before o at k b (c ∷ y) l = set_before (set o k c) at (suc k) b y (omega arith)
    ∙ ap (λ z. sets z (suc k) y) (set_comm o k at c b (λ e. absurd (omega arith)))

sets-before : (o : Bytes) (at : ℕ) (x y : Bytes) → sets (sets o (at + length x) y) at x ≡ sets o at (x ++ y)
sets-before o at [] y = ap (λ k. sets o k y) (native.Mathlib.Nat.add-zero at)
sets-before o at (b ∷ x) y =
    let e : at + suc (length x) ≡ suc at + length x = omega arith in
    rw (e, set_before o at (suc at + length x) b y (omega arith)) (sets-before (set o at b) (suc at) x y)

pub wrote-before : (o m after : Bytes) (at from end : ℕ) (x y : Bytes) (f g : Bool) → from ≡ min (at + length x) 65536 → length o < 65536
    → Wrote o from y g m end → (T f → T g → at + length (x ++ y) ≤ length o → after ≡ sets m at x) → Wrote o at (x ++ y) (f && g) after end
wrote-before o m after at from end x y f g k s u p =
    let n : length (x ++ y) ≡ length x + length y = length-append x y in
    let i = u.end_is in
    record {
      end_is = rw n (omega arith);
      bytes_are = λ t r.
          let d : from ≡ at + length x = omega arith in
          let c = u.bytes_are (and_right f g t) (omega arith) in
          p (and_left f g t) (and_right f g t) r ∙ ap (λ z. sets z at x) (c ∙ ap (λ z. sets o z y) d) ∙ sets-before o at x y;
    }
