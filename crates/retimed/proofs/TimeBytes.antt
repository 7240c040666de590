-- The four time bytes: the times that are written are shown and cover those before, and no other byte is written.
use Rattle.std.specs.Prelude.{if◌then◌else◌}
use mathlib.Core.Path.{◌≡◌, refl, sym, ap, ◌∙◌}
use mathlib.Core.Bool.{Bool, true, false}
use Prim.Native.Nat.{ℕ, ◌+◌, ◌/◌, ◌%◌, ◌≤◌, ◌<◌}
use native.Mathlib.Decide.{ℕ_discrete}
use native.Mathlib.Omega.{arith}
use lib.Dec.{eqb}
use lib.ListN.{length, set, length-set}
use lib.Seq.{get_or-set_same, get_or-set_other, ext_get_or}
use borrow.Author.Tests.{eq-eqb, ne_eqb}
use Rattle.rules.specs.Format.{Bytes, AreBytes, byte, num16}
use Rattle.retimed.specs.Retime.{retimed}
use Rattle.rules.proofs.Base.{each_set}

pub retimed-length : (s : Bytes) (p l g : ℕ) → length (retimed s p l g) ≡ length s
unfolding retimed
retimed-length s p l g = simp length-set

byte-set : (s : Bytes) (i j v : ℕ) → j < length s → byte (set s i v) j ≡ (if eqb j i then v else byte s j)
byte-set s i j v h = elim (ℕ_discrete j i) [
  | yes e ↦ rw (eq-eqb j i e) (ap (byte (set s i v)) e ∙ get_or-set_same s i v 0 (omega arith))
  | no n ↦ rw (ne_eqb j i n) (get_or-set_other s i j v 0 n)
]

-- which of the four a byte is, or what it was
chosen : Bool → Bool → Bool → Bool → ℕ → ℕ → ℕ → ℕ
chosen third fourth fifth sixth l g b =
    if sixth then g % 256 else if fifth then g / 256 else if fourth then l % 256 else if third then l / 256 else b

retimed-byte : (s : Bytes) (p l g j : ℕ) → j < length s → byte (retimed s p l g) j ≡ chosen (eqb j (p + 3)) (eqb j (p + 4)) (eqb j (p + 5)) (eqb j (p + 6)) l g (byte s j)
unfolding retimed chosen
retimed-byte s p l g j h =
    let a = set s (p + 3) (l / 256) in
    let b = set a (p + 4) (l % 256) in
    let c = set b (p + 5) (g / 256) in
    let na : length a ≡ length s = length-set s (p + 3) (l / 256) in
    let nb : length b ≡ length a = length-set a (p + 4) (l % 256) in
    let nc : length c ≡ length b = length-set b (p + 5) (g / 256) in
    rw (byte-set c (p + 6) j (g % 256) (omega arith), byte-set b (p + 5) j (g / 256) (omega arith), byte-set a (p + 4) j (l % 256) (omega arith), byte-set s (p + 3) j (l / 256) h)

chosen-twice : (a b c d : Bool) (l g m h x : ℕ) → chosen a b c d m h (chosen a b c d l g x) ≡ chosen a b c d m h x
unfolding chosen
chosen-twice a b c true l g m h x = refl
chosen-twice a b true false l g m h x = refl
chosen-twice a true false false l g m h x = refl
chosen-twice true false false false l g m h x = refl
chosen-twice false false false false l g m h x = refl

-- later times cover earlier ones
pub retimed-twice : (s : Bytes) (p l g m h : ℕ) → retimed (retimed s p l g) p m h ≡ retimed s p m h
retimed-twice s p l g m h =
    let once = retimed s p l g in
    let n : length once ≡ length s = retimed-length s p l g in
    let a : length (retimed once p m h) ≡ length once = retimed-length once p m h in
    let b : length (retimed s p m h) ≡ length s = retimed-length s p m h in
    ext_get_or 0 (retimed once p m h) (retimed s p m h) (omega arith) (λ j k.
    let x = eqb j (p + 3) in let y = eqb j (p + 4) in let z = eqb j (p + 5) in let w = eqb j (p + 6) in
    retimed-byte once p m h j (omega arith) ∙ ap (chosen x y z w m h) (retimed-byte s p l g j (omega arith))
    ∙ chosen-twice x y z w l g m h (byte s j) ∙ sym (retimed-byte s p m h j (omega arith)))

-- no other byte
pub retimed-other : (s : Bytes) (p l g j : ℕ) → (p + 3 ≤ j → p + 7 ≤ j) → byte (retimed s p l g) j ≡ byte s j
unfolding retimed
retimed-other s p l g j f =
    let a = set s (p + 3) (l / 256) in
    let b = set a (p + 4) (l % 256) in
    let c = set b (p + 5) (g / 256) in
    get_or-set_other c (p + 6) j (g % 256) 0 (λ e. let u = f (omega arith) in omega arith) ∙ get_or-set_other b (p + 5) j (g / 256) 0 (λ e. let u = f (omega arith) in omega arith)
    ∙ get_or-set_other a (p + 4) j (l % 256) 0 (λ e. let u = f (omega arith) in omega arith) ∙ get_or-set_other s (p + 3) j (l / 256) 0 (λ e. let u = f (omega arith) in omega arith)

-- the times that are written are shown
module _ (s : Bytes) (p l g : ℕ) (room : p + 7 ≤ length s) where
  third : byte (retimed s p l g) (p + 3) ≡ l / 256
  unfolding chosen
  third = rw (retimed-byte s p l g (p + 3) (omega arith), ne_eqb (p + 3) (p + 6) (λ e. omega arith), ne_eqb (p + 3) (p + 5) (λ e. omega arith), ne_eqb (p + 3) (p + 4) (λ e. omega arith), eq-eqb (p + 3) (p + 3) refl)

  fourth : byte (retimed s p l g) (p + 3 + 1) ≡ l % 256
  unfolding chosen
  fourth = rw (retimed-byte s p l g (p + 3 + 1) (omega arith), ne_eqb (p + 3 + 1) (p + 6) (λ e. omega arith), ne_eqb (p + 3 + 1) (p + 5) (λ e. omega arith), eq-eqb (p + 3 + 1) (p + 4) (omega arith))

  fifth : byte (retimed s p l g) (p + 5) ≡ g / 256
  unfolding chosen
  fifth = rw (retimed-byte s p l g (p + 5) (omega arith), ne_eqb (p + 5) (p + 6) (λ e. omega arith), eq-eqb (p + 5) (p + 5) refl)

  sixth : byte (retimed s p l g) (p + 5 + 1) ≡ g % 256
  unfolding chosen
  sixth = rw (retimed-byte s p l g (p + 5 + 1) (omega arith), eq-eqb (p + 5 + 1) (p + 6) (omega arith))

  pub retimed-least : num16 (retimed s p l g) (p + 3) ≡ l
  retimed-least = let a = third in let b = fourth in omega arith

  pub retimed-greatest : num16 (retimed s p l g) (p + 5) ≡ g
  retimed-greatest = let a = fifth in let b = sixth in omega arith

pub retimed-bytes : (s : Bytes) → AreBytes s → (p l g : ℕ) → l < 65536 → g < 65536 → AreBytes (retimed s p l g)
unfolding retimed
retimed-bytes s o p l g h k =
    each_set _ (p + 6) (g % 256)
    (each_set _ (p + 5) (g / 256) (each_set _ (p + 4) (l % 256) (each_set s (p + 3) (l / 256) o (omega arith)) (omega arith)) (omega arith)) (omega arith)
