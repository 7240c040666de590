-- What is written.
use mathlib.Core.Path.{◌≡◌, refl, sym, ap, ◌∙◌}
use mathlib.Core.Bool.{Bool, true, false}
use mathlib.Core.List.{List, [], ◌∷◌, ◌++◌, reverse, append_assoc}
use Prim.Native.Nat.{ℕ, suc, ◌+◌, ◌-◌, ◌≤◌, ◌<◌, min}
use native.Mathlib.Omega.{arith}
use native.Mathlib.Numerals.{add-one}
use borrow.Author.Tests.{lt-ltb, le-ltb}
use lib.Dec.{ltb}
use lib.ListN.{length, take, drop, get_or, set, take-append-drop}
use lib.Seq.{sets, drop-cons, drop-drop, drop_at, length-take-le}
use Rattle.std.specs.Prelude.{if◌then◌else◌}
use Rattle.std.specs.List.{copy_within}
use Rattle.std.proofs.lemmas.List.{take-append-le, take-take, take_more_set, reverse-append, length-reverse}
use borrow.Rule.Slice.PartMut.{put_mid}
use Rattle.scan.specs.Writing.{inserted}
use Rattle.scan.specs.Waiting.{Keeps}

-- ---- codes before what is written

-- where there is room for them
pub inserted-room : (m : List ℕ) (at e : ℕ) (bs : List ℕ) → e + length bs ≤ length m
    → inserted m at e bs ≡ take at m ++ (bs ++ (take (e - at) (drop at m) ++ drop (e + length bs) m))
inserted-room m at e bs h = let t = le-ltb (length m) (e + length bs) h in rw t

-- there is none, or nothing to put: nothing moves
pub inserted_none : (m : List ℕ) (at e : ℕ) (bs : List ℕ) → at ≤ e → length bs ≡ 0 → inserted m at e bs ≡ m
inserted_none m at e (b ∷ bs) h z = absurd (omega arith)
inserted_none m at e [] h z = by (ltb (length m) (e + 0))
  where
    all : take at m ++ (take (e - at) (drop at m) ++ drop (e + 0) m) ≡ m
    all =
        let j : at + (e - at) ≡ e + 0 = omega arith in
        sym (sym (take-append-drop at m)
        ∙ ap (λ r. take at m ++ r) (sym (take-append-drop (e - at) (drop at m)) ∙ ap (λ r. take (e - at) (drop at m) ++ r) (drop-drop (e - at) at m ∙ ap (λ k. drop k m) j)))

    by : (t : Bool) → (if t then m else take at m ++ (take (e - at) (drop at m) ++ drop (e + 0) m)) ≡ m
    by true = refl
    by false = all

pub inserted_full : (m : List ℕ) (at e : ℕ) (bs : List ℕ) → length m < e + length bs → inserted m at e bs ≡ m
inserted_full m at e bs h = let t = lt-ltb (length m) (e + length bs) h in rw t

-- what stands from at to e is moved on, and bs put where it stood
pub inserted_moved : (m : List ℕ) (at e k : ℕ) (bs : List ℕ) {mid : List ℕ} → at ≤ e → e + length bs ≤ length m → k ≡ length bs
    → mid ≡ copy_within m at e (at + length bs) → put_mid at k mid bs ≡ inserted m at e bs
inserted_moved m at e k bs {mid} h r l x =
    let P = take (at + length bs) m in
    let B = take (e - at) (drop at m) ++ drop (at + length bs + (e - at)) m in
    let y : mid ≡ P ++ B = x ∙ append_assoc P (take (e - at) (drop at m)) (drop (at + length bs + (e - at)) m) in
    let lp : length P ≡ at + length bs = length-take-le (at + length bs) m (omega arith) in
    let z : at + length bs + (e - at) ≡ e + length bs = omega arith in
    let a : take at mid ≡ take at m =
    ap (take at) y ∙ take-append-le at P B (omega arith) ∙ take-take at (at + length bs) m (omega arith) in
    let b : drop k (drop at mid) ≡ B = drop-drop k at mid ∙ ap (drop (at + k)) y ∙ drop_at P B (at + k) (omega arith) in
    rw (a, b, z) (sym (inserted-room m at e bs r))

-- a code that is kept behind k others is the first of them, the last first
pub reverse_more : (codes : List ℕ) (k c : ℕ) → k < length codes → reverse (take (k + 1) (set codes k c)) ≡ c ∷ reverse (take k codes)
reverse_more codes k c h = ap reverse (take_more_set codes k c h) ∙ reverse-append (take k codes) (c ∷ [])

long : (codes : List ℕ) (n : ℕ) → n ≤ length codes → length (reverse (take n codes)) ≡ n
long codes n h = length-reverse (take n codes) ∙ length-take-le n codes h

module _ (room : ℕ) (codes : List ℕ) (n c : ℕ) {m : List ℕ} {at e : ℕ} (l : length codes ≡ room) where
  -- there is room for it beside the others
  pub keeps-beside : n < room → Keeps room m at e (reverse (take n codes)) c m e (reverse (take (n + 1) (set codes n c)))
  keeps-beside h =
      let k = long codes n (omega arith) in
      let t = lt-ltb (length (reverse (take n codes))) room (omega arith) in
      record { bytes_are = rw t; end_is = rw t; codes_are = rw t (reverse_more codes n c (omega arith)) }

  -- there is none: it waits alone
  pub keeps-alone : 0 < room → n ≡ room → {after : List ℕ} {end : ℕ} → after ≡ inserted m at e (reverse (take n codes)) → end ≡ min (e + length (reverse (take n codes))) 65536
      → Keeps room m at e (reverse (take n codes)) c after end (reverse (take (0 + 1) (set codes 0 c)))
  keeps-alone z h i j =
      let k = long codes n (omega arith) in
      let t = le-ltb (length (reverse (take n codes))) room (omega arith) in
      record { bytes_are = i ∙ rw t; end_is = j ∙ rw t; codes_are = rw t (reverse_more codes 0 c (omega arith)) }

-- ---- bytes one behind the other

pub puts_on : (out bytes : List ℕ) (at k : ℕ) → k < length bytes
    → sets out (at + k) (drop k bytes) ≡ sets (set out (at + k) (get_or bytes k 0)) (at + (k + 1)) (drop (k + 1) bytes)
puts_on out bytes at k h =
    let e : at + (k + 1) ≡ suc (at + k) = omega arith in
    let d : drop k bytes ≡ get_or bytes k 0 ∷ drop (k + 1) bytes = rw (add-one, drop-cons bytes k 0 h) in
    rw (e, d)

pub sets-append : (o : List ℕ) (at : ℕ) (x y : List ℕ) → sets (sets o at x) (at + length x) y ≡ sets o at (x ++ y)
sets-append o at [] y = ap (λ k. sets o k y) (native.Mathlib.Nat.add-zero at)
sets-append o at (b ∷ x) y = let e : at + suc (length x) ≡ suc at + length x = omega arith in rw e (sets-append (set o at b) (suc at) x y)
