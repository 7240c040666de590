-- Texts that are written one behind the other, and what stands in the buffer where they fit.
use mathlib.Core.Path.{◌≡◌, refl, sym, ap, ap₂, ◌∙◌}
use mathlib.Core.List.{List, [], ◌∷◌, ◌++◌, append-nil}
use Prim.Native.Nat.{ℕ, suc, ◌+◌, ◌-◌, ◌≤◌, ◌<◌}
use native.Mathlib.Decide.{dec_lt}
use native.Mathlib.Omega.{arith}
use lib.Dec.{ltb}
use borrow.Author.Tests.{lt-ltb, le-ltb}
use lib.ListN.{length, get_or, set, take, drop, replicate, length-append, length-set, length-drop, length-replicate, replicate-append-replicate}
use lib.Seq.{append_snoc, set-append_seam, take-suc, take_all, drop-length}
use Rattle.rules.specs.Format.{Bytes}
use Rattle.rules.proofs.Base.{if-ind}
use Rattle.writing.specs.Out.{Out, out_of, put, write, Writes}

-- ---- one byte

pub put_in : {A : Type 0} (b : A) (l : List A) (at : ℕ) → at < length l → Writes (b ∷ []) l at (set l at b) (at + 1)
unfolding write put
put_in b l at h = rw (lt-ltb at (length l) h)

pub put_out : {A : Type 0} (b : A) (l : List A) (at : ℕ) → length l ≤ at → Writes (b ∷ []) l at l (length l + 1)
unfolding write put
put_out b l at h = rw (le-ltb at (length l) h)

-- ---- one behind the other

pub write-append : {A : Type 0} (s t : List A) (o : Out A) → write (s ++ t) o ≡ write t (write s o)
unfolding write
write-append [] t o = refl
write-append (b ∷ s) t o = write-append s t (put b o)

-- what a search is given for texts that are written one behind the other
pub ruleset behind_laws = (write-append)

pub then-writes : {A : Type 0} (s t : List A) (l m n : List A) (a b c : ℕ) → Writes s l a m b → Writes t m b n c → Writes (s ++ t) l a n c
then-writes s t l m n a b c e f = f ∙ ap (write t) e ∙ sym (write-append s t (out_of l a))

-- nothing at all
pub none_written : {A : Type 0} (l : List A) (a : ℕ) → Writes [] l a l a
unfolding write
none_written l a = refl

-- the same text, said in another way
pub same_text : {A : Type 0} (s t : List A) (l m : List A) (a b : ℕ) → s ≡ t → Writes s l a m b → Writes t l a m b
same_text {A} s t l m a b e h = h ∙ ap (λ (x : List A). write x (out_of l a)) e

-- a text with one byte behind it, and then another text
pub text-then : (d : Bytes) (b : ℕ) (s : Bytes) (l m n : Bytes) (x y z : ℕ) → Writes (d ++ b ∷ []) l x m y → Writes s m y n z
    → Writes (d ++ b ∷ s) l x n z
text-then d b s l m n x y z e f =
    then-writes (d ++ b ∷ []) s l m n x y z e f ∙ ap (λ (t : Bytes). write t (out_of l x)) (append_snoc d b s)

-- one byte more of a text that is written byte by byte
pub next-writes : (s : Bytes) (i : ℕ) → i < length s → (l m n : Bytes) (x y z : ℕ) → Writes (take i s) l x m y → Writes (get_or s i 0 ∷ []) m y n z
    → Writes (take (i + 1) s) l x n z
next-writes s i h l m n x y z e f =
    let k : suc i ≡ i + 1 = omega arith in
    then-writes (take i s) (get_or s i 0 ∷ []) l m n x y z e f
    ∙ ap (λ (t : Bytes). write t (out_of l x)) (sym (take-suc s i 0 h) ∙ ap (λ (j : ℕ). take j s) k)

-- the whole of it
pub all-written : (s : Bytes) (i : ℕ) → length s ≤ i → (l m : Bytes) (x y : ℕ) → Writes (take i s) l x m y → Writes s l x m y
all-written s i h l m x y e = e ∙ ap (λ (t : Bytes). write t (out_of l x)) (take_all i s h)

-- ---- a text that fits stands in the buffer, and what was before and behind it stays

-- behind p the buffer goes on with l
pub write-fits : {A : Type 0} (s p l : List A) → length s ≤ length l
    → write s (out_of (p ++ l) (length p)) ≡ out_of (p ++ (s ++ drop (length s) l)) (length p + length s)
unfolding write put
write-fits [] p l h = ap (out_of (p ++ l)) (omega arith)
write-fits (b ∷ s) p [] h = absurd (omega arith)
write-fits (b ∷ s) p (x ∷ l) h =
    let room : length p < length (p ++ x ∷ l) = omega (arith, length-append p (x ∷ l)) in
    let next = length-append p (b ∷ []) in
    rw (lt-ltb (length p) (length (p ++ x ∷ l)) room, set-append_seam p x l b)
    (ap (write s) (ap₂ out_of (sym (append_snoc p b l)) (sym next))
    ∙ write-fits s (p ++ b ∷ []) l (omega arith)
    ∙ ap₂ out_of (append_snoc p b (s ++ drop (length s) l)) (omega (arith, next)))

-- at the buffer's front
pub fits-front : {A : Type 0} (s l m : List A) (r : ℕ) → Writes s l 0 m r → length s ≤ length l → (m ≡ s ++ drop (length s) l) × (r ≡ length s)
fits-front {A} s l m r e h =
    let done = e ∙ write-fits s [] l h in
    (ap (λ (o : Out A). o.buffer) done, omega (arith, ap (λ (o : Out A). o.at) done))

-- and the place behind it lies in the buffer
pub fits-inside : {A : Type 0} (s l m : List A) (r : ℕ) → Writes s l 0 m r → length s ≤ length l → r ≤ length m
fits-inside s l m r e h =
    let d = fits-front s l m r e h in
    let g = ap length d.0 ∙ length-append s _ in
    omega (arith, d.1)

-- ---- the buffer stays as long as it is

put-length : {A : Type 0} (b : A) (o : Out A) → length (put b o).buffer ≡ length o.buffer
unfolding put
put-length {A} b o = if-ind (ltb o.at (length o.buffer)) _ _ (λ (x : Out A). length x.buffer ≡ length o.buffer) (λ _. length-set o.buffer o.at b) (λ _. refl)

write-length : {A : Type 0} (s : List A) (o : Out A) → length (write s o).buffer ≡ length o.buffer
unfolding write
write-length [] o = refl
write-length (b ∷ s) o = write-length s (put b o) ∙ put-length b o

pub writes-length : {A : Type 0} (s l m : List A) (a r : ℕ) → Writes s l a m r → length m ≡ length l
writes-length {A} s l m a r e = ap (λ (o : Out A). length o.buffer) e ∙ write-length s (out_of l a)

-- ---- the place behind a text that fits

ends_at : {A : Type 0} (s l : List A) (at : ℕ) → at + length s ≤ length l → (write s (out_of l at)).at ≡ at + length s
unfolding write
ends_at [] l at h = omega arith
ends_at {A} (b ∷ s) l at h =
    let e = length-set l at b in
    ap (λ (o : Out A). (write s o).at) (sym (put_in b l at (omega arith))) ∙ ends_at s (set l at b) (at + 1) (omega arith) ∙ omega arith

pub writes_end : {A : Type 0} (s l m : List A) (a r : ℕ) → Writes s l a m r → a + length s ≤ length l → r ≡ a + length s
writes_end {A} s l m a r e h = ap (λ (o : Out A). o.at) e ∙ ends_at s l a h

-- ---- a text that does not fit: the place is one past the buffer's end, and stays there

stays_out : {A : Type 0} (s l : List A) → write s (out_of l (length l + 1)) ≡ out_of l (length l + 1)
unfolding write put
stays_out [] l = refl
stays_out (b ∷ s) l = rw (le-ltb (length l + 1) (length l) (omega arith)) (stays_out s l)

goes-out : {A : Type 0} (s l : List A) (at : ℕ) → at ≤ length l → length l < at + length s → (write s (out_of l at)).at ≡ length l + 1
unfolding write
goes-out [] l at h k = absurd (omega arith)
goes-out {A} (b ∷ s) l at h k = elim (dec_lt at (length l)) [
  | yes i ↦
      let e = length-set l at b in
      ap (λ (o : Out A). (write s o).at) (sym (put_in b l at i)) ∙ goes-out s (set l at b) (at + 1) (omega arith) (omega arith) ∙ ap (λ (n : ℕ). n + 1) e
  | no i ↦ ap (λ (o : Out A). (write s o).at) (sym (put_out b l at (omega arith))) ∙ ap (λ (o : Out A). o.at) (stays_out s l)
]

pub writes-past : {A : Type 0} (s l m : List A) (r : ℕ) → Writes s l 0 m r → length l < length s → r ≡ length l + 1
writes-past {A} s l m r e h = ap (λ (o : Out A). o.at) e ∙ goes-out s l 0 (omega arith) (omega arith)

-- ---- one value again and again, up to the buffer's end

module _ {A : Type 0} (v : A) (l : List A) (from : ℕ) where
  pub repeat-none : Writes (replicate (from - from) v) l from l from
  unfolding write
  repeat-none = let e : from - from ≡ 0 = omega arith in sym (ap (λ (k : ℕ). write (replicate k v) (out_of l from)) e)

  pub repeat-next : (m : List A) (at : ℕ) → from ≤ at → at < length m → Writes (replicate (at - from) v) l from m at → Writes (replicate (at + 1 - from) v) l from (set m at v) (at + 1)
  repeat-next m at h k e =
      let n : at - from + 1 ≡ at + 1 - from = omega arith in
      then-writes (replicate (at - from) v) (v ∷ []) l m (set m at v) from at (at + 1) e (put_in v m at k)
      ∙ ap (λ (s : List A). write s (out_of l from)) (replicate-append-replicate (at - from) 1 v ∙ ap (λ (j : ℕ). replicate j v) n)

  pub repeat-all : (m : List A) (at : ℕ) → length l ≤ at → at - from ≤ length l - from → Writes (replicate (at - from) v) l from m at → Writes (replicate (length l - from) v) l from m at
  repeat-all m at h k e = let n : at - from ≡ length l - from = omega arith in e ∙ ap (λ (j : ℕ). write (replicate j v) (out_of l from)) n

-- ---- a whole buffer

pub all-overwritten : {A : Type 0} (s l m : List A) (r : ℕ) → Writes s l 0 m r → length l ≡ length s → m ≡ s
all-overwritten {A} s l m r e h =
    (fits-front s l m r e (omega arith)).0 ∙ ap (λ (x : List A). s ++ x) (ap (λ (j : ℕ). drop j l) (sym h) ∙ drop-length l) ∙ append-nil s

pub all-repeated : {A : Type 0} (v : A) (l m : List A) (r : ℕ) → Writes (replicate (length l - 0) v) l 0 m r → m ≡ replicate (length l) v
all-repeated v l m r e =
    let n : length l - 0 ≡ length l = omega arith in
    all-overwritten (replicate (length l) v) l m r (e ∙ ap (λ (j : ℕ). write (replicate j v) (out_of l 0)) n) (sym (length-replicate (length l) v))

-- a text that fits, and the rest of the buffer
pub filled-up : {A : Type 0} (v : A) (s l m n : List A) (r q : ℕ) → Writes s l 0 m r → Writes (replicate (length m - r) v) m r n q → length s ≤ length l → n ≡ s ++ replicate (length l - length s) v
filled-up v s l m n r q e f h =
    let d = fits-front s l m r e h in
    let g = ap length d.0 ∙ length-append s (drop (length s) l) in
    let k : length m - r ≡ length l - length s = omega (arith, length-drop (length s) l, d.1) in
    let rest = replicate (length l - length s) v in
    let t = length-append s rest in
    let u = length-replicate (length l - length s) v in
    let i : length l ≡ length (s ++ rest) = omega arith in
    all-overwritten (s ++ rest) l n q (then-writes s rest l m n 0 r q e (f ∙ ap (λ (j : ℕ). write (replicate j v) (out_of m r)) k)) i
