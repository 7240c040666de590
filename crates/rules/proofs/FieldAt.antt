-- A whole field of a tag and a length at a place: what is read there says that one stands there, and where one stands it is read. The same of
-- its bytes: where a field is written one stands, and where one stands a file of bytes has that header.
use mathlib.Core.Path.{◌≡◌, refl, sym, ap, ◌∙◌}
use mathlib.Core.Bool.{Bool}
use mathlib.Core.List.{[], ◌∷◌, ◌++◌}
use Prim.Native.Nat.{ℕ, suc, ◌+◌, ◌/◌, ◌%◌, ◌≤◌, ◌<◌}
use native.Mathlib.Omega.{arith}
use lib.Dec.{T, leb, eqb, leb→le, eqb→eq, le→leb}
use lib.ListN.{length, get_or, drop, length-drop, length-append}
use lib.Seq.{drop-cons, get_or-drop, drop-drop, drop_at}
use Rattle.rules.specs.Refusal.{short, out_of_turn, bad_length, off_range}
use Rattle.rules.specs.Format.{Bytes, AreBytes, Got, got, byte, num16, has_head, has_body, due, sized}
use Rattle.rules.specs.Encoding.{two, field}
use Rattle.rules.specs.Base.{nil, ◌&◌}
use Rattle.rules.proofs.Base.{each_at}
use Rattle.rules.proofs.IfAt.{IfAt, need-at, need-yes, eq→eqb}

pub record Field (tag n : ℕ) (s : Bytes) (at : ℕ) : Type 0 where
  pub tag_is : byte s at ≡ tag
  pub size_is : num16 s (at + 1) ≡ n
  pub fits : at + 3 + n ≤ length s

-- ---- as it is read

pub due-field : {A : Type 0} (P : A → ℕ → Type 0) (tag : ℕ) (s : Bytes) (at : ℕ) (g : Got A) → (byte s at ≡ tag → IfAt P g) → IfAt P (due tag s at g)
unfolding due
due-field P tag s at g h = need-at P (has_head s at) short at _ (λ _. need-at P (eqb (byte s at) tag) out_of_turn at g (λ t. h (eqb→eq (byte s at) tag t)))

pub sized-field : {A : Type 0} (P : A → ℕ → Type 0) (tag n : ℕ) (s : Bytes) (at : ℕ) (ok : Bool) (a : A) → byte s at ≡ tag
    → (Field tag n s at → T ok → P a (at + 3 + n)) → IfAt P (sized s at n ok a)
unfolding sized has_body
sized-field P tag n s at ok a t h =
    let m = num16 s (at + 1) in
    need-at P (leb (at + 3 + m) (length s)) short at _ (λ b. need-at P (eqb m n) bad_length at _ (λ c. need-at P ok off_range at _ (λ o.
    let e = eqb→eq m n c in
    let l = leb→le (at + 3 + m) (length s) b in
    h (record { tag_is = t; size_is = e; fits = omega arith }) o)))

pub field-at : {A : Type 0} (P : A → ℕ → Type 0) (tag n : ℕ) (s : Bytes) (at : ℕ) (ok : Bool) (a : A) → (Field tag n s at → T ok → P a (at + 3 + n))
    → IfAt P (due tag s at (sized s at n ok a))
field-at P tag n s at ok a h = due-field P tag s at (sized s at n ok a) (λ t. sized-field P tag n s at ok a t h)

module _ {tag n : ℕ} {s : Bytes} {at : ℕ} (h : Field tag n s at) where
  pub due-reads : {A : Type 0} (g : Got A) → due tag s at g ≡ g
  unfolding due has_head
  due-reads g =
      let l = h.fits in
      need-yes (leb (at + 3) (length s)) short at _ (le→leb (at + 3) (length s) (omega arith))
      ∙ need-yes (eqb (byte s at) tag) out_of_turn at g (eq→eqb (byte s at) tag h.tag_is)

  pub sized_reads : {A : Type 0} (ok : Bool) (a : A) → T ok → sized s at n ok a ≡ got a (at + 3 + n)
  unfolding sized has_body
  sized_reads ok a t =
      let l = h.fits in let m = h.size_is in
      need-yes (leb (at + 3 + num16 s (at + 1)) (length s)) short at _ (le→leb (at + 3 + num16 s (at + 1)) (length s) (omega arith))
      ∙ need-yes (eqb (num16 s (at + 1)) n) bad_length at _ (eq→eqb (num16 s (at + 1)) n m)
      ∙ need-yes ok off_range at _ t

pub field-reads : {A : Type 0} (tag n : ℕ) (s : Bytes) (at : ℕ) (ok : Bool) (a : A) → Field tag n s at → T ok → due tag s at (sized s at n ok a) ≡ got a (at + 3 + n)
field-reads tag n s at ok a h t = due-reads h (sized s at n ok a) ∙ sized_reads h ok a t

-- ---- as it is written

-- a byte of those that stand from a place on
pub byte-from : (s : Bytes) (at : ℕ) (bs : Bytes) → drop at s ≡ bs → (i p : ℕ) → p ≡ at + i → byte s p ≡ get_or bs i 0
byte-from s at bs e i p h = ap (byte s) h ∙ sym (get_or-drop at s i 0) ∙ ap (λ (l : Bytes). get_or l i 0) e

module _ (s : Bytes) (at tag : ℕ) (body rest : Bytes) (e : drop at s ≡ field tag body ++ rest) where
  pub field-there : Field tag (length body) s at
  field-there =
      let is = byte-from s at (field tag body ++ rest) e in
      let a : byte s (at + 1) ≡ length body / 256 = is 1 (at + 1) refl in
      let b : byte s (at + 1 + 1) ≡ length body % 256 = is 2 (at + 1 + 1) (omega arith) in
      record { tag_is = is 0 at (omega arith); size_is = omega arith; fits = omega (arith, length-drop at s, ap length e, length-append body rest) }

  pub behind-field : drop (at + 3 + length body) s ≡ rest
  behind-field =
      let n = 3 + length body in
      let h : at + 3 + length body ≡ at + n = omega arith in
      let l : length (field tag body) ≡ n = omega arith in
      ap (λ (k : ℕ). drop k s) h ∙ sym (drop-drop n at s) ∙ ap (drop n) e ∙ drop_at (field tag body) rest n l

-- what is below 256 at every place, as what is read of a slice of bytes is
pub all-below : (s : Bytes) → ((p : ℕ) → byte s p < 256) → AreBytes s
all-below [] f = nil
all-below (b ∷ s) f = f 0 & all-below s (λ p. f (suc p))

-- ---- the bytes from a place on, by the first of them

pub one_at : (s : Bytes) (p q : ℕ) → q ≡ p + 1 → p < length s → drop p s ≡ byte s p ∷ drop q s
one_at s p q e h = let n : suc p ≡ q = omega arith in drop-cons s p 0 h ∙ ap (λ (k : ℕ). byte s p ∷ drop k s) n

module _ (s : Bytes) (bytes : AreBytes s) where
  pub below : (p : ℕ) → byte s p < 256
  below p = each_at s 0 (omega arith) bytes p

  pub two_at : (p q : ℕ) → q ≡ p + 2 → q ≤ length s → drop p s ≡ two (num16 s p) ++ drop q s
  two_at p q e h =
      let l = below (p + 1) in
      let a : byte s p ≡ num16 s p / 256 = omega arith in
      let b : byte s (p + 1) ≡ num16 s p % 256 = omega arith in
      one_at s p (p + 1) refl (omega arith) ∙ ap (λ (m : Bytes). byte s p ∷ m) (one_at s (p + 1) q (omega arith) (omega arith)) ∙ (λ i. a i ∷ b i ∷ drop q s)

  pub head_at : (tag n at : ℕ) → Field tag n s at → drop at s ≡ tag ∷ two n ++ drop (at + 3) s
  head_at tag n at f =
      let l = f.fits in
      one_at s at (at + 1) refl (omega arith) ∙ (λ i. f.tag_is i ∷ two_at (at + 1) (at + 3) (omega arith) (omega arith) i)
      ∙ ap (λ (k : ℕ). tag ∷ two k ++ drop (at + 3) s) f.size_is
