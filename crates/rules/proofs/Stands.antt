-- Bytes that stand in a sheet from a place up to another: what a writer's bytes and a reader's places have to do with
-- each other. Numbers and fields that stand so are what the format's numbers and headers say.
use mathlib.Core.Path.{◌≡◌, refl, sym, ap, subst, ◌∙◌}
use mathlib.Core.List.{[], ◌∷◌, ◌++◌}
use Prim.Native.Nat.{ℕ, zero, suc, ◌+◌, ◌-◌, ◌/◌, ◌%◌, ◌≤◌, ◌<◌}
use native.Mathlib.Decide.{dec_lt}
use native.Mathlib.Omega.{arith}
use lib.ListN.{length, length-append, get_or-append}
use lib.Seq.{get_or-append-add, ext_get_or}
use Rattle.rules.specs.Format.{Bytes, AreBytes, byte, num16, num32}
use Rattle.rules.specs.Encoding.{two, four, field}
use Rattle.rules.proofs.FieldAt.{Field, below}

-- bs stand in s from p up to q
pub record Stands (bs s : Bytes) (p q : ℕ) : Type 0 where
  pub ends : p + length bs ≡ q
  pub inside : q ≤ length s
  pub same : (i j : ℕ) → i < length bs → p + i ≡ j → byte s j ≡ byte bs i

-- one that stands in the sheet from p up to q, is good and knows its place
pub record OneAt {A : Type 0} (write : A → Bytes) (put : ℕ → A → A) (Good : A → Type 0) (s : Bytes) (p : ℕ) (x : A) (q : ℕ) : Type 0 where
  pub bytes : Stands (write x) s p q
  pub good : Good x
  pub here : put p x ≡ x

-- ---- one behind the other

behind-is : (xs ys : Bytes) (i : ℕ) → length xs ≤ i → byte (xs ++ ys) i ≡ byte ys (i - length xs)
behind-is xs ys i h = let e : i ≡ length xs + (i - length xs) = omega arith in ap (byte (xs ++ ys)) e ∙ get_or-append-add xs ys (i - length xs) 0

module _ {s : Bytes} where
  pub stands-nil : {p : ℕ} → p ≤ length s → Stands [] s p p
  stands-nil h = record { ends = omega arith; inside = h; same = λ i j k e. absurd (omega arith) }

  pub stands_one : {p b : ℕ} → p < length s → byte s p ≡ b → Stands (b ∷ []) s p (p + 1)
  stands_one {p} {b} h e = record { ends = refl; inside = omega arith; same = λ i j k f. by i j k f }
    where
      by : (i j : ℕ) → i < 1 → p + i ≡ j → byte s j ≡ byte (b ∷ []) i
      by zero j k f = let g : j ≡ p = omega arith in ap (byte s) g ∙ e
      by (suc i) j k f = absurd (omega arith)

  pub stands-append : {xs ys : Bytes} {p q r : ℕ} → Stands xs s p q → Stands ys s q r → Stands (xs ++ ys) s p r
  stands-append {xs} {ys} {p} {q} {r} a b = record {
    ends = let n = length-append xs ys in let e = a.ends in let f = b.ends in omega arith;
    inside = b.inside;
    same = λ i j k f. elim (dec_lt i (length xs)) [ yes h ↦ a.same i j h f ∙ sym (get_or-append xs ys 0 i h) | no h ↦ behind i j k f h ];
  }
    where
      behind : (i j : ℕ) → i < length (xs ++ ys) → p + i ≡ j → (i < length xs → ⊥) → byte s j ≡ byte (xs ++ ys) i
      behind i j k f h =
          let n = length-append xs ys in let e = a.ends in
          let m : length xs ≤ i = omega arith in
          b.same (i - length xs) j (omega arith) (omega arith) ∙ sym (behind-is xs ys i m)

  pub stands-cons : {b : ℕ} {bs : Bytes} {p q : ℕ} → byte s p ≡ b → Stands bs s (p + 1) q → Stands (b ∷ bs) s p q
  stands-cons {b} {bs} {p} {q} e h = let a = h.ends in let i = h.inside in stands-append (stands_one {p = p} {b = b} (omega arith) e) h

  pub stands-left : (xs ys : Bytes) {p r : ℕ} → Stands (xs ++ ys) s p r → Stands xs s p (p + length xs)
  stands-left xs ys {p} {r} h =
      let n = length-append xs ys in let e = h.ends in let m = h.inside in record {
        ends = refl;
        inside = omega arith;
        same = λ i j k f. h.same i j (omega arith) f ∙ get_or-append xs ys 0 i k;
      }

  pub stands-right : (xs ys : Bytes) {p r : ℕ} → Stands (xs ++ ys) s p r → Stands ys s (p + length xs) r
  stands-right xs ys {p} {r} h =
      let n = length-append xs ys in let e = h.ends in record {
        ends = omega arith;
        inside = h.inside;
        same = λ i j k f.
            h.same (length xs + i) j (omega arith) (omega arith) ∙ get_or-append-add xs ys i 0;
      }

-- a sheet stands in itself, and what fills it is the sheet
pub stands-whole : (s : Bytes) → Stands s s 0 (length s)
stands-whole s = record { ends = omega arith; inside = omega arith; same = λ i j k e. let f : j ≡ i = omega arith in ap (byte s) f }

pub stands-all : (bs s : Bytes) → Stands bs s 0 (length s) → bs ≡ s
stands-all bs s h = let e = h.ends in ext_get_or 0 bs s (omega arith) (λ i k. sym (h.same i i k (omega arith)))

-- ---- numbers, high byte first

module _ {s : Bytes} where
  pub two_is : (n : ℕ) {p q : ℕ} → Stands (two n) s p q → num16 s p ≡ n
  two_is n {p} h =
      let a = h.same 0 p (omega arith) (omega arith) in
      let b = h.same 1 (p + 1) (omega arith) (omega arith) in omega arith

  pub four_is : (n : ℕ) {p q : ℕ} → Stands (four n) s p q → num32 s p ≡ n
  unfolding num32
  four_is n {p} h =
      let a = two_is (n / 65536) (stands-left (two (n / 65536)) (two (n % 65536)) h) in
      let b = two_is (n % 65536) (stands-right (two (n / 65536)) (two (n % 65536)) h) in omega arith

module _ {s : Bytes} (o : AreBytes s) where
  pub stands-two : {p n : ℕ} → p + 2 ≤ length s → num16 s p ≡ n → Stands (two n) s p (p + 2)
  stands-two {p} {n} h e =
      let a = below s o p in let b = below s o (p + 1) in
      let f = stands_one {s = s} {p = p} {b = n / 256} (omega arith) (omega arith) in
      let g = stands_one {s = s} {p = p + 1} {b = n % 256} (omega arith) (omega arith) in
      subst (Stands (two n) s p) (omega arith) (stands-append f g)

  pub num16-small : (p : ℕ) → num16 s p < 65536
  num16-small p = let a = below s o p in let b = below s o (p + 1) in omega arith

  pub num32-small : (p : ℕ) → num32 s p < 4294967296
  unfolding num32
  num32-small p = let a = num16-small p in let b = num16-small (p + 2) in omega arith

  pub stands-four : {p n : ℕ} → p + 4 ≤ length s → num32 s p ≡ n → Stands (four n) s p (p + 4)
  unfolding num32
  stands-four {p} {n} h e =
      let a = num16-small p in let b = num16-small (p + 2) in
      let f = stands-two {p = p} {n = n / 65536} (omega arith) (omega arith) in
      let g = stands-two {p = p + 2} {n = n % 65536} (omega arith) (omega arith) in
      subst (Stands (four n) s p) (omega arith) (stands-append f g)

-- ---- fields

module _ {s : Bytes} (tag : ℕ) (body : Bytes) {p q : ℕ} (h : Stands (field tag body) s p q) where
  pub field-tag : byte s p ≡ tag
  field-tag = h.same 0 p (omega arith) (omega arith)

  pub field-body : Stands body s (p + 3) q
  field-body = subst (λ (j : ℕ). Stands body s j q) (omega arith) (stands-right (tag ∷ two (length body)) body h)

  pub field-length : num16 s (p + 1) ≡ length body
  field-length = two_is (length body) (stands-left (two (length body)) body (stands-right (tag ∷ []) (two (length body) ++ body) h))

  pub written-field : Field tag (length body) s p
  written-field = let b = field-body in let e = b.ends in let i = b.inside in record { tag_is = field-tag; size_is = field-length; fits = omega arith }

pub stands-field : {s : Bytes} (o : AreBytes s) (tag : ℕ) (body : Bytes) {p q : ℕ} → Field tag (length body) s p → Stands body s (p + 3) q → Stands (field tag body) s p q
stands-field {s} o tag body {p} {q} f b =
    let l = f.fits in
    let len = stands-two {s = s} o {p = p + 1} {n = length body} (omega arith) f.size_is in
    let first = stands_one {s = s} {p = p} {b = tag} (omega arith) f.tag_is in
    stands-append first (stands-append len (subst (λ (j : ℕ). Stands body s j q) (omega arith) b))
