-- Parts of the mended sheet, written one behind another.
use mathlib.Core.Path.{◌≡◌, refl, sym, ap, ◌∙◌, subst}
use Rattle.std.specs.Prelude.{Option, Some, None}
use mathlib.Core.Bool.{Bool, true, false, ◌&&◌}
use Rattle.std.proofs.Math.Option as O
use mathlib.Core.List.{List, [], ◌∷◌}
use Prim.Native.Nat.{ℕ, zero, suc, ◌+◌, ◌-◌, ◌≤◌}
use native.Mathlib.Omega.{arith}
use lib.ListN.{length, take, drop, length-drop}
use lib.Seq.{slice, take_all, take-nil}
use Rattle.rules.specs.Format.{Bytes, byte, has_head, has_body}
use Rattle.rules.specs.Sheets.{halt}
use Rattle.writing.specs.Out.{write, Writes}
use Rattle.writing.proofs.Written.{then-writes}
use Rattle.mended.specs.Mend.{Mended, copied, ◌then◌, is_field, behind, reversed, low_end, end_size, exchange, mended_field, open_after, closes_at, added, mend_from, mended, numbers_of}
use Rattle.mended.proofs.Walk.{field-inside, ends-fit, then-assoc, numbers-append, mend-field, mend-end}
use Rattle.mend.specs.declared.writer.Ends.{Ends}
use Rattle.mend.specs.Shape.{last_of, added_to, no_ends, Puts}
use Rattle.rules.proofs.IfAt.{is_true}

-- ---- a part as it is lent

module _ {A : Type 0} where
  -- so many from a place on
  abbrev lent : ℕ → ℕ → List A → List A
  lent p q l = take (q - p) (drop p l)

  lent_slice : (p q : ℕ) (l : List A) → lent p q l ≡ slice p q l
  lent_slice zero q l = let e : q - 0 ≡ q = omega arith in ap (λ (n : ℕ). take n l) e
  lent_slice (suc p) zero l = let e : 0 - suc p ≡ 0 = omega arith in ap (λ (n : ℕ). take n (drop (suc p) l)) e
  lent_slice (suc p) (suc q) [] = take-nil (suc q - suc p)
  lent_slice (suc p) (suc q) (x ∷ l) = let e : suc q - suc p ≡ q - p = omega arith in ap (λ (n : ℕ). take n (drop p l)) e ∙ lent_slice p q l

  lent-rest : (p : ℕ) (l : List A) → lent p (length l) l ≡ drop p l
  lent-rest p l = take_all (length l - p) (drop p l) (omega (arith, length-drop p l))

-- ---- one behind another

module _ {out : Bytes} {list : List ℕ} {ends : Ends} where
  pub puts-nothing : Puts (copied []) out list ends out list ends
  unfolding write numbers_of
  puts-nothing = record { bytes_put = refl; changes_put = refl }

  puts-copied : {s out' : Bytes} {e : ℕ} → Writes s out ends.bytes out' e → Puts (copied s) out list ends out' list (record { bytes = e; numbers = ends.numbers })
  unfolding write numbers_of
  puts-copied w = record { bytes_put = w; changes_put = refl }

-- the rest of a sheet
pub rest_put : (s : Bytes) (at : ℕ) (o : Bytes) (l : List ℕ) (e : Ends) {o' : Bytes} {x : ℕ} → Writes (lent at (length s) s) o e.bytes o' x
    → Puts (copied (drop at s)) o l e o' l (record { bytes = x; numbers = e.numbers })
rest_put s at o l e {o'} {x} f = puts-copied (subst (λ (y : Bytes). Writes y o e.bytes o' x) (lent-rest at s) f)

pub puts_then : (a b : Mended) {o o₁ o₂ : Bytes} {l l₁ l₂ : List ℕ} {e e₁ e₂ : Ends} → Puts a o l e o₁ l₁ e₁ → Puts b o₁ l₁ e₁ o₂ l₂ e₂ → Puts (a then b) o l e o₂ l₂ e₂
puts_then a b {l = l} {l₂ = l₂} {e = e} {e₂ = e₂} p q = record {
  bytes_put = then-writes a.bytes b.bytes _ _ _ _ _ _ p.bytes_put q.bytes_put;
  changes_put = subst (λ (x : List ℕ). Writes x l e.numbers l₂ e₂.numbers) (sym (numbers-append a.changes b.changes))
      (then-writes (numbers_of a.changes) (numbers_of b.changes) _ _ _ _ _ _ p.changes_put q.changes_put);
}

-- ---- a field

-- what is lent of a sheet, written, is that part
part-put : (s : Bytes) (p q : ℕ) (o : Bytes) (e : ℕ) {o₁ : Bytes} {e₁ : ℕ} → Writes (lent p q s) o e o₁ e₁ → Writes (slice p q s) o e o₁ e₁
part-put s p q o e {o₁} {e₁} f = subst (λ (x : Bytes). Writes x o e o₁ e₁) (lent_slice p q s) f

pub exchange-put : (s : Bytes) (p q a w : ℕ) (o : Bytes) (e : ℕ) {o₁ o₂ o₃ o₄ : Bytes} {e₁ e₂ e₃ e₄ : ℕ} → Writes (lent p a s) o e o₁ e₁ → Writes (lent (a + w) (a + w + w) s) o₁ e₁ o₂ e₂
    → Writes (lent a (a + w) s) o₂ e₂ o₃ e₃ → Writes (lent (a + w + w) q s) o₃ e₃ o₄ e₄ → Writes (exchange s p q a w) o e o₄ e₄
unfolding exchange
exchange-put s p q a w o e f g h k =
    then-writes (slice p a s) _ _ _ _ _ _ _ (part-put s p a o e f) (then-writes (slice (a + w) (a + w + w) s) _ _ _ _ _ _ _ (part-put s (a + w) (a + w + w) _ _ g)
    (then-writes (slice a (a + w) s) _ _ _ _ _ _ _ (part-put s a (a + w) _ _ h) (part-put s (a + w + w) q _ _ k)))

module _ (s : Bytes) (at : ℕ) {b : Bool} (is : b ≡ reversed s at) where
  pub ends-room : {low size : ℕ} → b ≡ true → low ≡ low_end (byte s at) → size ≡ end_size (byte s at) → at + low + size + size ≤ behind s at
  ends-room t k w = rw (k, w) (ends-fit s at (is_true (reversed s at) (sym is ∙ t)))

  pub field-exchanged : (o : Bytes) (l : List ℕ) (e : Ends) {o' : Bytes} {l' : List ℕ} {x y end low size : ℕ} → b ≡ true → end ≡ behind s at → low ≡ low_end (byte s at) → size ≡ end_size (byte s at)
      → Writes (exchange s at end (at + low) size) o e.bytes o' x → Writes (1 ∷ at ∷ []) l e.numbers l' y
      → Puts (mended_field s at) o l e o' l' (record { bytes = x; numbers = y })
  unfolding mended_field numbers_of
  field-exchanged o l e t q k w f g = rw (sym is ∙ t) (record { bytes_put = rw (sym q, sym k, sym w) f; changes_put = g })

  pub field-copied : (o : Bytes) (l : List ℕ) (e : Ends) {o' : Bytes} {x end : ℕ} → b ≡ false → end ≡ behind s at → Writes (lent at end s) o e.bytes o' x
      → Puts (mended_field s at) o l e o' l (record { bytes = x; numbers = e.numbers })
  unfolding mended_field
  field-copied o l e {o'} {x} t q f =
      rw (sym is ∙ t) (puts-copied (part-put s at (behind s at) o e.bytes (subst (λ (k : ℕ). Writes (lent at k s) o e.bytes o' x) q f)))

-- ---- a halt

module _ (l : List ℕ) (o : Bytes) (e : Ends) where
  pub none-put : (c : Bool) (last : Option ℕ) → None ≡ added_to c last → Puts (added c (last_of last)) o l e o l e
  unfolding added
  none-put true None t = puts-nothing
  none-put true (Some p) t = absurd (cc)
  none-put false last t = puts-nothing

  pub halt-put : (c : Bool) (last : Option ℕ) {place : ℕ} → Some place ≡ added_to c last → {o' : Bytes} {l' : List ℕ} {x y : ℕ} → Writes halt o e.bytes o' x
      → Writes (2 ∷ place ∷ []) l e.numbers l' y → Puts (added c (last_of last)) o l e o' l' (record { bytes = x; numbers = y })
  unfolding added numbers_of
  halt-put true None t f g = absurd (cc)
  halt-put true (Some p) {place} t {l' = l'} {y = y} f g =
      let i : place ≡ p = cc in record { bytes_put = f; changes_put = subst (λ (k : ℕ). Writes (2 ∷ k ∷ []) l e.numbers l' y) i g }
  halt-put false last t f g = absurd (cc)

-- ---- the sheet

-- what the code finds of a place is whether a whole field stands there
pub whole-field : (s : Bytes) (at : ℕ) {b c : Bool} → b ≡ (has_head s at && has_body s at) → b ≡ c → is_field s at ≡ c
unfolding is_field
whole-field s at e t = sym e ∙ t

pub field-within : (s : Bytes) (at : ℕ) → (has_head s at && has_body s at) ≡ true → behind s at ≤ length s
unfolding is_field
field-within s at h = field-inside s at h

-- what the search is given for a walk over the fields
pub ruleset walk_laws = (field-within)

-- what is written so far, and that the rest belongs behind it
pub record SoFar (s out₀ : Bytes) (list₀ : List ℕ) (out : Bytes) (list : List ℕ) (ends : Ends) (last : O.Option ℕ) (at : ℕ) : Type 0 where
  pub part : Mended
  pub put : Puts part out₀ list₀ no_ends out list ends
  pub whole : (part then mend_from last s at) ≡ mended s

module _ (s : Bytes) {out₀ : Bytes} {list₀ : List ℕ} where
  pub so-far-none : SoFar s out₀ list₀ out₀ list₀ no_ends O.none 0
  unfolding mended
  so-far-none = record { part = copied []; put = puts-nothing; whole = refl }

  module _ {out : Bytes} {list : List ℕ} {ends : Ends} {last : O.Option ℕ} {at : ℕ} (f : SoFar s out₀ list₀ out list ends last at) (in-sheet : at ≤ length s)
      {b : Bool} (is : b ≡ (has_head s at && has_body s at)) {o₁ : Bytes} {l₁ : List ℕ} {e₁ : Ends} (a : Puts (added (closes_at s at) last) out list ends o₁ l₁ e₁) where
    pub so-far-field : {next : O.Option ℕ} {o₂ : Bytes} {l₂ : List ℕ} {e₂ : Ends} → b ≡ true → Puts (mended_field s at) o₁ l₁ e₁ o₂ l₂ e₂ → next ≡ open_after s at
        → SoFar s out₀ list₀ o₂ l₂ e₂ next (behind s at)
    so-far-field t m n =
        let before = added (closes_at s at) last in
        let rest = mend_from (open_after s at) s (behind s at) in
        record {
          part = f.part then (before then mended_field s at);
          put = puts_then f.part _ f.put (puts_then before (mended_field s at) a m);
          whole = ap (λ (x : O.Option ℕ). (f.part then (before then mended_field s at)) then mend_from x s (behind s at)) n
              ∙ then-assoc f.part (before then mended_field s at) rest ∙ ap (λ (x : Mended). f.part then x) (then-assoc before (mended_field s at) rest ∙ sym (mend-field s last at in-sheet (whole-field s at is t)))
              ∙ f.whole;
        }

    pub so-far-end : {o₂ : Bytes} {l₂ : List ℕ} {e₂ : Ends} → b ≡ false → Puts (copied (drop at s)) o₁ l₁ e₁ o₂ l₂ e₂ → Puts (mended s) out₀ list₀ no_ends o₂ l₂ e₂
    so-far-end {o₂} {l₂} {e₂} t m =
        let before = added (closes_at s at) last in
        subst (λ (x : Mended). Puts x out₀ list₀ no_ends o₂ l₂ e₂) (ap (λ (x : Mended). f.part then x) (sym (mend-end s last at in-sheet (whole-field s at is t))) ∙ f.whole)
        (puts_then f.part _ f.put (puts_then before (copied (drop at s)) a m))
