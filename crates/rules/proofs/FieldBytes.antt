-- Fields of one length and their bytes: the header, the locks, ranges. What reads is its encoding and fits; the encoding of
-- what fits reads as it.
use mathlib.Core.Path.{◌≡◌, refl, ap, subst, ◌∙◌}
use mathlib.Core.Bool.{Bool, ◌&&◌}
use mathlib.Core.List.{[], ◌∷◌, ◌++◌}
use Prim.Native.Nat.{ℕ, ◌+◌, ◌≤◌}
use native.Mathlib.Omega.{arith}
use lib.Dec.{T, leb, leb→le, le→leb}
use lib.Signed.{le_z}
use lib.ListN.{length}
use Rattle.rules.specs.Constants.{most_locks, greatest_limit, greatest_budget}
use Rattle.rules.specs.Interval.{Interval}
use Rattle.rules.specs.Program.{Header}
use Rattle.rules.specs.Format.{Bytes, AreBytes, byte, num32, int32, Got, got, due, sized, header_fits, read_header, read_locks, read_range}
use Rattle.rules.specs.Encoding.{four, field, encode_value, encode_header, encode_locks, encode_range}
use Rattle.rules.specs.Fits.{HeaderFits, RangeFits}
use Rattle.rules.proofs.Base.{and_left, and_right, and_both}
use Rattle.rules.proofs.IfAt.{IfAt}
use Rattle.rules.proofs.FieldAt.{sized-field, field-at, due-reads, sized_reads}
use Rattle.rules.proofs.Stands.{Stands, OneAt, stands_one, stands-append, stands-left, stands-right, stands-four, four_is, stands-field, field-body, written-field}
use Rattle.rules.proofs.Values.{value_is, stands-value, int32-value}

-- ---- a field that is written is read

module _ {s : Bytes} (tag : ℕ) (body : Bytes) {at q : ℕ} (h : Stands (field tag body) s at q) where
  pub written-due : {A : Type 0} (g : Got A) → due tag s at g ≡ g
  written-due g = due-reads (written-field tag body h) g

  pub written-sized : {A : Type 0} (ok : Bool) (a : A) → T ok → sized s at (length body) ok a ≡ got a q
  written-sized ok a t =
      let b = field-body tag body h in
      let e : at + 3 + length body ≡ q = b.ends in
      sized_reads (written-field tag body h) ok a t ∙ ap (got a) e

-- ---- ranges

abbrev pub RangeAt : ℕ → Bytes → ℕ → Interval → ℕ → Type 0
RangeAt tag s = OneAt (encode_range tag) (λ _ i. i) RangeFits s

pub range_at_lem : {s : Bytes} → AreBytes s → (tag at : ℕ) → byte s at ≡ tag → IfAt (RangeAt tag s at) (read_range s at)
unfolding read_range
range_at_lem {s} o tag at t =
    sized-field (RangeAt tag s at) tag 8 s at _ _ t (λ f ok.
    let room = f.fits in
    let a = int32 s (at + 3) in let b = int32 s (at + 7) in
    let x : Stands (encode_value a) s (at + 3) (at + 7) = subst (Stands (encode_value a) s (at + 3)) (omega arith) (stands-value o {p = at + 3} (omega arith)) in
    let y : Stands (encode_value b) s (at + 7) (at + 3 + 8) = subst (Stands (encode_value b) s (at + 7)) (omega arith) (stands-value o {p = at + 7} (omega arith)) in
    record {
      bytes = stands-field o tag (encode_value a ++ encode_value b) f (stands-append x y);
      good = record { low = int32-value o (at + 3); high = int32-value o (at + 7); ordered = ok };
      here = refl;
    })

-- the two values of a range that stands at a place
range-numbers : (s : Bytes) (tag : ℕ) (i : Interval) {at q : ℕ} → RangeFits i → Stands (encode_range tag i) s at q → (int32 s (at + 3) ≡ i.low) × (int32 s (at + 7) ≡ i.high)
range-numbers s tag i {at} {q} f h =
    let body = encode_value i.low ++ encode_value i.high in
    let b : Stands body s (at + 3) q = field-body tag body h in (
      value_is i.low f.low (stands-left (encode_value i.low) (encode_value i.high) b),
      value_is i.high f.high (subst (λ (j : ℕ). Stands (encode_value i.high) s j q) (omega arith) (stands-right (encode_value i.low) (encode_value i.high) b)),
    )

pub range-reads : {s : Bytes} (tag : ℕ) (i : Interval) {at q : ℕ} → RangeFits i → Stands (encode_range tag i) s at q → read_range s at ≡ got i q
unfolding read_range
range-reads {s} tag i {at} {q} f h =
    let w = range-numbers s tag i f h in
    rw (w.0, w.1) (written-sized tag (encode_value i.low ++ encode_value i.high) h (le_z i.low i.high) i f.ordered)

-- ---- the locks

pub record LocksAt (s : Bytes) (p k q : ℕ) : Type 0 where
  pub bytes : Stands (encode_locks k) s p q
  pub few : k ≤ most_locks

pub locks-at : {s : Bytes} → AreBytes s → (at : ℕ) → IfAt (LocksAt s at) (read_locks s at)
unfolding read_locks
locks-at {s} o at =
    field-at (LocksAt s at) 3 1 s at (leb (byte s (at + 3)) most_locks) (byte s (at + 3)) (λ f ok.
    let room = f.fits in
    record { bytes = stands-field o 3 (byte s (at + 3) ∷ []) f (stands_one (omega arith) refl); few = leb→le (byte s (at + 3)) most_locks ok })

pub locks-read : {s : Bytes} (k : ℕ) {at q : ℕ} → k ≤ most_locks → Stands (encode_locks k) s at q → read_locks s at ≡ got k q
unfolding read_locks
locks-read {s} k {at} {q} f h =
    let b : byte s (at + 3) ≡ k = (field-body 3 (k ∷ []) h).same 0 (at + 3) (omega arith) (omega arith) in
    rw (b) (written-due 3 (k ∷ []) h _ ∙ written-sized 3 (k ∷ []) h (leb k most_locks) k (le→leb k most_locks f))

-- ---- the header

-- what 01 says of its numbers, and the reader's test of them
pub header-fits : (h : Header) → T (header_fits h.limit h.budget h.label_low h.label_high) → HeaderFits h
unfolding header_fits
header-fits h t =
    let l = h.limit in let b = h.budget in let a = h.label_low in let z = h.label_high in
    let limit = and_left (leb 1 l && leb l greatest_limit) ((leb 1 b && leb b greatest_budget) && (leb a z && leb z l)) t in
    let rest = and_right (leb 1 l && leb l greatest_limit) ((leb 1 b && leb b greatest_budget) && (leb a z && leb z l)) t in
    let budget = and_left (leb 1 b && leb b greatest_budget) (leb a z && leb z l) rest in
    let label = and_right (leb 1 b && leb b greatest_budget) (leb a z && leb z l) rest in
    record {
      limit_some = leb→le 1 l (and_left (leb 1 l) (leb l greatest_limit) limit);
      limit_most = leb→le l greatest_limit (and_right (leb 1 l) (leb l greatest_limit) limit);
      budget_some = leb→le 1 b (and_left (leb 1 b) (leb b greatest_budget) budget);
      budget_most = leb→le b greatest_budget (and_right (leb 1 b) (leb b greatest_budget) budget);
      label_ordered = leb→le a z (and_left (leb a z) (leb z l) label);
      label_most = leb→le z l (and_right (leb a z) (leb z l) label);
    }

header-passes : (h : Header) → HeaderFits h → T (header_fits h.limit h.budget h.label_low h.label_high)
unfolding header_fits
header-passes h f =
    let l = h.limit in let b = h.budget in let a = h.label_low in let z = h.label_high in
    and_both (leb 1 l && leb l greatest_limit) _ (and_both (leb 1 l) _ (le→leb 1 l f.limit_some) (le→leb l greatest_limit f.limit_most))
    (and_both (leb 1 b && leb b greatest_budget) _ (and_both (leb 1 b) _ (le→leb 1 b f.budget_some) (le→leb b greatest_budget f.budget_most))
    (and_both (leb a z) _ (le→leb a z f.label_ordered) (le→leb z l f.label_most)))

pub record HeaderAt (s : Bytes) (h : Header) (q : ℕ) : Type 0 where
  pub bytes : Stands (encode_header h) s 0 q
  pub fits : HeaderFits h

pub header_at : {s : Bytes} → AreBytes s → IfAt (HeaderAt s) (read_header s)
unfolding read_header
header_at {s} o =
    field-at (HeaderAt s) 1 16 s 0 _ _ (λ f ok.
    let room = f.fits in
    let word : (p : ℕ) → p + 4 ≤ length s → Stands (four (num32 s p)) s p (p + 4) = (λ p h. stands-four o h refl) in
    record {
      bytes = stands-field o 1 _ f (stands-append (word 3 (omega arith)) (stands-append (word 7 (omega arith)) (stands-append (word 11 (omega arith)) (word 15 (omega arith)))));
      fits = header-fits _ ok;
    })

-- the numbers of a header that stands at the sheet's start
record HeaderNumbers (s : Bytes) (h : Header) : Type 0 where
  limit : num32 s 3 ≡ h.limit
  budget : num32 s 7 ≡ h.budget
  low : num32 s 11 ≡ h.label_low
  high : num32 s 15 ≡ h.label_high

header-numbers : (s : Bytes) (h : Header) {q : ℕ} → Stands (encode_header h) s 0 q → HeaderNumbers s h
header-numbers s h {q} st =
    let l = h.limit in let b = h.budget in let a = h.label_low in let z = h.label_high in
    let whole : Stands (four l ++ four b ++ four a ++ four z) s 3 q = field-body 1 (four l ++ four b ++ four a ++ four z) st in
    let second = stands-right (four l) (four b ++ four a ++ four z) whole in
    let third = stands-right (four b) (four a ++ four z) second in
    record {
      limit = four_is l (stands-left (four l) (four b ++ four a ++ four z) whole);
      budget = four_is b (stands-left (four b) (four a ++ four z) second);
      low = four_is a (stands-left (four a) (four z) third);
      high = four_is z (stands-right (four a) (four z) third);
    }

pub header-reads : {s : Bytes} (h : Header) {q : ℕ} → HeaderFits h → Stands (encode_header h) s 0 q → read_header s ≡ got h q
unfolding read_header
header-reads {s} h {q} f st =
    let l = h.limit in let b = h.budget in let a = h.label_low in let z = h.label_high in
    let body = four l ++ four b ++ four a ++ four z in
    let w = header-numbers s h st in
    rw (w.limit, w.budget, w.low, w.high)
    (written-due 1 body st _ ∙ written-sized 1 body st (header_fits l b a z) h (header-passes h f))
