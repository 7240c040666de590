-- How much room is enough: an added halt stands behind a statement of at least its own length, and a field with a change, or with two,
-- has at least 8 bytes.
use mathlib.Core.Path.{◌≡◌, ap, ◌∙◌}
use mathlib.Core.Bool.{Bool, true, false, ◌&&◌, not}
use mathlib.Core.Option.{Option, none, some}
use mathlib.Core.List.{◌++◌}
use Prim.Native.Nat.{ℕ, ◌+◌, ◌-◌, ◌*◌, ◌≤◌}
use native.Mathlib.Omega.{arith}
use lib.Dec.{T, leb, eqb, leb→le}
use lib.ListN.{length, drop, length-append, length-drop}
use lib.Seq.{slice, length-slice}
use Rattle.rules.specs.Format.{Bytes, byte, num16}
use Rattle.rules.proofs.Base.{if-ind, and_left, and_right}
use Rattle.mended.specs.Mend.{Mended, copied, ◌then◌, behind, reversed, low_end, end_size, exchange, exchanged_field, mended_field, open_after, closes_at, added, mended, numbers_of}
use Rattle.mended.proofs.Walk.{numbers-append, reversed-cases, ends-fit, walk-holds}

-- ---- a mended field is as long as it was

pub exchange-length : (s : Bytes) (p q a w : ℕ) → p ≤ a → a + w + w ≤ q → q ≤ length s → length (exchange s p q a w) ≡ q - p
unfolding exchange
exchange-length s p q a w h k l =
    let x = slice p a s in
    let b = slice (a + w) (a + w + w) s in
    let c = slice a (a + w) s in
    let d = slice (a + w + w) q s in
    let whole : length (exchange s p q a w) ≡ length x + length (b ++ (c ++ d)) = length-append x (b ++ (c ++ d)) in
    omega (
      arith,
      length-append b (c ++ d),
      length-append c d,
      length-slice p a s (omega arith),
      length-slice (a + w) (a + w + w) s (omega arith),
      length-slice a (a + w) s (omega arith),
      length-slice (a + w + w) q s l,
    )

pub exchanged-length : (s : Bytes) (at : ℕ) → behind s at ≤ length s → T (reversed s at) → length (exchanged_field s at) ≡ 3 + num16 s (at + 1)
exchanged-length s at h t =
    let q = behind s at in
    omega (arith, exchange-length s at q (at + low_end (byte s at)) (end_size (byte s at)) (omega arith) (ends-fit s at t) h)

pub field-length : (s : Bytes) (at : ℕ) → behind s at ≤ length s → length (mended_field s at).bytes ≡ 3 + num16 s (at + 1)
unfolding mended_field
field-length s at h =
    if-ind (reversed s at) _ _ (λ (x : Mended). length x.bytes ≡ 3 + num16 s (at + 1))
    (λ t. exchanged-length s at h t) (λ _. omega (arith, length-slice at (behind s at) s h))

-- ---- what each field may bring

reversed-long : (s : Bytes) (at : ℕ) → T (reversed s at) → 5 ≤ num16 s (at + 1)
reversed-long s at = reversed-cases s at (5 ≤ num16 s (at + 1)) (λ _ m _. omega arith) (λ _ m _. omega arith) (λ _ m _. m)

field-numbers : (s : Bytes) (at : ℕ) → 4 * length (numbers_of (mended_field s at).changes) ≤ 3 + num16 s (at + 1)
unfolding mended_field numbers_of
field-numbers s at =
    if-ind (reversed s at) _ _ (λ (x : Mended). 4 * length (numbers_of x.changes) ≤ 3 + num16 s (at + 1))
    (λ t. omega (arith, reversed-long s at t)) (λ _. omega arith)

-- half the length of the halt that a statement may want
abbrev due : Option ℕ → ℕ
due none = 0
due (some p) = 4

open-due : (s : Bytes) (at : ℕ) → 2 * due (open_after s at) ≤ 3 + num16 s (at + 1)
unfolding open_after
open-due s at =
    let a = eqb (byte s at) 6 in
    let b = leb 5 (num16 s (at + 1)) in
    let c = not (eqb (byte s (at + 7)) 0) in
    if-ind (a && (b && c)) (some at) none (λ o. 2 * due o ≤ 3 + num16 s (at + 1))
    (λ t. let l = leb→le 5 (num16 s (at + 1)) (and_left b c (and_right a (b && c) t)) in omega arith) (λ _. omega arith)

added-length : (b : Bool) (last : Option ℕ) → length (added b last).bytes ≤ 2 * due last
unfolding added
added-length false last = omega arith
added-length true none = omega arith
added-length true (some p) = omega arith

added-numbers : (b : Bool) (last : Option ℕ) → 2 * length (numbers_of (added b last).changes) ≤ due last
unfolding added numbers_of
added-numbers false last = omega arith
added-numbers true none = omega arith
added-numbers true (some p) = omega arith

-- ---- the walk

-- what is mended from a place on, behind a statement that may want a halt
record Small (s : Bytes) (last : Option ℕ) (at : ℕ) (m : Mended) : Type 0 where
  pub few_bytes : length m.bytes ≤ 2 * due last + 2 * (length s - at)
  pub few_numbers : 2 * length (numbers_of m.changes) ≤ due last + (length s - at)

numbers-sum : (a b : Mended) → length (numbers_of (a then b).changes) ≡ length (numbers_of a.changes) + length (numbers_of b.changes)
numbers-sum a b = ap length (numbers-append a.changes b.changes) ∙ length-append (numbers_of a.changes) (numbers_of b.changes)

small-end : (s : Bytes) (last : Option ℕ) (at : ℕ) → at ≤ length s → Small s last at (added (closes_at s at) last then copied (drop at s))
unfolding numbers_of
small-end s last at i =
    let x = added (closes_at s at) last in
    record {
      few_bytes = omega (arith, length-append x.bytes (drop at s), length-drop at s, added-length (closes_at s at) last);
      few_numbers = omega (arith, numbers-sum x (copied (drop at s)), added-numbers (closes_at s at) last);
    }

small-field : (s : Bytes) (last : Option ℕ) (at : ℕ) (m : Mended) → behind s at ≤ length s → Small s (open_after s at) (behind s at) m
    → Small s last at (added (closes_at s at) last then mended_field s at then m)
small-field s last at m h rest =
    let x = added (closes_at s at) last in
    let f = mended_field s at in
    let d = open-due s at in
    record {
      few_bytes = omega (
        arith,
        length-append x.bytes (f.bytes ++ m.bytes),
        length-append f.bytes m.bytes,
        field-length s at h,
        added-length (closes_at s at) last,
        rest.few_bytes,
      );
      few_numbers = omega (arith, numbers-sum x (f then m), numbers-sum f m, field-numbers s at, added-numbers (closes_at s at) last, rest.few_numbers);
    }

small-whole : (s : Bytes) → Small s none 0 (mended s)
unfolding mended
small-whole s = walk-holds s (Small s) (small-end s) (small-field s) none 0 (omega arith)

pub at_most_twice : (s : Bytes) → length (mended s).bytes ≤ 2 * length s
at_most_twice s = omega (arith, (small-whole s).few_bytes)

pub numbers_at_most : (s : Bytes) → 2 * length (numbers_of (mended s).changes) ≤ length s
numbers_at_most s = omega (arith, (small-whole s).few_numbers)
