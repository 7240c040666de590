-- The walk of mending as a loop, for code that keeps a place and the statement that wants a halt before it; what is known of a whole
-- field, and of one whose ends stand the wrong way round.
use mathlib.Core.Path.{◌≡◌, refl, sym, ap, ◌∙◌, subst}
use mathlib.Core.Bool.{Bool, true, false, ◌||◌}
use mathlib.Core.Option.{Option}
use mathlib.Core.List.{List, [], ◌∷◌, ◌++◌, append_assoc}
use Prim.Native.Nat.{ℕ, zero, suc, ◌+◌, ◌-◌, ◌≤◌, ◌<◌}
use native.Mathlib.Omega.{arith}
use lib.Dec.{T, leb, eqb, leb→le, ltb→lt, eqb→eq}
use lib.Signed.{lt_z}
use lib.ListN.{length, drop}
use Rattle.rules.specs.Format.{Bytes, byte, num16, num32, int32, has_head, has_body}
use Rattle.rules.proofs.Base.{if-ind, and_left, and_right}
use Rattle.rules.proofs.IfAt.{is_true}
use Rattle.mended.specs.Mend.{Change, exchanged, halt_added, Mended, copied, ◌then◌, is_field, behind, reversed, low_end, end_size, mended_field, open_after, closes_at, added, on_field, mend_fields, mend_from, numbers_of}

-- ---- parts one behind another

pub then-assoc : (a b c : Mended) → ((a then b) then c) ≡ (a then (b then c))
then-assoc a b c = λ i. record { bytes = append_assoc a.bytes b.bytes c.bytes i; changes = append_assoc a.changes b.changes c.changes i }

pub numbers-append : (cs ds : List Change) → numbers_of (cs ++ ds) ≡ numbers_of cs ++ numbers_of ds
unfolding numbers_of
numbers-append [] ds = refl
numbers-append (exchanged at ∷ cs) ds = ap (λ (l : List ℕ). 1 ∷ at ∷ l) (numbers-append cs ds)
numbers-append (halt_added at ∷ cs) ds = ap (λ (l : List ℕ). 2 ∷ at ∷ l) (numbers-append cs ds)

-- ---- fields

pub field-inside : (s : Bytes) (at : ℕ) → is_field s at ≡ true → behind s at ≤ length s
unfolding is_field has_body
field-inside s at e = leb→le (behind s at) (length s) (and_right (has_head s at) (leb (behind s at) (length s)) (is_true (is_field s at) e))

-- a field whose ends stand the wrong way round is one of these
pub reversed-cases : (s : Bytes) (at : ℕ) (X : Type 0)
    → (byte s at ≡ 1 → num16 s (at + 1) ≡ 16 → num32 s (at + 15) < num32 s (at + 11) → X)
    → (((k : ℕ) → byte s at ≡ k → T (eqb k 2 || eqb k 5)) → num16 s (at + 1) ≡ 8 → T (lt_z (int32 s (at + 7)) (int32 s (at + 3))) → X)
    → (byte s at ≡ 6 → 5 ≤ num16 s (at + 1) → num16 s (at + 5) < num16 s (at + 3) → X) → T (reversed s at) → X
unfolding reversed
reversed-cases s at X label range times =
    let tag = byte s at in
    let n = num16 s (at + 1) in
    if-ind (eqb tag 1) _ _ (λ b. T b → X)
    (λ u t. label (eqb→eq tag 1 u) (eqb→eq n 16 (and_left (eqb n 16) _ t)) (ltb→lt (num32 s (at + 15)) (num32 s (at + 11)) (and_right (eqb n 16) _ t)))
    (λ _. if-ind (eqb tag 2 || eqb tag 5) _ _ (λ b. T b → X)
    (λ u t. range (λ k e. subst (λ (k : ℕ). T (eqb k 2 || eqb k 5)) e u) (eqb→eq n 8 (and_left (eqb n 8) _ t)) (and_right (eqb n 8) _ t))
    (λ _. if-ind (eqb tag 6) _ _ (λ b. T b → X)
    (λ u t. times (eqb→eq tag 6 u) (leb→le 5 n (and_left (leb 5 n) _ t)) (ltb→lt (num16 s (at + 5)) (num16 s (at + 3)) (and_right (leb 5 n) _ t)))
    (λ _ t. absurd t)))

-- both ends stand in the field
pub ends-fit : (s : Bytes) (at : ℕ) → T (reversed s at) → at + low_end (byte s at) + end_size (byte s at) + end_size (byte s at) ≤ behind s at
ends-fit s at =
    let tag = byte s at in
    let n = num16 s (at + 1) in
    reversed-cases s at (at + low_end tag + end_size tag + end_size tag ≤ at + 3 + n)
    (λ t m _. subst (λ (k : ℕ). at + low_end k + end_size k + end_size k ≤ at + 3 + n) (sym t) (omega arith))
    (λ t m _.
    let low : low_end tag ≡ 3 = if-ind (eqb tag 1) 11 3 (λ k. k ≡ 3) (λ u. absurd (t 1 (eqb→eq tag 1 u))) (λ _. refl) in
    let size : end_size tag ≤ 4 = if-ind (eqb tag 6) 2 4 (λ k. k ≤ 4) (λ _. omega arith) (λ _. omega arith) in
    omega arith)
    (λ t m _. subst (λ (k : ℕ). at + low_end k + end_size k + end_size k ≤ at + 3 + n) (sym t) (omega arith))

-- ---- one turn

module _ (s : Bytes) where
  -- what is added, then the field, if one stands here, and how it goes on behind it
  abbrev turn : Option ℕ → ℕ → (ℕ → Mended) → Mended
  turn last at more = added (closes_at s at) last then on_field (is_field s at) (drop at s) (λ _. mended_field s at then more (behind s at))

  onward : (b : Bool) (rest : Bytes) (m n : Mended) → (b ≡ true → m ≡ n) → on_field b rest (λ _. m) ≡ on_field b rest (λ _. n)
  unfolding on_field
  onward true rest m n h = h refl
  onward false rest m n h = refl

  -- how it goes on matters only where a whole field stands
  turn-same : (last : Option ℕ) (at : ℕ) (more other : ℕ → Mended) → ((q : ℕ) → at + 3 ≤ q → q ≤ length s → more q ≡ other q) → turn last at more ≡ turn last at other
  turn-same last at more other h =
      let q = behind s at in
      ap (λ (m : Mended). added (closes_at s at) last then m)
      (onward (is_field s at) (drop at s) (mended_field s at then more q) (mended_field s at then other q) (λ t.
      ap (λ (m : Mended). mended_field s at then m) (h q (omega arith) (field-inside s at t))))

  pub enough : (k m : ℕ) (last : Option ℕ) (at : ℕ) → length s < at + k → length s < at + m → at ≤ length s → mend_fields k last s at ≡ mend_fields m last s at
  unfolding mend_fields
  enough zero m last at h l i = absurd (omega arith)
  enough (suc k) zero last at h l i = absurd (omega arith)
  enough (suc k) (suc m) last at h l i =
      turn-same last at (λ q. mend_fields k (open_after s at) s q) (λ q. mend_fields m (open_after s at) s q)
      (λ q a b. enough k m (open_after s at) q (omega arith) (omega arith) b)

pub mend-on : (s : Bytes) (last : Option ℕ) (at : ℕ) → at ≤ length s
    → mend_from last s at ≡ (added (closes_at s at) last then on_field (is_field s at) (drop at s) (λ _. mended_field s at then mend_from (open_after s at) s (behind s at)))
unfolding mend_from mend_fields
mend-on s last at i =
    turn-same s last at (λ q. mend_fields (length s - at) (open_after s at) s q) (λ q. mend_fields (suc (length s - q)) (open_after s at) s q)
    (λ q a b. enough s (length s - at) (suc (length s - q)) (open_after s at) q (omega arith) (omega arith) b)

-- where a whole field stands, and where none does
pub mend-field : (s : Bytes) (last : Option ℕ) (at : ℕ) → at ≤ length s → is_field s at ≡ true
    → mend_from last s at ≡ (added (closes_at s at) last then mended_field s at then mend_from (open_after s at) s (behind s at))
unfolding on_field
mend-field s last at i e =
    let rest = mend_from (open_after s at) s (behind s at) in
    mend-on s last at i ∙ ap (λ (b : Bool). added (closes_at s at) last then on_field b (drop at s) (λ _. mended_field s at then rest)) e

pub mend-end : (s : Bytes) (last : Option ℕ) (at : ℕ) → at ≤ length s → is_field s at ≡ false → mend_from last s at ≡ (added (closes_at s at) last then copied (drop at s))
unfolding on_field
mend-end s last at i e =
    let rest = mend_from (open_after s at) s (behind s at) in
    mend-on s last at i ∙ ap (λ (b : Bool). added (closes_at s at) last then on_field b (drop at s) (λ _. mended_field s at then rest)) e

-- what holds of the walk from a place on, by its turns
module _ (s : Bytes) (P : Option ℕ → ℕ → Mended → Type 0)
    (end : (last : Option ℕ) (at : ℕ) → at ≤ length s → P last at (added (closes_at s at) last then copied (drop at s)))
    (field : (last : Option ℕ) (at : ℕ) (m : Mended) → behind s at ≤ length s → P (open_after s at) (behind s at) m → P last at (added (closes_at s at) last then mended_field s at then m)) where
  walk_turn : (last : Option ℕ) (at : ℕ) → at ≤ length s → (is_field s at ≡ true → P (open_after s at) (behind s at) (mend_from (open_after s at) s (behind s at)))
      → (b : Bool) → is_field s at ≡ b → P last at (mend_from last s at)
  walk_turn last at i more true e = subst (P last at) (sym (mend-field s last at i e)) (field last at (mend_from (open_after s at) s (behind s at)) (field-inside s at e) (more e))
  walk_turn last at i more false e = subst (P last at) (sym (mend-end s last at i e)) (end last at i)

  walk-within : (k : ℕ) (last : Option ℕ) (at : ℕ) → at ≤ length s → length s < at + k → P last at (mend_from last s at)
  walk-within zero last at i l = absurd (omega arith)
  walk-within (suc k) last at i l =
      walk_turn last at i (λ e. walk-within k (open_after s at) (behind s at) (field-inside s at e) (omega arith)) (is_field s at) refl

  pub walk-holds : (last : Option ℕ) (at : ℕ) → at ≤ length s → P last at (mend_from last s at)
  walk-holds last at i = walk-within (suc (length s)) last at i (omega arith)
