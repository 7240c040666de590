-- What writing and reading the numbers of a state part by part comes to.
use mathlib.Core.Path.{◌≡◌, refl, sym, ap, ◌∙◌}
use mathlib.Core.List.{List, [], ◌∷◌, ◌++◌, append_assoc, append-nil}
use Prim.Native.Nat.{ℕ, zero, suc, ◌+◌, ◌*◌, ◌<◌, ◌≤◌, ◌^◌, ◌-◌}
use native.Mathlib.Omega.{arith}
use native.Mathlib.Nat.{add-zero, zero-add, not-suc-le-zero, le_of_suc-le-suc}
use native.Mathlib.Numerals.{add-one}
use lib.ListN.{length, take, drop, get_or, set, length-append, drop_of_length-le}
use lib.Seq.{drop-cons, set_at, append_snoc, take_at, drop_at, drop-drop}
use lib.IntN.{ℤ, pos}
use lib.Signed.{mag}
use mir.Syntax.{w32}
use mir.Val.{to_z, of_z}
use mir.Facts.{to_z-of_z}
use Rattle.rules.specs.Constants.{numbers_per_state}
use Rattle.state.specs.declared.Thread.{Thread}
use Rattle.interval.specs.declared.Span.{Span}
use borrow.Rule.Slice.PartMut.{put_mid}
use Rattle.state.specs.declared.State.{State}
use Rattle.interval.specs.Shape.{zero_span}
use Rattle.state.specs.Access.{thread_at}
use Rattle.state.specs.Cells.{spans_cells, owners_cells, thread_cells, encode, byte_cells_from, span_cells_from, span_cells}

-- ---- writing at the seam of what is written and what is not yet

module _ {A : Type 0} where
  put-more : (p d : List A) (i : ℕ) (a : A) → length p ≡ i → i < length d → set (p ++ drop i d) i a ≡ (p ++ (a ∷ [])) ++ drop (i + 1) d
  put-more p d i a e h = rw (add-one, drop-cons d i a) (set_at p (get_or d i a) (drop (suc i) d) a i e ∙ sym (append_snoc p a (drop (suc i) d)))

  put_two : (p d : List A) (i : ℕ) (a b : A) → length p ≡ i → i + 2 ≤ length d → set (set (p ++ drop i d) i a) (i + 1) b ≡ (p ++ (a ∷ b ∷ [])) ++ drop (i + 2) d
  put_two p d i a b e h =
      let h1 : i < length d = omega arith in
      let h2 : i + 1 < length d = omega arith in
      let e2 : length (p ++ (a ∷ [])) ≡ i + 1 = simp length-append (omega arith) in
      let n : i + 1 + 1 ≡ i + 2 = omega arith in
      ap (λ (l : List A). set l (i + 1) b) (put-more p d i a e h1)
      ∙ put-more (p ++ (a ∷ [])) d (i + 1) b e2 h2
      ∙ rw (n, append_assoc p (a ∷ []) (b ∷ []))

-- ---- the cells of lists

module _ (l : List ℕ) where
  bytes-snoc : (k n : ℕ) → byte_cells_from l k (suc n) ≡ byte_cells_from l k n ++ (pos (get_or l (k + n) 0) ∷ [])
  unfolding byte_cells_from
  bytes-snoc k zero = rw add-zero
  bytes-snoc k (suc n) =
      let e : suc k + n ≡ k + suc n = omega arith in
      ap (λ (r : List ℤ). pos (get_or l k 0) ∷ r) (rw e at (bytes-snoc (suc k) n))

  bytes-length : (k n : ℕ) → length (byte_cells_from l k n) ≡ n
  unfolding byte_cells_from
  bytes-length k zero = refl
  bytes-length k (suc n) = ap suc (bytes-length (suc k) n)

  -- byte i, written behind those before it
  pub bytes-put : (i : ℕ) (m d : List ℤ) (x : ℤ) → m ≡ byte_cells_from l 0 i ++ drop i d → x ≡ pos (get_or l i 0) → i < length d
      → set m i x ≡ byte_cells_from l 0 (i + 1) ++ drop (i + 1) d
  bytes-put i m d x e ex h =
      let more : byte_cells_from l 0 (i + 1) ≡ byte_cells_from l 0 i ++ (pos (get_or l i 0) ∷ []) = rw add-one (rw zero-add at (bytes-snoc 0 i)) in
      rw (e, ex, more) (put-more (byte_cells_from l 0 i) d i (pos (get_or l i 0)) (bytes-length 0 i) h)

module _ (l : List Span) where
  spans-snoc : (k n : ℕ) → span_cells_from l k (suc n) ≡ span_cells_from l k n ++ span_cells (get_or l (k + n) zero_span)
  unfolding span_cells_from
  spans-snoc k zero = rw add-zero
  spans-snoc k (suc n) =
      let e : suc k + n ≡ k + suc n = omega arith in
      ap (λ (r : List ℤ). (get_or l k zero_span).low.0 ∷ (get_or l k zero_span).high.0 ∷ r) (rw e at (spans-snoc (suc k) n))

  spans-length : (k n : ℕ) → length (span_cells_from l k n) ≡ 2 * n
  unfolding span_cells_from
  spans-length k zero = refl
  spans-length k (suc n) = omega (arith, spans-length (suc k) n)

  -- span i, written behind those before it
  pub spans-put : (i : ℕ) (m d : List ℤ) → m ≡ span_cells_from l 0 i ++ drop (2 * i) d → 2 * i + 2 ≤ length d
      → set (set m (2 * i) (get_or l i zero_span).low.0) (2 * i + 1) (get_or l i zero_span).high.0 ≡ span_cells_from l 0 (i + 1) ++ drop (2 * (i + 1)) d
  spans-put i m d e h =
      let more : span_cells_from l 0 (i + 1) ≡ span_cells_from l 0 i ++ span_cells (get_or l i zero_span) = rw add-one (rw zero-add at (spans-snoc 0 i)) in
      let twice : 2 * (i + 1) ≡ 2 * i + 2 = omega arith in
      rw (e, more, twice) (put_two (span_cells_from l 0 i) d (2 * i) _ _ (spans-length 0 i) h)

pub drop_all : {A : Type 0} (p d : List A) (i : ℕ) → length d ≤ i → p ++ drop i d ≡ p
drop_all p d i h = rw (drop_of_length-le d h, append-nil)

-- ---- a part that was lent, put back behind what is written

part-more : {A : Type 0} (p d ys : List A) (n k : ℕ) → length p ≡ n → n + k ≤ length d → put_mid n k (p ++ drop n d) ys ≡ (p ++ ys) ++ drop (n + k) d
part-more {A} p d ys n k e h =
    ap (λ (l : List A). l ++ (ys ++ drop k (drop n (p ++ drop n d)))) (take_at p (drop n d) n e)
    ∙ ap (λ (l : List A). p ++ (ys ++ drop k l)) (drop_at p (drop n d) n e)
    ∙ ap (λ (l : List A). p ++ (ys ++ l)) (drop-drop k n d)
    ∙ sym (append_assoc p ys (drop (n + k) d))

three-sets : {A : Type 0} (l : List A) (x y z : A) → 3 ≤ length l → set (set (set l 0 x) 1 y) 2 z ≡ (x ∷ y ∷ z ∷ []) ++ drop 3 l
three-sets [] x y z h = absurd (not-suc-le-zero h)
three-sets (a ∷ []) x y z h = absurd (not-suc-le-zero (le_of_suc-le-suc h))
three-sets (a ∷ b ∷ []) x y z h = absurd (not-suc-le-zero (le_of_suc-le-suc (le_of_suc-le-suc h)))
three-sets (a ∷ b ∷ c ∷ r) x y z h = refl

pub thread-length : (th : Thread) → length (thread_cells th) ≡ 19
unfolding thread_cells
thread-length th = refl

pub spans-16 : (l : List Span) → length (spans_cells l) ≡ 16
unfolding spans_cells
spans-16 l = refl

pub encode-length : (s : State) → length (encode s) ≡ numbers_per_state
unfolding encode
encode-length s = refl

next-part : {A : Type 0} {x : List A} (p d ys : List A) (n k : ℕ) → x ≡ p ++ drop n d → length p ≡ n → n + k ≤ length d → put_mid n k x ys ≡ (p ++ ys) ++ drop (n + k) d
next-part {A} p d ys n k q e h = ap (λ (l : List A). put_mid n k l ys) q ∙ part-more p d ys n k e h

-- the first t threads of a state
unfoldable pub rows : State → ℕ → List ℤ
rows s zero = []
rows s (suc t) = rows s t ++ thread_cells (thread_at s t)

pub rows-length : (s : State) (t : ℕ) → length (rows s t) ≡ t * 19
unfolding rows
rows-length s zero = refl
rows-length s (suc t) = simp length-append (omega (arith, rows-length s t, thread-length (thread_at s t)))

pub no-rows : (s : State) (l : List ℤ) → l ≡ rows s 0 ++ drop (0 * 19) l
unfolding rows
no-rows s l = refl

-- one thread more
pub rows-put : (s : State) (t : ℕ) (l d ys : List ℤ) → l ≡ rows s t ++ drop (t * 19) d → ys ≡ thread_cells (thread_at s t) → t * 19 + 19 ≤ length d
    → put_mid (t * 19) (t * 19 + 19 - t * 19) l ys ≡ rows s (t + 1) ++ drop ((t + 1) * 19) d
unfolding rows
rows-put s t l d ys e ey h =
    let n : t * 19 + 19 - t * 19 ≡ 19 = omega arith in
    let m : t * 19 + 19 ≡ suc t * 19 = omega arith in
    rw (n, add-one, ey) (next-part (rows s t) d (thread_cells (thread_at s t)) (t * 19) 19 e (rows-length s t) h ∙ rw m)

pub thread-written : (l m rs : List ℤ) (th : Thread) → length l ≡ 19 → m ≡ set (set (set l 0 (pos th.at)) 1 (pos th.clock.low.0)) 2 (pos th.clock.high.0)
    → rs ≡ spans_cells th.regs → put_mid 3 16 m rs ≡ thread_cells th
unfolding thread_cells
thread-written l m rs th h e er =
    next-part (pos th.at ∷ pos th.clock.low.0 ∷ pos th.clock.high.0 ∷ []) l rs 3 16 (e ∙ three-sets l _ _ _ (omega arith)) refl (omega arith)
    ∙ drop_all _ l 19 (omega arith)
    ∙ ap (λ (r : List ℤ). pos th.at ∷ pos th.clock.low.0 ∷ pos th.clock.high.0 ∷ r) er

-- the machine's reading of a signed result
pub again : (z : ℤ) → mag z < 2 ^ 31 → to_z w32 (of_z w32 z) ≡ z
again z h = to_z-of_z {w = w32} (record { sfits = h })

slot-size : (a : ℕ) → a + numbers_per_state - a ≡ numbers_per_state
slot-size a = omega arith

pub slot-put : (b xs : List ℤ) (a : ℕ) → put_mid a (a + numbers_per_state - a) b xs ≡ take a b ++ (xs ++ drop (a + numbers_per_state) b)
slot-put b xs a = rw (slot-size a, drop-drop numbers_per_state a b)

-- the variables and the owners behind the four threads
pub state-written : (l d : List ℤ) (s : State) (e f : List ℤ) → length d ≡ numbers_per_state → l ≡ rows s 4 ++ drop (4 * 19) d
    → e ≡ spans_cells s.vars → f ≡ owners_cells s.owners → put_mid 92 8 (put_mid 76 16 l e) f ≡ encode s
unfolding encode rows
state-written l d s e f h q ee ef =
    let vars = next-part (rows s 4) d e 76 16 q (rows-length s 4) (omega arith) in
    let long : length (rows s 4 ++ e) ≡ 92 = simp length-append (omega (arith, rows-length s 4, ap length ee, spans-16 s.vars)) in
    next-part (rows s 4 ++ e) d f 92 8 vars long (omega arith)
    ∙ drop_all ((rows s 4 ++ e) ++ f) d numbers_per_state (omega arith)
    ∙ (λ i. (rows s 4 ++ ee i) ++ ef i)
    ∙ simp append_assoc
