-- What the code's writing of numbers into a slot makes of the state that the slot holds.
use mathlib.Core.Path.{◌≡◌, sym, ap, subst, ◌∙◌}
use mathlib.Core.List.{List, [], ◌∷◌, ◌++◌}
use Prim.Native.Nat.{ℕ, ◌+◌, ◌*◌, ◌-◌, ◌^◌, ◌<◌, ◌≤◌}
use native.Mathlib.Omega.{arith}
use lib.ListN.{length, set, take, drop, length-set, get_or-append}
use lib.Seq.{get_or-set_same, get_or-set_other, get_or-take, get_or-drop, get_or-append-add, length-take-le}
use lib.IntN.{ℤ, pos, negsuc}
use lib.Signed.{mag}
use Rattle.rules.specs.Constants.{half32, most_threads, most_registers, most_variables, most_locks, numbers_per_state}
use Rattle.interval.specs.declared.Span.{Span}
use Rattle.interval.specs.Shape.{zero_span}
use Rattle.state.specs.declared.State.{State}
use Rattle.state.specs.declared.moves.Move.{Move}
use Rattle.state.specs.Access.{thread_at, with_var, with_owner}
use Rattle.state.specs.Cells.{byte_of, time_of, cell_at, byte_from, span_from, decode, spans_cells, Timed, AllTimed}
use Rattle.state.specs.Move.{moved_to}
use Rattle.state.proofs.Round.{byte-back, items, all-items}
use Rattle.state.proofs.Writing.{spans-16}
use borrow.Rule.Slice.PartMut.{put_mid, take_put, drop_put}
use Rattle.state.proofs.Slot.{thread-from, Same, decode-variable, decode-owner, moved-from, registers-moved, register-moved}

-- numbers of 32 bits hold clocks
time-small : (z : ℤ) → mag z < 2 ^ 31 → time_of z < half32
time-small (pos n) h = h
time-small (negsuc n) h = omega arith

pub small-timed : (b : List ℤ) → ((k : ℕ) → k < numbers_per_state → mag (cell_at b k) < 2 ^ 31) → AllTimed (decode b)
small-timed b small = record {
  timed = λ t h. subst Timed (sym (thread-from b t h)) (record { low = time-small (cell_at b (t * 19 + 1)) (small (t * 19 + 1) (omega arith)); high = time-small (cell_at b (t * 19 + 2)) (small (t * 19 + 2) (omega arith)) });
}

-- ---- what the code writes into a slot

-- two numbers written from q on, and one
module _ (b : List ℤ) (q : ℕ) (x y : ℤ) (room : q + 2 ≤ length b) where
  two-below : (j : ℕ) → Same (set (set b q x) (q + 1) y) b j q
  two-below j k p r = get_or-set_other (set b q x) (q + 1) k y (pos 0) (λ e. omega arith) ∙ get_or-set_other b q k x (pos 0) (λ e. omega arith)

  two-above : (j : ℕ) → Same (set (set b q x) (q + 1) y) b (q + 2) j
  two-above j k p r = get_or-set_other (set b q x) (q + 1) k y (pos 0) (λ e. omega arith) ∙ get_or-set_other b q k x (pos 0) (λ e. omega arith)

  two-first : cell_at (set (set b q x) (q + 1) y) q ≡ x
  two-first = get_or-set_other (set b q x) (q + 1) q y (pos 0) (λ e. omega arith) ∙ get_or-set_same b q x (pos 0) (omega arith)

  two-second : cell_at (set (set b q x) (q + 1) y) (q + 1) ≡ y
  two-second = get_or-set_same (set b q x) (q + 1) y (pos 0) (simp length-set (omega arith))

pub variable-written : (b : List ℤ) (k : ℕ) (v : Span) → length b ≡ numbers_per_state → k < most_variables
    → decode (set (set b (76 + 2 * k) v.low.0) (76 + 2 * k + 1) v.high.0) ≡ with_var (decode b) k v
variable-written b k v n h =
    let q = 76 + 2 * k in
    let room : q + 2 ≤ length b = omega arith in
    decode-variable _ b k v h (two-below b q _ _ room 0) (two-above b q _ _ room numbers_per_state) (two-first b q _ _ room) (two-second b q _ _ room)

pub owner-written : (b : List ℤ) (l o : ℕ) → length b ≡ numbers_per_state → l < most_locks → o < 256 → decode (set b (92 + l) (pos o)) ≡ with_owner (decode b) l o
owner-written b l o n h small =
    let at : byte_from (set b (92 + l) (pos o)) (92 + l) ≡ o = ap byte_of (get_or-set_same b (92 + l) (pos o) (pos 0) (omega arith)) ∙ byte-back o (omega arith) in
    decode-owner _ b l o h (λ k p q. get_or-set_other b (92 + l) k (pos o) (pos 0) (λ e. omega arith)) (λ k p q. get_or-set_other b (92 + l) k (pos o) (pos 0) (λ e. omega arith)) at

pub move-written : (b : List ℤ) (m : Move) → length b ≡ numbers_per_state → m.thread < most_threads → m.at < 256
    → decode (set (set (set b (m.thread * 19) (pos m.at)) (m.thread * 19 + 1) (pos m.clock.low.0)) (m.thread * 19 + 2) (pos m.clock.high.0))
    ≡ moved_to (decode b) m (thread_at (decode b) m.thread).regs
move-written b m n h small =
    let p = m.thread * 19 in
    let x = pos m.at in
    let y = pos m.clock.low.0 in
    let z = pos m.clock.high.0 in
    let other : (k : ℕ) → (k ≡ p + 2 → ⊥) → cell_at (set (set (set b p x) (p + 1) y) (p + 2) z) k ≡ cell_at (set (set b p x) (p + 1) y) k = (λ k e. get_or-set_other (set (set b p x) (p + 1) y) (p + 2) k z (pos 0) e) in
    let room : p + 2 ≤ length b = omega arith in
    moved-from _ b m h small
    (λ k i j. other k (λ e. omega arith) ∙ two-below b p x y room 0 k i j)
    (λ k i j. other k (λ e. omega arith) ∙ two-above b p x y room numbers_per_state k (omega arith) j)
    (other p (λ e. omega arith) ∙ two-first b p x y room)
    (other (p + 1) (λ e. omega arith) ∙ two-second b p x y room)
    (get_or-set_same (set (set b p x) (p + 1) y) (p + 2) z (pos 0) (simp length-set (omega arith)))

module _ (b : List ℤ) (s : State) (m : Move) (regs : List Span) (four : length s.threads ≡ most_threads) (h : m.thread < most_threads) (e : decode b ≡ moved_to s m regs) (n : length b ≡ numbers_per_state) where
  pub register-written : (k : ℕ) (v : Span) → k < most_registers
      → decode (set (set b (m.thread * 19 + 3 + 2 * k) v.low.0) (m.thread * 19 + 3 + 2 * k + 1) v.high.0) ≡ moved_to s m (set regs k v)
  register-written k v r =
      let q = m.thread * 19 + 3 + 2 * k in
      let room : q + 2 ≤ length b = omega arith in
      register-moved _ b s m regs four h e k v r (two-below b q _ _ room 0) (two-above b q _ _ room numbers_per_state) (two-first b q _ _ room) (two-second b q _ _ room)

  pub registers-written : (rs : List Span) → length rs ≡ most_registers
      → decode (put_mid (m.thread * 19 + 3) (m.thread * 19 + 3 + 16 - (m.thread * 19 + 3)) b (spans_cells rs)) ≡ moved_to s m rs
  unfolding spans_cells items
  registers-written rs eight =
      let q = m.thread * 19 + 3 in
      let c = put_mid q (q + 16 - q) b (spans_cells rs) in
      let long : length (spans_cells rs) ≡ q + 16 - q = omega (arith, spans-16 rs) in
      let rest = drop (q + 16 - q) (drop q b) in
      let front : length (take q b) ≡ q = length-take-le q b (omega arith) in
      let inside : (j : ℕ) → j < 16 → cell_at c (q + j) ≡ cell_at (spans_cells rs) j =
      (λ j r. ap (λ (i : ℕ). cell_at c (i + j)) (sym front) ∙ get_or-append-add (take q b) (spans_cells rs ++ rest) j (pos 0) ∙ get_or-append (spans_cells rs) rest (pos 0) j (omega (arith, spans-16 rs))) in
      let below : Same c b 0 q = (λ k i j. sym (get_or-take q c k (pos 0) j) ∙ ap (λ (l : List ℤ). cell_at l k) (take_put q (q + 16 - q) b (spans_cells rs) (omega arith)) ∙ get_or-take q b k (pos 0) j) in
      let above : Same c b (q + 16) numbers_per_state =
      (λ k i j. let d : q + 16 + (k - (q + 16)) ≡ k = omega arith in
      ap (cell_at c) (sym d) ∙ sym (get_or-drop (q + 16) c (k - (q + 16)) (pos 0)) ∙ ap (λ (l : List ℤ). cell_at l (k - (q + 16))) (drop_put q (q + 16) b (spans_cells rs) (omega arith) (omega arith) long)
      ∙ get_or-drop (q + 16) b (k - (q + 16)) (pos 0) ∙ ap (cell_at b) d) in
      let at : (j : ℕ) → j + 2 ≤ 16 → span_from c (q + j) ≡ record { low = record { 0 = cell_at (spans_cells rs) j }; high = record { 0 = cell_at (spans_cells rs) (j + 1) } } =
      (λ j r. let g : q + j + 1 ≡ q + (j + 1) = omega arith in λ i. record { low = record { 0 = inside j (omega arith) i }; high = record { 0 = (ap (cell_at c) g ∙ inside (j + 1) (omega arith)) i } }) in
      let zero-at : q ≡ q + 0 = omega arith in
      registers-moved c b s m regs four h e rs below (λ k i j. above k (omega arith) j)
      ((λ i. (ap (span_from c) zero-at ∙ at 0 (omega arith)) i ∷ at 2 (omega arith) i ∷ at 4 (omega arith) i ∷ at 6 (omega arith) i ∷ at 8 (omega arith) i ∷ at 10 (omega arith) i ∷ at 12 (omega arith) i ∷ at 14 (omega arith) i ∷ [])
      ∙ all-items rs zero_span 8 eight)
