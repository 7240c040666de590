-- A state's cells read back are the state.
use mathlib.Core.Path.{◌≡◌, refl, sym, ap, ◌∙◌}
use mathlib.Core.List.{List, [], ◌∷◌, ◌++◌}
use Prim.Native.Nat.{ℕ, zero, suc, ◌+◌, ◌*◌, ◌<◌, ◌≤◌, min}
use native.Mathlib.Omega.{arith}
use lib.ListN.{length, take, drop, get_or, length-take, length-append, length-drop, take-append-drop}
use lib.Seq.{take_at, drop_at, take-append-le, drop-append-le, length-take-le}
use lib.IntN.{ℤ}
use lib.Dec.{lit<}
use Rattle.rules.specs.Constants.{numbers_per_state}
use Rattle.state.specs.declared.Thread.{Thread}
use Rattle.state.specs.declared.State.{State}
use Rattle.interval.specs.Shape.{zero_span}
use Rattle.state.specs.Access.{thread_at, zero_thread}
use Rattle.state.specs.Cells.{encode, decode, with_slot, slot_of, Sound, thread_cells, thread_from}

-- n elements of l from the i-th on
unfoldable pub items : {A : Type 0} → List A → A → ℕ → ℕ → List A
items l d i zero = []
items l d i (suc n) = get_or l i d ∷ items l d (suc i) n

items-past : {A : Type 0} (x : A) (l : List A) (d : A) (i n : ℕ) → items (x ∷ l) d (suc i) n ≡ items l d i n
unfolding items
items-past x l d i zero = refl
items-past {A} x l d i (suc n) = ap (λ (r : List A). get_or l i d ∷ r) (items-past x l d (suc i) n)

pub all-items : {A : Type 0} (l : List A) (d : A) (n : ℕ) → length l ≡ n → items l d 0 n ≡ l
unfolding items
all-items [] d zero e = refl
all-items [] d (suc n) e = absurd (omega arith)
all-items (x ∷ l) d zero e = absurd (omega arith)
all-items {A} (x ∷ l) d (suc n) e = ap (λ (r : List A). x ∷ r) (items-past x l d 0 n ∙ all-items l d n (omega arith))

pub byte-back : (n : ℕ) → n ≤ 255 → min n 255 ≡ n
byte-back n h = omega arith

thread-back : (th : Thread) → length th.regs ≡ 8 → th.at ≤ 255 → thread_from (thread_cells th) 0 ≡ th
unfolding thread_cells items
thread-back th r a = λ i. record { at = byte-back th.at a i; clock = th.clock; regs = all-items th.regs zero_span 8 r i }

pub decode-encode : (s : State) → Sound s → decode (encode s) ≡ s
unfolding encode decode items thread_cells
decode-encode s w =
    (λ i. record {
      threads = thread-back (thread_at s 0) (w.regs 0 (lit< tt)) (w.ats 0 (lit< tt)) i ∷ thread-back (thread_at s 1) (w.regs 1 (lit< tt)) (w.ats 1 (lit< tt)) i ∷ thread-back (thread_at s 2) (w.regs 2 (lit< tt)) (w.ats 2 (lit< tt)) i ∷ thread-back (thread_at s 3) (w.regs 3 (lit< tt)) (w.ats 3 (lit< tt)) i ∷ [];
      vars = all-items s.vars zero_span 8 w.vars i;
      owners = byte-back (get_or s.owners 0 0) (w.owned 0 (lit< tt)) i ∷ byte-back (get_or s.owners 1 0) (w.owned 1 (lit< tt)) i ∷ byte-back (get_or s.owners 2 0) (w.owned 2 (lit< tt)) i ∷ byte-back (get_or s.owners 3 0) (w.owned 3 (lit< tt)) i ∷ byte-back (get_or s.owners 4 0) (w.owned 4 (lit< tt)) i ∷ byte-back (get_or s.owners 5 0) (w.owned 5 (lit< tt)) i ∷ byte-back (get_or s.owners 6 0) (w.owned 6 (lit< tt)) i ∷ byte-back (get_or s.owners 7 0) (w.owned 7 (lit< tt)) i ∷ [];
    })
    ∙ (λ i. record { threads = all-items s.threads zero_thread 4 w.four i; vars = s.vars; owners = all-items s.owners 0 8 w.owners i })

-- a slot lies in the first part of a list
slot-low : (p q : List ℤ) (j : ℕ) → j * numbers_per_state + numbers_per_state ≤ length p → slot_of (p ++ q) j ≡ slot_of p j
slot-low p q j h =
    let r : j * numbers_per_state ≤ length p = omega arith in
    let t : numbers_per_state ≤ length (drop (j * numbers_per_state) p) = simp length-drop (omega arith) in
    rw (drop-append-le (j * numbers_per_state) p q r, take-append-le numbers_per_state (drop (j * numbers_per_state) p) q t)

-- the slot whose numbers were replaced, and those below it
module _ (b : List ℤ) (k : ℕ) (cells : List ℤ) (full : length cells ≡ numbers_per_state) (room : k * numbers_per_state + numbers_per_state ≤ length b) where
  pub with-slot-length : length (with_slot b k cells) ≡ length b
  with-slot-length = simp (length-append, length-take, length-drop) (omega arith)

  pub slot_same : slot_of (with_slot b k cells) k ≡ cells
  slot_same =
      let e : length (take (k * numbers_per_state) b) ≡ k * numbers_per_state = length-take-le (k * numbers_per_state) b (omega arith) in
      ap (take numbers_per_state) (drop_at (take (k * numbers_per_state) b) (cells ++ drop (k * numbers_per_state + numbers_per_state) b) (k * numbers_per_state) e)
      ∙ take_at cells (drop (k * numbers_per_state + numbers_per_state) b) numbers_per_state full

  pub slot-below : (j : ℕ) → j < k → slot_of (with_slot b k cells) j ≡ slot_of b j
  slot-below j h =
      let e : length (take (k * numbers_per_state) b) ≡ k * numbers_per_state = length-take-le (k * numbers_per_state) b (omega arith) in
      slot-low (take (k * numbers_per_state) b) (cells ++ drop (k * numbers_per_state + numbers_per_state) b) j (omega arith)
      ∙ sym (slot-low (take (k * numbers_per_state) b) (drop (k * numbers_per_state) b) j (omega arith))
      ∙ ap (λ (l : List ℤ). slot_of l j) (take-append-drop (k * numbers_per_state) b)
