-- The tables of an index, element by element: what stands in a row of places, and the entry of a thread.
use mathlib.Core.Path.{◌≡◌, refl, sym, ap, subst, ◌∙◌}
use mathlib.Core.List.{List, [], ◌∷◌, map}
use Prim.Native.Nat.{ℕ, zero, suc, ◌+◌, ◌*◌, ◌<◌, ◌≤◌}
use native.Mathlib.Nat.{suc-mul, mul-le-mul_right}
use native.Mathlib.Omega.{arith}
use lib.ListN.{length, get_or, set, length-set, replicate, get_or-map}
use lib.Seq.{sets, length-sets, get_or-set_same, get_or-set_other}
use Rattle.rules.specs.Base.{Each, ◌&◌}
use Rattle.rules.specs.Constants.{most_threads, most_statements}
use Rattle.rules.specs.Program.{Statement, Thread, no_statement, no_thread}
use Rattle.reader.specs.Index.{places_of, lay_places, no_entry, entry_of, entries_of}
use Rattle.std.proofs.lemmas.List.{length-map}

module _ {B : Type 0} (d : B) where
  sets_below : (l : List B) (i : ℕ) (vs : List B) (j : ℕ) → j < i → get_or (sets l i vs) j d ≡ get_or l j d
  sets_below l i [] j h = refl
  sets_below l i (v ∷ vs) j h = sets_below (set l i v) (suc i) vs j (omega arith) ∙ get_or-set_other l i j v d (λ e. absurd (omega arith))

  sets-in : (l : List B) (i : ℕ) (vs : List B) (k : ℕ) → k < length vs → i + length vs ≤ length l → get_or (sets l i vs) (i + k) d ≡ get_or vs k d
  sets-in l i [] k h r = absurd (omega arith)
  sets-in l i (v ∷ vs) zero h r =
      let e : i + 0 ≡ i = omega arith in
      ap (λ (j : ℕ). get_or (sets (set l i v) (suc i) vs) j d) e ∙ sets_below (set l i v) (suc i) vs i (omega arith) ∙ get_or-set_same l i v d (omega arith)
  sets-in l i (v ∷ vs) (suc k) h r =
      let e : i + suc k ≡ suc i + k = omega arith in
      ap (λ (j : ℕ). get_or (sets (set l i v) (suc i) vs) j d) e ∙ sets-in (set l i v) (suc i) vs k (omega arith) (omega (arith, length-set l i v))

row-end : (t n w : ℕ) → suc t * w ≤ (t + suc n) * w
row-end t n w = let h : suc t ≤ t + suc n = omega arith in mul-le-mul_right w h

lay-below : (t : ℕ) (ts : List Thread) (l : List ℕ) (j : ℕ) → j < t * most_statements → get_or (lay_places t ts l) j 0 ≡ get_or l j 0
unfolding lay_places
lay-below t [] l j h = refl
lay-below t (x ∷ xs) l j h =
    lay-below (suc t) xs (sets l (t * most_statements) (places_of x.statements)) j (omega (arith, suc-mul t most_statements))
    ∙ sets_below 0 l (t * most_statements) (places_of x.statements) j h

abbrev place : Statement → ℕ
place x = x.place

pub lay_at : (t : ℕ) (ts : List Thread) (l : List ℕ) (u k : ℕ) → Each (λ x. length x.statements ≤ most_statements) ts → u < length ts
    → k < length (get_or ts u no_thread).statements → (t + length ts) * most_statements ≤ length l
    → get_or (lay_places t ts l) ((t + u) * most_statements + k) 0 ≡ (get_or (get_or ts u no_thread).statements k no_statement).place
unfolding lay_places
lay_at t [] l u k a h i r = absurd (omega arith)
lay_at t (x ∷ xs) l zero k (a & b) h i r =
    let e : t + 0 ≡ t = omega arith in
    let m = suc-mul t most_statements in
    let z = row-end t (length xs) most_statements in
    let c = length-map x.statements place in
    let w = sets l (t * most_statements) (places_of x.statements) in
    ap (λ (j : ℕ). get_or (lay_places (suc t) xs w) (j * most_statements + k) 0) e
    ∙ lay-below (suc t) xs w (t * most_statements + k) (omega arith)
    ∙ sets-in 0 l (t * most_statements) (places_of x.statements) k (omega arith) (omega arith)
    ∙ get_or-map place x.statements k no_statement
lay_at t (x ∷ xs) l (suc u) k (a & b) h i r =
    let e : t + suc u ≡ suc t + u = omega arith in
    let n : t + suc (length xs) ≡ suc t + length xs = omega arith in
    let w = sets l (t * most_statements) (places_of x.statements) in
    ap (λ (j : ℕ). get_or (lay_places (suc t) xs w) (j * most_statements + k) 0) e
    ∙ lay_at (suc t) xs w u k b (omega arith) i
    (subst (λ (j : ℕ). j * most_statements ≤ length w) n (subst (λ (j : ℕ). (t + suc (length xs)) * most_statements ≤ j) (sym (length-sets l (t * most_statements) (places_of x.statements))) r))

pub entry_at : (ts : List Thread) (t : ℕ) → length ts ≤ most_threads → t < length ts → get_or (entries_of ts) t no_entry ≡ entry_of (get_or ts t no_thread)
entry_at ts t few r =
    let e : t ≡ 0 + t = omega arith in
    let n = length-map ts entry_of in
    ap (λ (j : ℕ). get_or (entries_of ts) j no_entry) e
    ∙ sets-in no_entry (replicate most_threads no_entry) 0 (map entry_of ts) t (omega arith) (omega arith)
    ∙ get_or-map entry_of ts t no_thread
