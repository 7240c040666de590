-- The starting state: the ranges of a sheet as registers and variables, and the whole state as the rules' start.
use Rattle.std.specs.Prelude.{Ok}
use Rattle.std.proofs.Common.{inl, inr}
use Rattle.std.specs.Array.{list_steps}
use Rattle.std.specs.Iterator.{Yields, CallableAtEachTurn}
use Rattle.std.proofs.lemmas.Bool.{cases_lt}
use Rattle.std.proofs.lemmas.Fn.{serves_by}
use Rattle.std.proofs.lemmas.List.{get_or-replicate}
use mathlib.Core.Path.{◌≡◌, refl, sym, ap, subst, ◌∙◌}
use mathlib.Core.List.{List, [], ◌∷◌, ◌++◌, map}
use mathlib.Core.Option.{none}
use Prim.Native.Nat.{ℕ, zero, suc, ◌+◌, ◌*◌, ◌<◌, ◌≤◌}
use native.Mathlib.Omega.{arith}
use native.Mathlib.Nat.{not-suc-le-zero, le_of_suc-le-suc}
use native.Mathlib.Numerals.{add-one}
use lib.ListN.{length, get_or, set, replicate, length-map}
use lib.Seq.{sets, get_or-set_other}
use Rattle.rules.specs.Constants.{most_threads, most_registers, most_locks}
use Rattle.rules.specs.Interval.{Interval}
use Rattle.rules.specs.Lock.{Owner}
use Rattle.rules.specs.Program as P
use Rattle.rules.specs.Program.{Program, no_thread}
use Rattle.rules.specs.Format.{Bytes, got, read_sheet}
use Rattle.rules.specs.Search as S
use Rattle.interval.specs.declared.Span.{Span}
use Rattle.interval.specs.Shape.{interval_of}
use Rattle.expression.specs.Evaluation.{regs_of}
use Rattle.rules.proofs.Base.{each-get}
use Rattle.reader.specs.declared.Index.{Index}
use Rattle.reader.specs.declared.threads.ThreadEntry.{ThreadEntry}
use Rattle.reader.specs.Index.{no_entry, entry_of, entries_of, index_of}
use Rattle.reader.specs.Facts.{range_at, ranges, thread_in}
use Rattle.reader.proofs.Facts.{program-facts, index-facts, thread-in, accepted}
use Rattle.state.specs.declared.Thread.{Thread}
use Rattle.state.specs.Access.{zero_thread}
use Rattle.state.specs.Shape.{thread_of, threads_of, owners_of, sizes_of, state_of}
use Rattle.state.specs.Start.{EntryFits, starts_with, ThreadStarts}
use Rattle.reader.proofs.Room.{RegsInside, ranges-inside}

-- ---- one more range

ranges-snoc : (s : Bytes) (p k : ℕ) → ranges s p (suc k) ≡ ranges s p k ++ (range_at s (p + 11 * k) ∷ [])
unfolding ranges
ranges-snoc s p zero = let e : p ≡ p + 11 * 0 = omega arith in ap (λ (q : ℕ). range_at s q ∷ []) e
ranges-snoc s p (suc k) =
    let e : p + 11 + 11 * k ≡ p + 11 * suc k = omega arith in
    ap (λ (l : List Interval). range_at s p ∷ l) (ranges-snoc s (p + 11) k ∙ ap (λ (q : ℕ). ranges s (p + 11) k ++ (range_at s q ∷ [])) e)

regs_snoc : (l : List Span) (i : ℕ) (v : Span) → i < length l → regs_of (suc i) (set l i v) ≡ regs_of i l ++ (interval_of v ∷ [])
unfolding regs_of
regs_snoc [] i v h = absurd (not-suc-le-zero h)
regs_snoc (x ∷ l) zero v h = refl
regs_snoc (x ∷ l) (suc i) v h = ap (λ (r : List Interval). interval_of x ∷ r) (regs_snoc l i v (le_of_suc-le-suc h))

-- the next range becomes the next register
pub range-put : (s : Bytes) (p i : ℕ) (l : List Span) (v : Span) → i < length l → regs_of i l ≡ ranges s p i → interval_of v ≡ range_at s (p + 11 * i)
    → regs_of (i + 1) (set l i v) ≡ ranges s p (i + 1)
range-put s p i l v h q e = rw add-one (regs_snoc l i v h ∙ (λ j. q j ++ (e j ∷ [])) ∙ sym (ranges-snoc s p i))

pub no-ranges : (s : Bytes) (p : ℕ) (l : List Span) → regs_of 0 l ≡ ranges s p 0
unfolding regs_of ranges
no-ranges s p l = refl

-- ---- threads and owners

threads_start : (ts : List P.Thread) (xs : List Thread) → length ts ≤ length xs
    → ((t : ℕ) → t < length ts → thread_of (length (get_or ts t no_thread).regs) (get_or xs t zero_thread) ≡ starts_with (get_or ts t no_thread).regs)
    → threads_of (map (λ (t : P.Thread). length t.regs) ts) xs ≡ map (λ (t : P.Thread). starts_with t.regs) ts
unfolding threads_of
threads_start [] xs h f = refl
threads_start (t ∷ ts) [] h f = absurd (not-suc-le-zero h)
threads_start (t ∷ ts) (x ∷ xs) h f = λ i. f 0 (omega arith) i ∷ threads_start ts xs (le_of_suc-le-suc h) (λ k r. f (suc k) (omega arith)) i

none_owned : (n m : ℕ) → n ≤ m → owners_of n (replicate m 0) ≡ replicate n none
unfolding owners_of
none_owned zero m h = refl
none_owned (suc n) zero h = absurd (not-suc-le-zero h)
none_owned (suc n) (suc m) h = ap (λ (r : List Owner). none ∷ r) (none_owned n m (le_of_suc-le-suc h))

-- ---- the entries of an index: those behind the threads' are empty

sets-above : {A : Type 0} (d : A) (l : List A) (i : ℕ) (xs : List A) (j : ℕ) → i + length xs ≤ j → get_or (sets l i xs) j d ≡ get_or l j d
sets-above d l i [] j h = refl
sets-above d l i (x ∷ xs) j h = sets-above d (set l i x) (suc i) xs j (omega arith) ∙ get_or-set_other l i j x d (λ e. omega arith)

no-entry-at : (ts : List P.Thread) (t : ℕ) → t < most_threads → length ts ≤ t → get_or (entries_of ts) t no_entry ≡ no_entry
no-entry-at ts t h r =
    sets-above no_entry (replicate most_threads no_entry) 0 (map entry_of ts) t (omega (arith, length-map ts entry_of))
    ∙ get_or-replicate most_threads t no_entry no_entry h

entries-are : {i : Index} (g : Program) (e : ℕ) → index_of (got g e) ≡ Ok i → entries_of g.threads ≡ i.entries
unfolding index_of
entries-are g e h = cc

-- ---- a call at each element of an array

-- the next element behind those that were taken
element : {A : Type 0} (d : A) (l xs t u : List A) (x : A) → Yields list_steps l xs t → t ≡ x ∷ u → (length xs < length l) × (get_or l (length xs) d ≡ x)
element d l [] t u x y e = rw (y, e) (omega arith, refl)
element d l (z ∷ zs) t u x y e = let h = element d y.0 zs t u x y.2 e in rw y.1 (omega (arith, h.0), h.1)

-- what holds of each element may be asked at each call, where a call leaves what is called as it was
pub asked-of-each : {A P : Type 0} (R : P → A → P → Type 0) (Q : P → A → Type 0) (d : A) (l : List A) (p : P)
    → ((q : P) (x : A) (v : P) → R q x v → v ≡ q) → ((k : ℕ) → k < length l → Q p (get_or l k d)) → CallableAtEachTurn list_steps R Q l p
asked-of-each {A} {P} R Q d l p same each =
    serves_by R (λ xs q. q ≡ p) (λ xs q x v j r. same q x v r ∙ j) list_steps Q l p refl
    (λ xs t q x u y z j. let h = element d l xs t u x y z in subst (λ (v : P). Q v x) (sym j) (subst (Q p) h.1 (each (length xs) h.0)))

-- ---- the sheet, by its index

module _ (s : Bytes) (i : Index) (is : index_of (read_sheet s) ≡ Ok i) where
  pub entries-fit : (t : ℕ) → t < most_threads → EntryFits s (get_or i.entries t no_entry)
  entries-fit t h =
      let a = accepted (read_sheet s) is in
      let g = a.0 in
      let f = program-facts s g a.1 a.2 in
      let inside = ranges-inside s g a.1 a.2 in
      elim (cases_lt t (length g.threads)) [
        | inl r ↦ subst (EntryFits s) (sym ((index-facts g a.1 is a.2).entries t r)) (record {
          few = (thread-in f t r).regs_few;
          room = each-get (RegsInside s) g.threads t no_thread inside.regs r;
        })
        | inr r ↦ subst (EntryFits s) (sym (ap (λ (l : List ThreadEntry). get_or l t no_entry) (sym (entries-are g a.1 (ap index_of (sym a.2) ∙ is))) ∙ no-entry-at g.threads t h r)) (record {
          few = omega arith;
          room = omega (arith, inside.vars);
        })
      ]

  pub variables-fit : (23 + 11 * i.variables ≤ length s) × (i.variables ≤ most_registers)
  variables-fit =
      let a = accepted (read_sheet s) is in
      let n = (index-facts a.0 a.1 is a.2).variables in
      let w = (ranges-inside s a.0 a.1 a.2).vars in
      let few = (program-facts s a.0 a.1 a.2).vars_few in
      (omega arith, omega arith)

  pub state-starts : (g : Program) (e : ℕ) → read_sheet s ≡ got g e → (xs : List Thread) (vs : List Span) → length xs ≡ most_threads
      → ((t : ℕ) → t < most_threads → ThreadStarts s (get_or i.entries t no_entry) (get_or xs t zero_thread))
      → regs_of i.variables vs ≡ ranges s 23 i.variables
      → state_of (sizes_of g) (record { threads = xs; vars = vs; owners = replicate most_locks 0 }) ≡ S.start g
  unfolding state_of sizes_of S.start
  state-starts g e reads xs vs four ts v =
      let f = program-facts s g e reads in
      let x = index-facts g e is reads in
      let few = f.threads_few in
      let one : (t : ℕ) → t < length g.threads → thread_of (length (thread_in g t).regs) (get_or xs t zero_thread) ≡ starts_with (thread_in g t).regs =
      (λ t r. subst (λ (y : ThreadEntry). ThreadStarts s y (get_or xs t zero_thread)) (x.entries t r) (ts t (omega arith))
      ∙ ap starts_with (sym (thread-in f t r).regs)) in
      λ j. record {
        threads = threads_start g.threads xs (omega arith) one j;
        vars = (subst (λ (k : ℕ). regs_of k vs ≡ ranges s 23 k) x.variables v ∙ sym f.vars) j;
        owners = none_owned g.locks most_locks f.locks_few j;
      }
