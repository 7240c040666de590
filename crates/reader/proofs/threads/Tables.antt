-- All threads, and the two tables of an index: the places of their statements and an entry for each.
use Rattle.std.specs.Prelude.{◌≡◌, true, false, ltb, ℕ, suc, ◌+◌, ◌-◌, ◌*◌, ◌≤◌, List, [], ◌∷◌, ◌++◌, length, take, drop, set, replicate, Result, Ok, Err}
use Rattle.std.proofs.Common.{refl, sym, ap, subst, ◌∙◌, arith}
use Rattle.std.proofs.lemmas.List.Edits.{sets, sets-eq}
use Rattle.std.proofs.Math.ListN.{drop_of_length-le}
use Rattle.std.proofs.Math.Seq.{take_all}
use Rattle.std.proofs.lemmas.List.{length-map, length-drop, drop-drop, append-nil, append_assoc}
use borrow.Author.Tests.{eq-eqb, ne_eqb, ltb-true}
use borrow.Rule.Slice.PartMut.{mid_of, put_mid}
use Rattle.rules.specs.Constants.{most_threads, most_statements}
use Rattle.rules.specs.Program.{Statement, Thread}
use Rattle.rules.specs.Format.{Bytes, byte, Got, bad, got, read_thread, thread_here, read_threads}
use Rattle.refusal.specs.declared.Refusal.TheVariants.{TooMany}
use Rattle.refusal.specs.declared.Fault.{Fault}
use Rattle.refusal.specs.Shape.{rule_of, fault_at}
use Rattle.field.specs.declared.outcome.Counted.{Counted}
use Rattle.field.specs.Outcome.{needed, end_of, next_of}
use Rattle.field.proofs.outcome.Laws.{needed-held, fault-back}
use Rattle.field.proofs.Loops.{Turn, turn-done, turn-full, turn-bad, turn-well, turn-items}
use Rattle.reader.specs.declared.threads.ThreadEntry.{ThreadEntry}
use Rattle.reader.specs.declared.threads.Threads.{Threads}
use Rattle.reader.specs.Index.{places_of, lay_places, entry_with, no_entry, entry_of, entries_of, ThreadRead, ThreadsRead}
use Rattle.reader.proofs.Filled.{table_more}
use Rattle.reader.proofs.threads.Laws.{Opened, opened}

-- ---- a row of the table of places, written and put back

row-sets : (a : ℕ) (m vs k : List ℕ) → a + length vs ≤ length m → k ≡ sets (mid_of a (length m - a) m) 0 vs → put_mid a (length m - a) m k ≡ sets m a vs
row-sets a m vs k fits e =
    let n = length-drop a m in
    let j : a + (0 + length vs) ≡ a + length vs = omega arith in
    let row : mid_of a (length m - a) m ≡ drop a m = take_all (length m - a) (drop a m) (omega arith) in
    let none : drop (length m - a) (drop a m) ≡ [] = drop_of_length-le (drop a m) (omega arith) in
    let new : k ≡ vs ++ drop (a + length vs) m =
    e ∙ ap (λ (r : List ℕ). sets r 0 vs) row ∙ sets-eq vs (drop a m) 0 (omega arith)
    ∙ ap (λ (r : List ℕ). vs ++ r) (drop-drop (0 + length vs) a m ∙ ap (λ (q : ℕ). drop q m) j) in
    (λ i. take a m ++ (new i ++ none i)) ∙ ap (λ (r : List ℕ). take a m ++ r) (append-nil _)
    ∙ sym (append_assoc (take a m) vs _) ∙ sym (sets-eq vs m a fits)

lay-snoc : (t : ℕ) (xs : List Thread) (x : Thread) (l : List ℕ)
    → lay_places t (xs ++ x ∷ []) l ≡ sets (lay_places t xs l) ((t + length xs) * most_statements) (places_of x.statements)
unfolding lay_places
lay-snoc t [] x l = let e : t ≡ t + 0 = omega arith in ap (λ (i : ℕ). sets l (i * most_statements) (places_of x.statements)) e
lay-snoc t (y ∷ ys) x l =
    let e : suc t + length ys ≡ t + suc (length ys) = omega arith in
    let k = sets l (t * most_statements) (places_of y.statements) in
    lay-snoc (suc t) ys x k ∙ ap (λ (i : ℕ). sets (lay_places (suc t) ys k) (i * most_statements) (places_of x.statements)) e

-- ---- the loop

-- n threads were read, up to p: the table l became m, and es are their entries
pub record ThreadsSoFar (vars locks : ℕ) (s : Bytes) (at : ℕ) (l m : List ℕ) (es : List ThreadEntry) (n p : ℕ) : Type 0 where
  pub turn : Turn (λ n p. thread_here s p) (λ p. read_thread vars locks s p) most_threads (read_threads vars locks s at) n p
  pub places : m ≡ lay_places 0 turn.items l
  pub entries : es ≡ entries_of turn.items

pub threads_start : (vars locks : ℕ) (s : Bytes) (at : ℕ) (l : List ℕ) → ThreadsSoFar vars locks s at l l (replicate most_threads no_entry) 0 at
unfolding read_threads lay_places
threads_start vars locks s at l = record { turn = record { items = []; count = refl; top = omega arith; rest = refl }; places = refl; entries = refl }

here-done : (s : Bytes) (p : ℕ) → p ≡ length s → Ok false ≡ next_of p (thread_here s p)
unfolding thread_here
here-done s p e = rw (eq-eqb p (length s) e)

here-more : (s : Bytes) (p : ℕ) → (p ≡ length s → ⊥) → Ok true ≡ next_of p (thread_here s p)
unfolding thread_here
here-more s p e = rw (ne_eqb p (length s) e)

module _ {G : Got (List Thread)} (l m : List ℕ) where
  read-failed : {f : Fault} {x : Result Threads Fault} → x ≡ Err f → G ≡ bad (rule_of f.refusal) f.place → ThreadsRead G l m x
  read-failed {f} {x} h e = subst (λ (g : Got (List Thread)). ThreadsRead g l m x) (sym e) (h ∙ ap Err (sym (fault-back f)))

  read_found : {ts : List Thread} {n p : ℕ} {es : List ThreadEntry} → G ≡ got ts p → length ts ≡ n → m ≡ lay_places 0 ts l → es ≡ entries_of ts
      → ThreadsRead G l m (Ok (record { count = n; entries = es }))
  read_found {n = n} {es = es} e len f h =
      subst (λ (u : Got (List Thread)). ThreadsRead u l m (Ok (record { count = n; entries = es }))) (sym e)
      ((λ i. Ok (record { count = sym len i; entries = h i })), f)

-- what the code's answer on a thread says of where it ends
thread-end : (g : Got Thread) (l m : List ℕ) {f : Fault} → ThreadRead g l m (Err f) → Err f ≡ end_of g
thread-end (bad r p) l m {f} h = let e : f ≡ fault_at r p = cc in ap Err e
thread-end (got t q) l m h = absurd (cc)

-- a thread of c.count statements, which ends at c.end, with their places at the front of the table
record Stored (g : Got Thread) (l m : List ℕ) (c : Counted) : Type 0 where
  thread : Thread
  reads : g ≡ got thread c.end
  count : length thread.statements ≡ c.count
  table : m ≡ sets l 0 (places_of thread.statements)
  few : length thread.statements ≤ most_statements

stored : (g : Got Thread) (l m : List ℕ) {c : Counted} → ThreadRead g l m (Ok c) → Stored g l m c
stored (bad r p) l m h = absurd (cc)
stored (got t q) l m {c} h =
    let e : c ≡ record { count = length t.statements; end = q } = cc in
    record { thread = t; reads = ap (λ (c : Counted). got t c.end) (sym e); count = ap (λ (c : Counted). c.count) (sym e); table = h.1; few = h.2 }

module _ {vars locks : ℕ} {s : Bytes} {at : ℕ} {l m : List ℕ} {es : List ThreadEntry} {n p : ℕ} (i : ThreadsSoFar vars locks s at l m es n p) where
  pub threads-done : p ≡ length s → ThreadsRead (read_threads vars locks s at) l m (Ok (record { count = n; entries = es }))
  threads-done f = read_found l m (turn-done i.turn (here-done s p f) refl) i.turn.count i.places i.entries

  module _ (f : p ≡ length s → ⊥) where
    pub threads-full : {x : Result Threads Fault} {e : Fault} → x ≡ Err e → Err e ≡ needed (ltb n most_threads) TooMany p → ThreadsRead (read_threads vars locks s at) l m x
    threads-full h y = read-failed l m h (turn-full i.turn (here-more s p f) refl y)

    module _ (y : Ok tt ≡ needed (ltb n most_threads) TooMany p) (r k : List ℕ) where
      pub threads-failed : {x : Result Threads Fault} {e : Fault} (w : List ℕ) → x ≡ Err e → ThreadRead (read_thread vars locks s p) r k (Err e)
          → ThreadsRead (read_threads vars locks s at) l w x
      threads-failed w h b =
          read-failed l w h (turn-bad i.turn (here-more s p f) refl y (thread-end (read_thread vars locks s p) r k b))

      module _ (c : Counted) (b : ThreadRead (read_thread vars locks s p) r k (Ok c)) where
        w : Stored (read_thread vars locks s p) r k c
        w = stored (read_thread vars locks s p) r k b

        o : Opened s p w.thread
        o = opened vars locks s p w.thread c.end w.reads

        pub entry-room : (p + 3 ≤ length s) × (c.count ≤ most_statements)
        entry-room = let h = w.few in let j = w.count in (o.room, omega arith)

        pub threads_more : (e : ThreadEntry) → r ≡ mid_of (n * most_statements) (length m - n * most_statements) m → most_threads * most_statements ≤ length m
            → e ≡ entry_with p (byte s (p + 3)) c.count
            → ThreadsSoFar vars locks s at l (put_mid (n * most_statements) (length m - n * most_statements) m k) (set es n e) (n + 1) c.end
        threads_more e row room h =
            let ts = i.turn.items in
            let t = w.thread in
            let t' = turn-well i.turn (here-more s p f) refl y t w.reads in
            let same : ts ++ t ∷ [] ≡ t'.items = sym (turn-items i.turn (here-more s p f) refl y t w.reads) in
            let j = i.turn.count in
            let below = ltb-true n most_threads (needed-held (ltb n most_threads) TooMany p y) in
            let few = w.few in
            let len : length (places_of t.statements) ≡ length t.statements = length-map t.statements (λ (x : Statement). x.place) in
            let z : n ≡ 0 + n = omega arith in
            let at_row : n * most_statements ≡ (0 + length ts) * most_statements = omega arith in
            let entry : entry_of t ≡ e = (λ i. entry_with (o.there i) (o.count i) (w.count i)) ∙ sym h in
            record {
              turn = t';
              places =
                  row-sets (n * most_statements) m (places_of t.statements) k (omega arith) (w.table ∙ ap (λ (q : List ℕ). sets q 0 (places_of t.statements)) row)
                  ∙ (λ u. sets (i.places u) (at_row u) (places_of t.statements)) ∙ sym (lay-snoc 0 ts t l)
                  ∙ ap (λ (xs : List Thread). lay_places 0 xs l) same;
              entries =
                  ap (λ (u : ℕ). set es u e) z
                  ∙ table_more entry_of (replicate most_threads no_entry) es 0 n ts t e i.turn.count i.entries entry
                  ∙ ap entries_of same;
            }
