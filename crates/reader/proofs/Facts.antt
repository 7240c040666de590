-- What holds of a sheet that reads and of its index: `accepted`, `rejected`, `program-facts`, `index-facts`, the facts of a
-- thread and of a statement by number, and what `statement_at` asks of a place of the index. No code in it: later layers
-- cite these from the promise of `read_sheet`.
use Rattle.std.specs.Prelude.{if◌then◌else◌, Ok, Err}
use mathlib.Core.Path.{◌≡◌, refl, sym, ap, subst, ◌∙◌}
use mathlib.Core.Bool.{Bool, true, false, not}
use mathlib.Core.List.{List, [], ◌∷◌, ◌++◌}
use Prim.Native.Nat.{ℕ, ◌+◌, ◌-◌, ◌*◌, ◌<◌, ◌≤◌}
use native.Mathlib.Omega.{arith}
use lib.Dec.{leb, ltb, eqb, leb→le}
use lib.ListN.{length, get_or, length-append}
use borrow.Author.Tests.{leb-true, eqb-true, ltb-true, ltb-false}
use Rattle.rules.specs.Base.{Each, nil}
use Rattle.rules.specs.Constants.{longest_sheet, most_locks, most_threads, most_statements}
use Rattle.rules.specs.Refusal.{short, out_of_turn, too_long}
use Rattle.rules.specs.Program.{is_halt, Thread, Header, Program, no_statement, no_thread}
use Rattle.rules.specs.Format.{Bytes, byte, num32, Got, bad, got, wrong, more, done, has_head, header_fits, read_header, read_locks, variable_here, read_variables, read_thread, thread_here, read_threads, read_sheet}
use Rattle.rules.proofs.Base.{each_map, each-get}
use Rattle.rules.proofs.Format.{If, many-if, variables-ordered}
use Rattle.refusal.specs.declared.Fault.{Fault}
use Rattle.refusal.specs.Shape.{rule_of, fault_at}
use Rattle.field.specs.Ticks.{tick}
use Rattle.field.proofs.outcome.Laws.{fault-is}
use Rattle.reader.specs.declared.Index.{Index}
use Rattle.reader.specs.Index.{lay_places, no_places, entries_of, index_of}
use Rattle.reader.specs.Facts.{program_of, program_in, thread_in, statement_in, names_in, ranges, Ordered, Targets, StatementFacts, ThreadFacts, ProgramFacts, IndexFacts}
use Rattle.rules.specs.Fits.{HeaderFits}
use Rattle.rules.proofs.FieldBytes.{header-fits}
use Rattle.rules.proofs.IfAt.{IfAt, need-at, then_at, sized-at, due-at, any_at, both_at, with-reading, when-got, many-at, many-few}
use Rattle.reader.proofs.TableFacts.{lay_at, entry_at}
use Rattle.reader.proofs.ThreadFacts.{variables-row, variables-few, thread-facts}

-- ---- the header and the locks

header_at : (s : Bytes) → IfAt (λ (h : Header) (q : ℕ). (q ≡ 19) × HeaderFits h) (read_header s)
unfolding read_header
header_at s =
    due-at (λ (h : Header) (q : ℕ). (q ≡ 19) × HeaderFits h) 1 s 0 _
    (sized-at (λ (h : Header) (q : ℕ). (q ≡ 19) × HeaderFits h) s 0 16 (header_fits (num32 s 3) (num32 s 7) (num32 s 11) (num32 s 15)) _ (λ _ t. (refl, header-fits _ t)))

locks-at : (s : Bytes) (at : ℕ) → IfAt (λ (k q : ℕ). (q ≡ at + 4) × (k ≤ most_locks)) (read_locks s at)
unfolding read_locks
locks-at s at =
    due-at (λ (k q : ℕ). (q ≡ at + 4) × (k ≤ most_locks)) 3 s at _
    (sized-at (λ (k q : ℕ). (q ≡ at + 4) × (k ≤ most_locks)) s at 1 (leb (byte s (at + 3)) most_locks) (byte s (at + 3)) (λ _ t. (omega arith, leb→le (byte s (at + 3)) most_locks t)))

-- ---- the threads

done-head : (b c d : Bool) → (if not b then wrong short else if c then more else if d then done else wrong out_of_turn) ≡ done → b ≡ true
done-head true c d e = refl
done-head false c d e = let z : ◌≡◌ {A = ℕ} 0 1 = cc in absurd (omega arith)

-- behind the variables stands the first thread's header
pub thread-head : (s : Bytes) (p : ℕ) → variable_here s p ≡ done → p + 3 ≤ length s
unfolding variable_here has_head
thread-head s p e = leb-true (p + 3) (length s) (done-head (has_head s p) (eqb (byte s p) 2) (eqb (byte s p) 4) e)

-- threads are read up to the sheet's end, and there is none where that is where they begin
abbrev UpTo : ℕ → List Thread → ℕ → Type 0
UpTo at ts q = length ts ≡ 0 → q ≡ at

snoc-some : (ts : List Thread) (t : Thread) → length (ts ++ t ∷ []) ≡ 0 → ⊥
snoc-some ts t e = let n : length (ts ++ t ∷ []) ≡ length ts + 1 = simp length-append (omega arith) in omega arith

threads-upto : (vars locks : ℕ) (s : Bytes) (at : ℕ) → IfAt (λ ts q. UpTo at ts q × (thread_here s q ≡ done)) (read_threads vars locks s at)
unfolding read_threads
threads-upto vars locks s at =
    many-at (UpTo at) (λ n p. thread_here s p) (λ p. read_thread vars locks s p)
    (λ ts p h. with-reading (λ t q. UpTo at (ts ++ t ∷ []) q) (read_thread vars locks s p) (λ t q e n. absurd (snoc-some ts t n))) most_threads [] at (λ _. refl)

threads_few : (vars locks : ℕ) (s : Bytes) (at : ℕ) → IfAt (λ (ts : List Thread) q. length ts ≤ 0 + most_threads) (read_threads vars locks s at)
unfolding read_threads
threads_few vars locks s at = many-few (λ n p. thread_here s p) (λ p. read_thread vars locks s p) most_threads [] at

threads-facts : (vars locks : ℕ) (s : Bytes) (at : ℕ) → If (Each (ThreadFacts vars locks s)) (read_threads vars locks s at)
unfolding read_threads
threads-facts vars locks s at =
    many-if (ThreadFacts vars locks s) (λ n p. thread_here s p) (λ p. read_thread vars locks s p) (λ p. thread-facts vars locks s p) most_threads [] at nil

here_end : (s : Bytes) (q : ℕ) → thread_here s q ≡ done → q ≡ length s
unfolding thread_here
here_end s q e = by (eqb q (length s)) refl e
  where
    by : (b : Bool) → eqb q (length s) ≡ b → (if b then done else more) ≡ done → q ≡ length s
    by true h e = eqb-true q (length s) h
    by false h e = let z : ◌≡◌ {A = ℕ} 0 1 = cc in absurd (omega arith)

some-threads : (s : Bytes) (at : ℕ) (ts : List Thread) (q : ℕ) → at + 3 ≤ length s → UpTo at ts q → thread_here s q ≡ done → 1 ≤ length ts
some-threads s at [] q h u d = let e = here_end s q d in let z = u refl in absurd (omega arith)
some-threads s at (t ∷ ts) q h u d = omega arith

-- ---- the program

sheet-facts : (s : Bytes) → IfAt (λ g q. ProgramFacts s g) (read_sheet s)
unfolding read_sheet
sheet-facts s =
    let P : Program → ℕ → Type 0 = (λ g q. ProgramFacts s g) in
    need-at P (leb (length s) longest_sheet) too_long 0 _ (λ fits.
    then_at (λ (h : Header) (q : ℕ). (q ≡ 19) × HeaderFits h) P (read_header s) _ (header_at s) (λ h p hp.
    then_at (λ (k q : ℕ). (q ≡ p + 4) × (k ≤ most_locks)) P (read_locks s p) _ (locks-at s p) (λ k q kq.
    let F = read_variables s q in
    then_at _ P F _ (both_at _ _ F (variables-row s q) (both_at _ _ F (variables-few s q) (any_at (Each Ordered) F (variables-ordered s q)))) (λ vs r v.
    let G = read_threads (length vs) k s r in
    then_at _ P G _ (both_at _ _ G (threads-upto (length vs) k s r) (both_at _ _ G (threads_few (length vs) k s r) (any_at (Each (ThreadFacts (length vs) k s)) G (threads-facts (length vs) k s r)))) (λ ts e t.
    let a = hp.0 in let b = kq.0 in
    let m : q ≡ 23 = omega arith in
    let c = v.1.0 in let d = t.1.0 in
    record {
      fits = leb→le (length s) longest_sheet fits;
      header = hp.1;
      locks_few = kq.1;
      vars = v.0.0.0 ∙ ap (λ (j : ℕ). ranges s j (length vs)) m;
      vars_few = omega arith;
      vars_ordered = v.1.1;
      threads_some = some-threads s r ts e (thread-head s r v.0.1) t.0.0 t.0.1;
      threads_few = omega arith;
      threads = t.1.1;
    })))))

pub program-facts : (s : Bytes) (g : Program) (e : ℕ) → read_sheet s ≡ got g e → ProgramFacts s g
program-facts s g e q = when-got (λ g q. ProgramFacts s g) (read_sheet s) (sheet-facts s) g e q

pub program-is : (s : Bytes) (g : Program) (e : ℕ) → read_sheet s ≡ got g e → program_in s ≡ g
unfolding program_in
program-is s g e q = ap program_of q

module _ {s : Bytes} {g : Program} (f : ProgramFacts s g) (t : ℕ) (r : t < length g.threads) where
  pub thread-in : ThreadFacts (length g.vars) g.locks s (thread_in g t)
  thread-in = each-get (ThreadFacts (length g.vars) g.locks s) g.threads t no_thread f.threads r

  pub statement-in : (k : ℕ) → k < length (thread_in g t).statements → StatementFacts (names_in (length g.vars) g.locks (thread_in g t)) s (statement_in g t k)
  statement-in k b = each-get _ (thread_in g t).statements k no_statement thread-in.statements b

  pub target-in : (k : ℕ) → k < length (thread_in g t).statements → Targets (length (thread_in g t).statements) (statement_in g t k).action
  target-in k b = each-get (λ x. Targets (length (thread_in g t).statements) x.action) (thread_in g t).statements k no_statement thread-in.targets b

  -- a statement that is not halt has one behind it
  pub next-in : (k : ℕ) → k < length (thread_in g t).statements → is_halt (statement_in g t k).action ≡ false → k + 1 < length (thread_in g t).statements
  next-in k b h = by (ltb (k + 1) (length (thread_in g t).statements)) refl
    where
      by : (c : Bool) → ltb (k + 1) (length (thread_in g t).statements) ≡ c → k + 1 < length (thread_in g t).statements
      by true e = ltb-true (k + 1) (length (thread_in g t).statements) e
      by false e =
          let n = ltb-false (k + 1) (length (thread_in g t).statements) e in
          let last : length (thread_in g t).statements - 1 ≡ k = omega arith in
          let halts : is_halt (statement_in g t k).action ≡ true =
          subst (λ (j : ℕ). is_halt (get_or (thread_in g t).statements j no_statement).action ≡ true) last thread-in.last_halts_lem in
          let z : ◌≡◌ {A = ℕ} 0 1 = cc in absurd (omega arith)

-- ---- the index

-- the index of a program
abbrev index_in : Program → Index
index_in g = record {
  limit = tick g.header.limit;
  budget = g.header.budget;
  label_low = tick g.header.label_low;
  label_high = tick g.header.label_high;
  locks = g.locks;
  variables = length g.vars;
  threads = length g.threads;
  entries = entries_of g.threads;
  places = lay_places 0 g.threads no_places;
}

facts-of-got : (s : Bytes) (g : Program) → ProgramFacts s g → IndexFacts s g (index_in g)
facts-of-got s g f =
    let n = f.threads_few in
    record {
      limit = refl;
      budget = refl;
      label_low_lem = refl;
      label_high_lem = refl;
      locks = refl;
      variables = refl;
      threads = refl;
      entries = λ t r. entry_at g.threads t n r;
      places = λ t k r b.
          let i : t * most_statements + k ≡ (0 + t) * most_statements + k = omega arith in
          ap (λ (j : ℕ). get_or (lay_places 0 g.threads no_places) j 0) i
          ∙ lay_at 0 g.threads no_places t k (each_map (λ x a. a.few) f.threads) r b (omega arith);
    }

pub index-facts : {s : Bytes} {i : Index} (g : Program) (e : ℕ) → index_of (read_sheet s) ≡ Ok i → read_sheet s ≡ got g e → IndexFacts s g i
unfolding index_of
index-facts {s} {i} g e h q =
    let same : index_of (got g e) ≡ Ok i = sym (ap index_of q) ∙ h in
    let w : index_in g ≡ i = cc in
    subst (IndexFacts s g) w (facts-of-got s g (program-facts s g e q))

-- statement k of thread t, by the place that the index has for it: what `statement_at` asks
module _ {s : Bytes} {g : Program} {i : Index} (f : ProgramFacts s g) (x : IndexFacts s g i)
    (t k : ℕ) (r : t < length g.threads) (b : k < length (thread_in g t).statements) where
  pub place-head : get_or i.places (t * most_statements + k) 0 + 8 ≤ length s
  place-head = subst (λ (p : ℕ). p + 8 ≤ length s) (sym (x.places t k r b)) (statement-in f t r k b).head

-- there is an index: the sheet reads as a program
pub accepted : {i : Index} (G : Got Program) → index_of G ≡ Ok i → (g : Program) × (e : ℕ) × (G ≡ got g e)
unfolding index_of
accepted (bad r p) h = absurd (cc)
accepted (got g e) h = (g, e, refl)

-- there is none: the rules give that refusal at that place
pub rejected : {f : Fault} (G : Got Program) → index_of G ≡ Err f → G ≡ bad (rule_of f.refusal) f.place
unfolding index_of
rejected {f} (bad r p) h = let e : f ≡ fault_at r p = cc in let w = fault-is r p e in λ j. bad (w.0 j) (w.1 j)
rejected (got g e) h = absurd (cc)
