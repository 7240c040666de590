-- The rows of a sheet and their bytes: variables up to the first thread, and threads up to the sheet's end.
use Rattle.std.specs.Prelude.{if◌then◌else◌}
use mathlib.Core.Path.{◌≡◌, refl, sym, ap, subst, ◌∙◌}
use mathlib.Core.Bool.{Bool, true, false, not}
use mathlib.Core.List.{List, [], ◌∷◌, ◌++◌}
use Prim.Native.Nat.{ℕ, ◌+◌, ◌≤◌, ◌<◌}
use native.Mathlib.Omega.{arith}
use lib.Dec.{T, leb, eqb, leb→le, eqb→eq}
use lib.ListN.{length}
use borrow.Author.Tests.{le-leb, eq-eqb, ne_eqb}
use Rattle.rules.specs.Base.{Each}
use Rattle.rules.specs.Refusal.{short, out_of_turn}
use Rattle.rules.specs.Constants.{most_variables, most_threads}
use Rattle.rules.specs.Interval.{Interval}
use Rattle.rules.specs.Program.{Thread}
use Rattle.rules.specs.Format.{Bytes, AreBytes, byte, Got, bad, got, Here, wrong, more, done, has_head, read_range, variable_here, read_variables, read_thread, thread_here, read_threads}
use Rattle.rules.specs.Encoding.{field, in_row, encode_value, encode_range, encode_opening, encode_statement, encode_thread, placed_row, placed_thread, placed}
use Rattle.rules.specs.Fits.{RangeFits, ThreadFits}
use Rattle.rules.proofs.IfAt.{IfAt, when-got}
use Rattle.rules.proofs.Stands.{Stands, stands-left, field-tag}
use Rattle.rules.proofs.FieldBytes.{RangeAt, range_at_lem, range-reads}
use Rattle.rules.proofs.Row.{Row, RowBehind, many-row, row_reads, row_at, row_of, placed-length, unplaced}
use Rattle.rules.proofs.StatementRow.{Ends, at_end, at_thread}
use Rattle.rules.proofs.ThreadBytes.{ThreadAt, thread-at, thread-reads}

-- ---- variables

-- what a place says of itself where a variable may stand
abbrev pub VariableSays : Bytes → ℕ → Here → Type 0
VariableSays s p (wrong r) = Unit {0}
VariableSays s p more = byte s p ≡ 2
VariableSays s p done = (p + 3 ≤ length s) × (byte s p ≡ 4)

pub variable-says : (s : Bytes) (p : ℕ) → VariableSays s p (variable_here s p)
unfolding variable_here has_head
variable-says s p = by (leb (p + 3) (length s)) (eqb (byte s p) 2) (eqb (byte s p) 4) (λ t. leb→le (p + 3) (length s) t) (λ t. eqb→eq (byte s p) 2 t) (λ t. eqb→eq (byte s p) 4 t)
  where
    by : (a b c : Bool) → (T a → p + 3 ≤ length s) → (T b → byte s p ≡ 2) → (T c → byte s p ≡ 4)
        → VariableSays s p (if not a then wrong short else if b then more else if c then done else wrong out_of_turn)
    by false b c h f g = tt
    by true true c h f g = f tt
    by true false true h f g = (h tt, g tt)
    by true false false h f g = tt

pub here-variable : (s : Bytes) (p : ℕ) → p + 3 ≤ length s → byte s p ≡ 2 → variable_here s p ≡ more
unfolding variable_here has_head
here-variable s p h b = rw (le-leb (p + 3) (length s) h, b)

here-thread : (s : Bytes) (p : ℕ) → p + 3 ≤ length s → byte s p ≡ 4 → variable_here s p ≡ done
unfolding variable_here has_head
here-thread s p h b = rw (le-leb (p + 3) (length s) h, b)

pub record VariablesAt (s : Bytes) (p : ℕ) (vs : List Interval) (q : ℕ) : Type 0 where
  pub bytes : Stands (in_row (encode_range 2) vs) s p q
  pub fits : Each RangeFits vs
  pub few : length vs ≤ most_variables
  pub room : q + 3 ≤ length s
  pub tag : byte s q ≡ 4

module _ {s : Bytes} (o : AreBytes s) (p : ℕ) (le : p ≤ length s) where
  variables-row : (g : Got (List Interval)) → IfAt (RowBehind (λ n p. variable_here s p) (λ p. read_range s p) most_variables [] p) g → IfAt (VariablesAt s p) g
  variables-row (bad r q) b = tt
  variables-row (got vs q) b =
      let row = subst (λ l. Row (λ n p. variable_here s p) (λ p. read_range s p) 0 p l q) (sym b.all) b.reads in
      let w = row_at (encode_range 2) (λ _ i. i) RangeFits s (λ n p. variable_here s p) (λ p. read_range s p) (λ _. Unit {0})
      (λ n p x q _ m e. (when-got (RangeAt 2 s p) (read_range s p) (range_at_lem o 2 p (subst (VariableSays s p) m (variable-says s p))) x q e, tt)) le tt row in
      let d = subst (VariableSays s q) w.ends (variable-says s q) in
      record { bytes = w.bytes; fits = w.good; few = subst (λ (l : List Interval). length l ≤ most_variables) (sym b.all) b.few; room = d.0; tag = d.1 }

  pub variables-at : IfAt (VariablesAt s p) (read_variables s p)
  unfolding read_variables
  variables-at = variables-row (read_variables s p) (many-row (λ n p. variable_here s p) (λ p. read_range s p) most_variables [] p)

pub variables-read : {s : Bytes} (vs : List Interval) {p q : ℕ} → Each RangeFits vs → length vs ≤ most_variables → Stands (in_row (encode_range 2) vs) s p q
    → q + 3 ≤ length s → byte s q ≡ 4 → read_variables s p ≡ got vs q
unfolding read_variables
variables-read {s} vs {p} {q} fits few h room tag =
    let n = placed-length (λ _ i. i) (encode_range 2) p vs in
    let row = row_of (encode_range 2) (λ _ i. i) RangeFits s (λ n p. variable_here s p) (λ p. read_range s p) (λ _. Unit {0}) (λ _ _ _ _. tt)
    (λ n p i q f b _. let m = b.inside in let e = b.ends in
    (here-variable s p (omega arith) (field-tag 2 (encode_value i.low ++ encode_value i.high) b), range-reads 2 i f b)) vs 0 p fits h tt (here-thread s q room tag) in
    row_reads (λ n p. variable_here s p) (λ p. read_range s p) most_variables [] row (omega arith) ∙ ap (λ l. got l q) (unplaced (encode_range 2) p vs)

-- ---- threads

here_end : (s : Bytes) (q : ℕ) → thread_here s q ≡ done → q ≡ length s
unfolding thread_here
here_end s q e = by (eqb q (length s)) (λ t. eqb→eq q (length s) t) e
  where
    by : (b : Bool) → (T b → q ≡ length s) → (if b then done else more) ≡ done → q ≡ length s
    by true f e = f tt
    by false f e = let z : ◌≡◌ {A = ℕ} 0 1 = cc in absurd (omega arith)

pub end-here : (s : Bytes) (q : ℕ) → q ≡ length s → thread_here s q ≡ done
unfolding thread_here
end-here s q e = rw (eq-eqb q (length s) e)

pub more-here : (s : Bytes) (p : ℕ) → p + 3 ≤ length s → thread_here s p ≡ more
unfolding thread_here
more-here s p h = rw (ne_eqb p (length s) (λ e. omega arith))

-- where one more thread stands, its tag does
thread-tag : (s : Bytes) (p : ℕ) → Ends s p → thread_here s p ≡ more → byte s p ≡ 4
thread-tag s p (at_end e) m = let d = end-here s p e in let z : ◌≡◌ {A = ℕ} 0 1 = cc in absurd (omega arith)
thread-tag s p (at_thread h b) m = b

pub record ThreadsAt (vars locks : ℕ) (s : Bytes) (p : ℕ) (ts : List Thread) (q : ℕ) : Type 0 where
  pub bytes : Stands (in_row encode_thread ts) s p q
  pub fits : Each (ThreadFits vars locks) ts
  pub placed : placed_row placed_thread encode_thread p ts ≡ ts
  pub some : 1 ≤ length ts
  pub few : length ts ≤ most_threads
  pub ends : q ≡ length s

some-threads : {s : Bytes} (ts : List Thread) {p q : ℕ} → p + 3 ≤ q → Stands (in_row encode_thread ts) s p q → 1 ≤ length ts
unfolding in_row
some-threads [] h b = let e = b.ends in absurd (omega arith)
some-threads (t ∷ ts) h b = omega arith

module _ {s : Bytes} (o : AreBytes s) (vars locks p : ℕ) (room : p + 3 ≤ length s) (tag : byte s p ≡ 4) where
  threads-row : (g : Got (List Thread)) → IfAt (RowBehind (λ n p. thread_here s p) (λ p. read_thread vars locks s p) most_threads [] p) g → IfAt (ThreadsAt vars locks s p) g
  threads-row (bad r q) b = tt
  threads-row (got ts q) b =
      let row = subst (λ l. Row (λ n p. thread_here s p) (λ p. read_thread vars locks s p) 0 p l q) (sym b.all) b.reads in
      let w = row_at encode_thread placed_thread (ThreadFits vars locks) s (λ n p. thread_here s p) (λ p. read_thread vars locks s p) (Ends s)
      (λ n p x q a m e. when-got (ThreadAt vars locks s p) (read_thread vars locks s p) (thread-at o vars locks p (thread-tag s p a m)) x q e) (omega arith) (at_thread room tag) row in
      let e = here_end s q w.ends in
      record {
        bytes = w.bytes;
        fits = w.good;
        placed = w.placed;
        some = some-threads ts (omega arith) w.bytes;
        few = subst (λ (l : List Thread). length l ≤ most_threads) (sym b.all) b.few;
        ends = e;
      }

  pub threads-at : IfAt (ThreadsAt vars locks s p) (read_threads vars locks s p)
  unfolding read_threads
  threads-at = threads-row (read_threads vars locks s p) (many-row (λ n p. thread_here s p) (λ p. read_thread vars locks s p) most_threads [] p)

pub thread-first : {s : Bytes} (t : Thread) (p q : ℕ) → Stands (encode_thread t) s p q → (p + 3 ≤ length s) × (byte s p ≡ 4)
unfolding encode_thread encode_opening
thread-first t p q h =
    let head = field 4 (length t.regs ∷ []) in
    let row = in_row (encode_range 5) t.regs in
    let first = stands-left head row (stands-left (head ++ row) (in_row encode_statement t.statements) h) in
    let i = first.inside in (omega arith, field-tag 4 (length t.regs ∷ []) first)

pub threads-read : {s : Bytes} (vars locks : ℕ) (ts : List Thread) {p : ℕ} → Each (ThreadFits vars locks) ts → length ts ≤ most_threads
    → Stands (in_row encode_thread ts) s p (length s) → read_threads vars locks s p ≡ got (placed_row placed_thread encode_thread p ts) (length s)
unfolding read_threads
threads-read {s} vars locks ts {p} fits few h =
    let n = placed-length placed_thread encode_thread p ts in
    let row = row_of encode_thread placed_thread (ThreadFits vars locks) s (λ n p. thread_here s p) (λ p. read_thread vars locks s p) (Ends s)
    (λ t p q b. let w = thread-first t p q b in at_thread w.0 w.1)
    (λ n p t q f b a. (more-here s p (thread-first t p q b).0, thread-reads vars locks t f b a)) ts 0 p fits h (at_end refl) (end-here s (length s) refl) in
    row_reads (λ n p. thread_here s p) (λ p. read_thread vars locks s p) most_threads [] row (omega arith)

pub first_thread : {s : Bytes} (ts : List Thread) {p q : ℕ} → 1 ≤ length ts → Stands (in_row encode_thread ts) s p q → (p + 3 ≤ length s) × (byte s p ≡ 4)
unfolding in_row
first_thread [] some h = absurd (omega arith)
first_thread (t ∷ ts) {p} some h = thread-first t p (p + length (encode_thread t)) (stands-left (encode_thread t) (in_row encode_thread ts) h)
