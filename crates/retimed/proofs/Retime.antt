-- The changed sheet is that of the program with those times, its places unchanged; so it reads as that program.
use mathlib.Core.Path.{◌≡◌, refl, sym, ap, subst, ◌∙◌}
use mathlib.Core.List.{List, [], ◌∷◌, ◌++◌}
use Prim.Native.Nat.{ℕ, zero, suc, ◌+◌, ◌/◌, ◌%◌, ◌≤◌, ◌<◌}
use native.Mathlib.Omega.{arith}
use lib.Dec.{T, leb, ltb, leb→le, ltb→lt}
use lib.ListN.{length, get_or, set, length-set}
use Rattle.rules.specs.Base.{Each}
use Rattle.rules.specs.Constants.{longest_sheet, greatest_time}
use Rattle.rules.specs.Program.{Statement, Thread, Program, no_statement, no_thread}
use Rattle.rules.specs.Format.{Bytes, AreBytes, got, Names, times_fit, target_fits, read_sheet}
use Rattle.rules.specs.Encoding.{code_of, encode_statement, encode, placed}
use Rattle.rules.specs.Fits.{StatementFits, LastHalts, ThreadFits, ProgramFits}
use Rattle.reader.specs.Facts.{thread_in, statement_in}
use Rattle.retimed.specs.Retime.{retimed, with_times, with_statement, edited, retime, is_statement, may_have}
use Rattle.rules.proofs.Base.{and_left, and_right, each_set, each-get}
use Rattle.rules.proofs.Encoding.{reads_written, written_reads}
use Rattle.retimed.proofs.Edit.{before, behind, edited-bytes, edited-same, place_is, edited-length, edited-placed}

-- ---- the program with those times fits

last_set : (xs : List Statement) (k least greatest : ℕ) → LastHalts xs → LastHalts (set xs k (with_times least greatest (get_or xs k no_statement)))
unfolding with_times
last_set [] k l g h = h
last_set (x ∷ []) zero l g h = h
last_set (x ∷ []) (suc k) l g h = h
last_set (x ∷ y ∷ ys) zero l g h = h
last_set (x ∷ y ∷ []) (suc zero) l g h = h
last_set (x ∷ y ∷ []) (suc (suc k)) l g h = h
last_set (x ∷ y ∷ z ∷ zs) (suc zero) l g h = h
last_set (x ∷ y ∷ z ∷ zs) (suc (suc k)) l g h = last_set (y ∷ z ∷ zs) (suc k) l g h

module _ (vars locks : ℕ) (t : Thread) (k : ℕ) (i : k < length t.statements) (f : ThreadFits vars locks t) (least greatest : ℕ)
    (times : T (times_fit (code_of (get_or t.statements k no_statement).action) least greatest)) (small : greatest ≤ greatest_time) where
  thread-fits : ThreadFits vars locks (with_statement k (with_times least greatest (get_or t.statements k no_statement)) t)
  unfolding with_statement with_times
  thread-fits =
      let xs = t.statements in
      let x = get_or xs k no_statement in
      let ns : Names = record { regs = length t.regs; vars = vars; locks = locks } in
      let y : Statement = record { place = x.place; least = least; greatest = greatest; action = x.action } in
      let n = length-set xs k y in
      let few = f.few in
      record {
        regs_few = f.regs_few;
        regs = f.regs;
        few = omega arith;
        statements = each_set xs k y f.statements (record { times = times; two_bytes = small; action = (each-get (StatementFits ns) xs k no_statement f.statements i).action });
        last_halts_lem = last_set xs k least greatest f.last_halts_lem;
        targets = subst (λ (m : ℕ). Each (λ (x : Statement). T (target_fits m x.action)) (set xs k y)) (sym n)
            (each_set xs k y f.targets (each-get (λ (x : Statement). T (target_fits (length xs) x.action)) xs k no_statement f.targets i));
      }

as_long : (least greatest : ℕ) (x : Statement) → length (encode_statement (with_times least greatest x)) ≡ length (encode_statement x)
unfolding encode_statement with_times
as_long least greatest x = refl

same_place : (least greatest : ℕ) (x : Statement) → (with_times least greatest x).place ≡ x.place
unfolding with_times
same_place least greatest x = refl

-- ---- the four bytes, where the statement's bytes stand behind others

set-behind : (a ys : Bytes) (i p v : ℕ) → length a + i ≡ p → set (a ++ ys) p v ≡ a ++ set ys i v
set-behind [] ys i p v e = let f : p ≡ i = omega arith in ap (λ (j : ℕ). set ys j v) f
set-behind (x ∷ a) ys i zero v e = absurd (omega arith)
set-behind (x ∷ a) ys i (suc p) v e = ap (λ (l : Bytes). x ∷ l) (set-behind a ys i p v (omega arith))

retimed-block : (a c : Bytes) (x : Statement) (least greatest p : ℕ) → p ≡ length a
    → retimed (a ++ (encode_statement x ++ c)) p least greatest ≡ a ++ (encode_statement (with_times least greatest x) ++ c)
unfolding retimed encode_statement with_times
retimed-block a c x least greatest p e =
    let u = encode_statement x ++ c in
    let v = set u 3 (least / 256) in
    let w = set v 4 (least % 256) in
    let z = set w 5 (greatest / 256) in
    ap (λ (l : Bytes). set (set (set l (p + 4) (least % 256)) (p + 5) (greatest / 256)) (p + 6) (greatest % 256)) (set-behind a u 3 (p + 3) (least / 256) (omega arith))
    ∙ ap (λ (l : Bytes). set (set l (p + 5) (greatest / 256)) (p + 6) (greatest % 256)) (set-behind a v 4 (p + 4) (least % 256) (omega arith))
    ∙ ap (λ (l : Bytes). set l (p + 6) (greatest % 256)) (set-behind a w 5 (p + 5) (greatest / 256) (omega arith))
    ∙ set-behind a z 6 (p + 6) (greatest % 256) (omega arith)

-- ---- the changed sheet

module _ (g : Program) (here : placed g ≡ g) (t k : ℕ) (h : t < length g.threads) (i : k < length (thread_in g t).statements) (least greatest : ℕ) where
  pub retime-bytes : retimed (encode g) (statement_in g t k).place least greatest ≡ encode (retime g t k least greatest)
  retime-bytes =
      let x = statement_in g t k in
      ap (λ (l : Bytes). retimed l x.place least greatest) (sym (ap encode (edited-same g t k h i)) ∙ edited-bytes g t k h i x)
      ∙ retimed-block (before g t k) (behind g t k) x least greatest x.place (place_is g t k h i here)
      ∙ sym (edited-bytes g t k h i (with_times least greatest x))

  pub retime-placed : placed (retime g t k least greatest) ≡ retime g t k least greatest
  retime-placed = edited-placed g t k h i here (with_times least greatest (statement_in g t k)) (same_place least greatest (statement_in g t k)) (as_long least greatest (statement_in g t k))

  pub retime-length : length (encode (retime g t k least greatest)) ≡ length (encode g)
  retime-length = edited-length g t k h i here (with_times least greatest (statement_in g t k)) (same_place least greatest (statement_in g t k)) (as_long least greatest (statement_in g t k))

  module _ (f : ProgramFits g) (times : T (times_fit (code_of (statement_in g t k).action) least greatest)) (small : greatest ≤ greatest_time) where
    pub retime-fits : ProgramFits (retime g t k least greatest)
    unfolding edited
    retime-fits =
        let th = with_statement k (with_times least greatest (statement_in g t k)) (thread_in g t) in
        let n = length-set g.threads t th in
        let some = f.some in let few = f.few in
        record {
          header = f.header;
          locks_few = f.locks_few;
          vars_few = f.vars_few;
          vars = f.vars;
          some = omega arith;
          few = omega arith;
          threads = each_set g.threads t th f.threads
              (thread-fits (length g.vars) g.locks (thread_in g t) k i (each-get (ThreadFits (length g.vars) g.locks) g.threads t no_thread f.threads h) least greatest times small);
          short = subst (λ (j : ℕ). j ≤ longest_sheet) (sym retime-length) f.short;
        }

-- a sheet that reads as g, changed at statement k of thread t, reads as g with those times
pub retimed-reads : (s : Bytes) → AreBytes s → (g : Program) (e t k : ℕ) → read_sheet s ≡ got g e → t < length g.threads → k < length (thread_in g t).statements
    → (least greatest : ℕ) → T (times_fit (code_of (statement_in g t k).action) least greatest) → greatest ≤ greatest_time
    → read_sheet (retimed s (statement_in g t k).place least greatest) ≡ got (retime g t k least greatest) e
retimed-reads s o g e t k r h i least greatest times small =
    let (w, last) = reads_written s o g e r in
    let x = statement_in g t k in
    let new = retime g t k least greatest in
    let bytes : retimed s x.place least greatest ≡ encode new =
    ap (λ (l : Bytes). retimed l x.place least greatest) (sym w.written) ∙ retime-bytes g w.places t k h i least greatest in
    let ends : length (encode new) ≡ e = retime-length g w.places t k h i least greatest ∙ ap (λ (l : Bytes). length l) w.written ∙ sym last in
    ap read_sheet bytes ∙ written_reads new (retime-fits g w.places t k h i least greatest w.fits times small)
    ∙ (λ j. got (retime-placed g w.places t k h i least greatest j) (ends j))

-- ---- what the call asks

module _ (g : Program) (t k : ℕ) (s : T (is_statement g t k)) where
  pub thread-there : t < length g.threads
  unfolding is_statement
  thread-there = ltb→lt t (length g.threads) (and_left (ltb t (length g.threads)) (ltb k (length (thread_in g t).statements)) s)

  pub statement-there : k < length (thread_in g t).statements
  unfolding is_statement
  statement-there = ltb→lt k (length (thread_in g t).statements) (and_right (ltb t (length g.threads)) (ltb k (length (thread_in g t).statements)) s)

module _ (x : Statement) (l h : ℕ) (m : T (may_have x l h)) where
  pub may-times : T (times_fit (code_of x.action) l h)
  unfolding may_have
  may-times = and_left (times_fit (code_of x.action) l h) (leb h greatest_time) m

  pub may-small : h ≤ greatest_time
  unfolding may_have
  may-small = leb→le h greatest_time (and_right (times_fit (code_of x.action) l h) (leb h greatest_time) m)
