-- Threads and their bytes: the opening field and the registers, then the statements.
use mathlib.Core.Path.{◌≡◌, refl, sym, ap, subst, ◌∙◌}
use mathlib.Core.List.{List, [], ◌∷◌, ◌++◌, append-nil, append_assoc}
use Prim.Native.Nat.{ℕ, zero, suc, ◌+◌, ◌≤◌}
use native.Mathlib.Omega.{arith}
use lib.Dec.{leb, leb→le, le→leb}
use lib.ListN.{length}
use Rattle.rules.specs.Base.{Each, nil, ◌&◌}
use Rattle.rules.specs.Constants.{most_registers}
use Rattle.rules.specs.Interval.{Interval}
use Rattle.rules.specs.Program.{Statement, Thread}
use Rattle.rules.specs.Format.{Bytes, AreBytes, byte, Got, bad, got, due, sized, Names, read_range, read_registers, read_statements, close, read_thread}
use Rattle.rules.specs.Encoding.{field, in_row, encode_value, encode_range, encode_statement, encode_opening, encode_thread, placed_statement, placed_row, placed_thread}
use Rattle.rules.specs.Fits.{RangeFits, ThreadFits}
use Rattle.rules.proofs.IfAt.{IfAt, then_at, then-got}
use Rattle.rules.proofs.Stands.{Stands, OneAt, stands-nil, stands_one, stands-append, stands-left, stands-right, stands-field, field-body}
use Rattle.rules.proofs.FieldAt.{Field, due-field, sized-field}
use Rattle.rules.proofs.FieldBytes.{written-due, written-sized, RangeAt, range_at_lem, range-reads}
use Rattle.rules.proofs.StatementRow.{Ends, StatementsAt, statements-at, statements-read}

-- ---- registers

-- what is read behind rs: k registers
record RegistersAt (s : Bytes) (k : ℕ) (rs : List Interval) (p : ℕ) (zs : List Interval) (q : ℕ) : Type 0 where
  row : List Interval
  all : zs ≡ rs ++ row
  count : length row ≡ k
  bytes : Stands (in_row (encode_range 5) row) s p q
  fits : Each RangeFits row

module _ {s : Bytes} (o : AreBytes s) where
  registers-next : (k : ℕ) (rs : List Interval) (p : ℕ) (i : Interval) (q : ℕ) (g : Got (List Interval)) → RangeAt 5 s p i q
      → IfAt (RegistersAt s k (rs ++ i ∷ []) q) g → IfAt (RegistersAt s (suc k) rs p) g
  unfolding in_row
  registers-next k rs p i q (bad r u) w h = tt
  registers-next k rs p i q (got zs u) w h = record {
    row = i ∷ h.row;
    all = h.all ∙ append_assoc rs (i ∷ []) h.row;
    count = ap suc h.count;
    bytes = stands-append w.bytes h.bytes;
    fits = w.good & h.fits;
  }

  registers-at : (k : ℕ) (rs : List Interval) (p : ℕ) → p ≤ length s → IfAt (RegistersAt s k rs p) (read_registers k rs s p)
  unfolding read_registers in_row
  registers-at zero rs p h = record { row = []; all = sym (append-nil rs); count = refl; bytes = stands-nil h; fits = nil }
  registers-at (suc k) rs p h =
      then_at (RangeAt 5 s p) (RegistersAt s (suc k) rs p) (due 5 s p (read_range s p)) (λ i q. read_registers k (rs ++ i ∷ []) s q)
      (due-field (RangeAt 5 s p) 5 s p (read_range s p) (range_at_lem o 5 p))
      (λ i q w. registers-next k rs p i q (read_registers k (rs ++ i ∷ []) s q) w (registers-at k (rs ++ i ∷ []) q w.bytes.inside))

registers-read : {s : Bytes} (ys rs : List Interval) {p q : ℕ} → Each RangeFits ys → Stands (in_row (encode_range 5) ys) s p q → read_registers (length ys) rs s p ≡ got (rs ++ ys) q
unfolding read_registers in_row
registers-read [] rs {p} {q} f h = let e = h.ends in let g : p ≡ q = omega arith in (λ i. got (sym (append-nil rs) i) (g i))
registers-read {s} (y ∷ ys) rs {p} {q} (f & fs) h =
    let l = stands-left (encode_range 5 y) (in_row (encode_range 5) ys) h in
    let r = stands-right (encode_range 5 y) (in_row (encode_range 5) ys) h in
    then-got _ (written-due 5 (encode_value y.low ++ encode_value y.high) l (read_range s p) ∙ range-reads 5 y f l) ∙ registers-read ys (rs ++ y ∷ []) fs r ∙ ap (λ zs. got zs q) (append_assoc rs (y ∷ []) ys)

-- ---- what reads is the encoding of what it reads as, and fits

abbrev pub ThreadAt : ℕ → ℕ → Bytes → ℕ → Thread → ℕ → Type 0
ThreadAt vars locks s p t q = OneAt encode_thread placed_thread (ThreadFits vars locks) s p t q × Ends s q

module _ {s : Bytes} (o : AreBytes s) (vars locks at : ℕ) (tag : byte s at ≡ 4) where
  opening-stands : (rs : List Interval) (q : ℕ) → Field 4 1 s at → byte s (at + 3) ≡ length rs
      → Stands (in_row (encode_range 5) rs) s (at + 4) q → Stands (encode_opening rs) s at q
  unfolding encode_opening
  opening-stands rs q f count b =
      let room = f.fits in
      let body : Stands (length rs ∷ []) s (at + 3) (at + 4) = subst (Stands (length rs ∷ []) s (at + 3)) (omega arith) (stands_one (omega arith) count) in
      stands-append (stands-field o 4 (length rs ∷ []) f body) b

  thread-of : (rs : List Interval) (xs : List Statement) (q r : ℕ) → length rs ≤ most_registers → Each RangeFits rs → Stands (encode_opening rs) s at q
      → StatementsAt (record { regs = length rs; vars = vars; locks = locks }) s q xs r → ThreadAt vars locks s at (record { place = at; regs = rs; statements = xs }) r
  unfolding encode_thread placed_thread
  thread-of rs xs q r few regs b w = (
    record {
      bytes = stands-append b w.bytes;
      good = record { regs_few = few; regs = regs; few = w.few; statements = w.fits; last_halts_lem = w.last_halts_lem; targets = w.targets };
      here = λ i. record { place = at; regs = rs; statements = (ap (λ (j : ℕ). placed_row placed_statement encode_statement j xs) b.ends ∙ w.placed) i };
    },
    w.ends,
  )

  pub thread-at : IfAt (ThreadAt vars locks s at) (read_thread vars locks s at)
  unfolding read_thread
  thread-at =
      let n = byte s (at + 3) in
      let P = ThreadAt vars locks s at in
      let names : ℕ → Names = (λ (m : ℕ). record { regs = m; vars = vars; locks = locks }) in
      let F : ℕ → ℕ → Type 0 = (λ m q. (q ≡ at + 4) × Field 4 1 s at × (n ≤ most_registers)) in
      then_at F P (sized s at 1 (leb n most_registers) n) _
      (sized-field F 4 1 s at (leb n most_registers) n tag (λ h ok. (omega arith, h, leb→le n most_registers ok))) (λ _ p f.
      let e = f.0 in let room = f.1.fits in let few = f.2 in
      then_at (RegistersAt s n [] p) P (read_registers n [] s p) _ (registers-at o n [] p (omega arith)) (λ rs q w.
      let count : length rs ≡ n = ap length w.all ∙ w.count in
      let regs : Each RangeFits rs = subst (Each RangeFits) (sym w.all) w.fits in
      let row : Stands (in_row (encode_range 5) rs) s (at + 4) q = subst (λ (l : List Interval). Stands (in_row (encode_range 5) l) s (at + 4) q) (sym w.all)
      (subst (λ (j : ℕ). Stands (in_row (encode_range 5) w.row) s j q) e w.bytes) in
      then_at (StatementsAt (names n) s q) P (close (read_statements (names n) s q)) _ (statements-at o (names n) q w.bytes.inside) (λ xs r v.
      thread-of rs xs q r (omega arith) regs (opening-stands rs q f.1 (sym count) row)
      (subst (λ (m : ℕ). StatementsAt (names m) s q xs r) (sym count) v))))

-- ---- the encoding of a thread that fits reads as it

pub thread-reads : {s : Bytes} (vars locks : ℕ) (t : Thread) {at q : ℕ} → ThreadFits vars locks t → Stands (encode_thread t) s at q → Ends s q
    → read_thread vars locks s at ≡ got (placed_thread at t) q
unfolding read_thread encode_thread encode_opening placed_thread
thread-reads {s} vars locks t {at} {q} f h e =
    let rs = t.regs in let xs = t.statements in
    let n = length rs in
    let head = field 4 (n ∷ []) in
    let row = in_row (encode_range 5) rs in
    let few = f.regs_few in
    let l = stands-left (head ++ row) (in_row encode_statement xs) h in
    let statements = stands-right (head ++ row) (in_row encode_statement xs) h in
    let first = stands-left head row l in
    let regs = stands-right head row l in
    let count : byte s (at + 3) ≡ n = (field-body 4 (n ∷ []) first).same 0 (at + 3) (omega arith) (omega arith) in
    rw (count)
    (then-got _ (written-sized 4 (n ∷ []) first (leb n most_registers) n (le→leb n most_registers few))
    ∙ then-got _ (registers-read rs [] f.regs regs)
    ∙ then-got _ (statements-read (record { regs = n; vars = vars; locks = locks }) xs f.statements f.few f.last_halts_lem f.targets statements e))
