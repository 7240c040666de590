-- In a sheet that reads, every range stands inside the sheet.
use mathlib.Core.Path.{◌≡◌, refl}
use mathlib.Core.Bool.{Bool}
use mathlib.Core.List.{List, [], ◌∷◌, ◌++◌}
use Prim.Native.Nat.{ℕ, zero, suc, ◌+◌, ◌*◌, ◌≤◌}
use native.Mathlib.Omega.{arith}
use lib.Dec.{leb, leb→le, eqb→eq}
use lib.ListN.{length, length-append}
use Rattle.rules.specs.Base.{Each, nil}
use Rattle.rules.specs.Constants.{longest_sheet, most_registers, most_threads}
use Rattle.rules.specs.Refusal.{short, bad_length, off_range, too_long}
use Rattle.rules.specs.Interval.{Interval}
use Rattle.rules.specs.Program.{Statement, Thread, Header, Program}
use Rattle.rules.specs.Format.{Bytes, byte, num16, got, has_body, sized, read_range, read_registers, read_header, read_locks, read_variables, read_thread, read_threads, thread_here, read_sheet, read_statements, close}
use Rattle.rules.proofs.Format.{If, many-if}
use Rattle.rules.proofs.IfAt.{IfAt, need-at, then_at, due-at, any_at, plain, with-reading, when-got}
use Rattle.reader.proofs.ThreadFacts.{variables-row}
use Rattle.reader.proofs.Facts.{thread-head}

-- a field of a fixed length ends inside the sheet
sized_inside : {A : Type 0} (s : Bytes) (at n : ℕ) (ok : Bool) (a : A) → IfAt (λ (x : A) (q : ℕ). (q ≡ at + 3 + n) × (q ≤ length s)) (sized s at n ok a)
unfolding sized has_body
sized_inside {A} s at n ok a =
    let P : A → ℕ → Type 0 = (λ x q. (q ≡ at + 3 + n) × (q ≤ length s)) in
    need-at P _ short at _ (λ b. need-at P _ bad_length at _ (λ e. need-at P ok off_range at _ (λ _.
    let h = leb→le (at + 3 + num16 s (at + 1)) (length s) b in
    let k = eqb→eq (num16 s (at + 1)) n e in
    (refl, omega arith))))

-- ---- registers

abbrev Inside : Bytes → ℕ → List Interval → ℕ → Type 0
Inside s at rs q = (q ≡ at + 11 * length rs) × (q ≤ length s)

registers-inside : (s : Bytes) (at k : ℕ) (rs : List Interval) (p : ℕ) → Inside s at rs p → IfAt (Inside s at) (read_registers k rs s p)
unfolding read_registers read_range
registers-inside s at zero rs p h = h
registers-inside s at (suc k) rs p h =
    then_at (λ (i : Interval) (q : ℕ). (q ≡ p + 3 + 8) × (q ≤ length s)) (Inside s at) _ _
    (due-at _ 5 s p _ (sized_inside s p 8 _ _))
    (λ i q e.
    let n : length (rs ++ i ∷ []) ≡ length rs + 1 = simp length-append (omega arith) in
    let a = h.0 in let b = e.0 in let c = e.1 in
    registers-inside s at k (rs ++ i ∷ []) q (omega arith, omega arith))

abbrev pub RegsInside : Bytes → Thread → Type 0
RegsInside s t = t.place + 4 + 11 * length t.regs ≤ length s

thread-inside : (vars locks : ℕ) (s : Bytes) (at : ℕ) → If (RegsInside s) (read_thread vars locks s at)
unfolding read_thread
thread-inside vars locks s at =
    let n = byte s (at + 3) in
    let P : Thread → ℕ → Type 0 = (λ t q. RegsInside s t) in
    plain (RegsInside s) (read_thread vars locks s at)
    (then_at (λ (n q : ℕ). (q ≡ at + 3 + 1) × (q ≤ length s)) P (sized s at 1 (leb n most_registers) n) _ (sized_inside s at 1 (leb n most_registers) n) (λ _ p e.
    let a = e.0 in let b = e.1 in
    then_at (Inside s (at + 4)) P (read_registers n [] s p) _ (registers-inside s (at + 4) n [] p (omega arith, b)) (λ rs q h.
    let c = h.0 in let d = h.1 in
    let G = close (read_statements (record { regs = n; vars = vars; locks = locks }) s q) in
    then_at (λ (xs : List Statement) (r : ℕ). Unit {0}) P G _ (with-reading (λ (xs : List Statement) (r : ℕ). Unit {0}) G (λ xs r e. tt))
    (λ xs r _. omega arith))))

threads-inside : (vars locks : ℕ) (s : Bytes) (at : ℕ) → If (Each (RegsInside s)) (read_threads vars locks s at)
unfolding read_threads
threads-inside vars locks s at =
    many-if (RegsInside s) (λ n p. thread_here s p) (λ p. read_thread vars locks s p) (λ p. thread-inside vars locks s p) most_threads [] at nil

-- ---- the sheet

pub record RangesInside (s : Bytes) (g : Program) : Type 0 where
  pub vars : 23 + 11 * length g.vars ≤ length s
  pub regs : Each (RegsInside s) g.threads

header-end : (s : Bytes) → IfAt (λ (h : Header) (q : ℕ). (q ≡ 0 + 3 + 16) × (q ≤ length s)) (read_header s)
unfolding read_header
header-end s = due-at _ 1 s 0 _ (sized_inside s 0 16 _ _)

locks-end : (s : Bytes) (at : ℕ) → IfAt (λ (k q : ℕ). (q ≡ at + 3 + 1) × (q ≤ length s)) (read_locks s at)
unfolding read_locks
locks-end s at = due-at _ 3 s at _ (sized_inside s at 1 _ _)

sheet-inside : (s : Bytes) → IfAt (λ g q. RangesInside s g) (read_sheet s)
unfolding read_sheet
sheet-inside s =
    let P : Program → ℕ → Type 0 = (λ g q. RangesInside s g) in
    need-at P (leb (length s) longest_sheet) too_long 0 _ (λ _.
    then_at _ P (read_header s) _ (header-end s) (λ h p a.
    then_at _ P (read_locks s p) _ (locks-end s p) (λ k q b.
    then_at _ P (read_variables s q) _ (variables-row s q) (λ vs r v.
    let G = read_threads (length vs) k s r in
    then_at _ P G _ (any_at (Each (RegsInside s)) G (threads-inside (length vs) k s r)) (λ ts e t.
    let m = a.0 in let n = b.0 in let c = v.0.1 in let d = thread-head s r v.1 in
    record { vars = omega arith; regs = t })))))

pub ranges-inside : (s : Bytes) (g : Program) (e : ℕ) → read_sheet s ≡ got g e → RangesInside s g
ranges-inside s g e q = when-got (λ g q. RangesInside s g) (read_sheet s) (sheet-inside s) g e q
