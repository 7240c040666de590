-- A thread, as the code reads it: its statements' places at the front of a table, and its closing; and what is known of a thread
-- that was read.
use Rattle.std.specs.Prelude.{◌≡◌, List, [], ◌∷◌, ◌++◌, ℕ, zero, suc, ◌+◌, ◌≤◌, length, take, T, leb, eqb, Ok, Err}
use Rattle.std.proofs.Common.{refl, sym, ap, subst, ◌∙◌, arith, length-append}
use Rattle.std.proofs.Math.Seq.{take-append_seam}
use Rattle.std.proofs.lemmas.List.{length-map}
use Rattle.std.proofs.lemmas.List.Edits.{sets, sets-eq}
use lib.Dec.{leb→le}
use Rattle.rules.specs.Base.{Each}
use Rattle.rules.specs.Constants.{most_registers, most_statements}
use Rattle.rules.specs.Refusal.{short, bad_length, off_range}
use Rattle.rules.specs.Interval.{Interval}
use Rattle.rules.specs.Program.{Statement, Thread}
use Rattle.rules.specs.Format.{Bytes, byte, num16, Got, bad, got, Names, sized, has_body, due, read_range, read_registers, read_statements, close, read_thread}
use Rattle.rules.proofs.Format.{If, need-if, then_if, then-any}
use Rattle.refusal.specs.declared.Fault.{Fault}
use Rattle.refusal.specs.Shape.{rule_of}
use Rattle.field.specs.declared.outcome.Counted.{Counted}
use Rattle.reader.specs.Index.{places_of, targets_at, last_at, StatementsRead}
use Rattle.reader.proofs.closing.Codes.{CodeAt, codes_at, close-unhalted, close-untargeted, close-whole}

-- ---- the places that were stored are those of the statements

take-sets : (l vs : List ℕ) → length vs ≤ length l → take (length vs) (sets l 0 vs) ≡ vs
take-sets l vs h = ap (take (length vs)) (sets-eq vs l 0 (omega arith)) ∙ take-append_seam vs _

abbrev place : Statement → ℕ
place x = x.place

-- the statements that were read, and their places at the front of the table
record Stored (G : Got (List Statement)) (m : List ℕ) (c : Counted) : Type 0 where
  items : List Statement
  reads : G ≡ got items c.end
  places : take c.count m ≡ places_of items
  count : length (take c.count m) ≡ length items

stored : (G : Got (List Statement)) (l m : List ℕ) {c : Counted} → most_statements ≤ length l → StatementsRead G l m (Ok c) → Stored G m c
stored (bad r p) l m room h = absurd (cc)
stored (got xs q) l m {c} room h =
    let few = h.2 in
    let e : c ≡ record { count = length xs; end = q } = cc in
    let n : c.count ≡ length (places_of xs) = ap (λ (c : Counted). c.count) e ∙ sym (length-map xs place) in
    let f : length (places_of xs) ≤ length l = let k = length-map xs place in omega arith in
    let same : take c.count m ≡ places_of xs = (λ i. take (n i) (h.1 i)) ∙ take-sets l (places_of xs) f in
    record {
      items = xs;
      reads = ap (got xs) (sym (ap (λ (c : Counted). c.end) e));
      places = same;
      count = ap length same ∙ length-map xs place;
    }

module _ (ns : Names) (s : Bytes) (p : ℕ) (l m : List ℕ) (c : Counted) (room : most_statements ≤ length l)
    (h : StatementsRead (read_statements ns s p) l m (Ok c)) where
  w : Stored (read_statements ns s p) m c
  w = stored (read_statements ns s p) l m room h

  codes : Each (CodeAt s) w.items
  codes = subst (If (Each (CodeAt s))) w.reads (codes_at ns s p)

  pub unhalted : {f : Fault} → Err f ≡ last_at s (take c.count m) → close (read_statements ns s p) ≡ bad (rule_of f.refusal) f.place
  unhalted e = ap close w.reads ∙ close-unhalted s w.items c.end codes (e ∙ ap (last_at s) w.places)

  module _ (a : Ok tt ≡ last_at s (take c.count m)) where
    pub untargeted : {f : Fault} → Err f ≡ targets_at s (length (take c.count m)) (take c.count m) → close (read_statements ns s p) ≡ bad (rule_of f.refusal) f.place
    untargeted e =
        ap close w.reads ∙ close-untargeted s w.items c.end codes (a ∙ ap (last_at s) w.places) (e ∙ (λ i. targets_at s (w.count i) (w.places i)))

    pub whole : Ok tt ≡ targets_at s (length (take c.count m)) (take c.count m) → close (read_statements ns s p) ≡ read_statements ns s p
    whole e =
        ap close w.reads ∙ close-whole s w.items c.end codes (a ∙ ap (last_at s) w.places) (e ∙ (λ i. targets_at s (w.count i) (w.places i))) ∙ sym w.reads

-- ---- what is known of a thread that was read

registers-count : (k : ℕ) (rs : List Interval) (s : Bytes) (p : ℕ) → If (λ (xs : List Interval). length xs ≡ length rs + k) (read_registers k rs s p)
unfolding read_registers
registers-count zero rs s p = omega arith
registers-count (suc k) rs s p =
    then-any (λ (xs : List Interval). length xs ≡ length rs + suc k) (due 5 s p (read_range s p)) _ (λ i q.
    subst (λ (n : ℕ). If (λ (xs : List Interval). length xs ≡ n) (read_registers k (rs ++ i ∷ []) s q)) (simp length-append (omega arith)) (registers-count k (rs ++ i ∷ []) s q))

pub record Opened (s : Bytes) (at : ℕ) (t : Thread) : Type 0 where
  pub there : t.place ≡ at
  pub count : length t.regs ≡ byte s (at + 3)
  pub few : byte s (at + 3) ≤ most_registers
  pub room : at + 3 ≤ length s

pub head-there : (s : Bytes) (at : ℕ) → T (has_body s at) → at + 3 ≤ length s
unfolding has_body
head-there s at t = let h = leb→le (at + 3 + num16 s (at + 1)) (length s) t in omega arith

thread-opened : (vars locks : ℕ) (s : Bytes) (at : ℕ) → If (Opened s at) (read_thread vars locks s at)
unfolding read_thread sized
thread-opened vars locks s at =
    then_if (λ (n : ℕ). (byte s (at + 3) ≤ most_registers) × (at + 3 ≤ length s)) (Opened s at) _ _
    (need-if _ (has_body s at) short at _ (λ b. need-if _ (eqb (num16 s (at + 1)) 1) bad_length at _ (λ _.
    need-if _ (leb (byte s (at + 3)) most_registers) off_range at _ (λ t. (leb→le (byte s (at + 3)) most_registers t, head-there s at b)))))
    (λ _ p h. then_if (λ (xs : List Interval). length xs ≡ length {A = Interval} [] + byte s (at + 3)) (Opened s at) (read_registers (byte s (at + 3)) [] s p) _
    (registers-count (byte s (at + 3)) [] s p)
    (λ rs q k. then-any (Opened s at) (close (read_statements (record { regs = byte s (at + 3); vars = vars; locks = locks }) s q)) _
    (λ xs r. record { there = refl; count = omega arith; few = h.0; room = h.1 })))

pub opened : (vars locks : ℕ) (s : Bytes) (at : ℕ) (t : Thread) (q : ℕ) → read_thread vars locks s at ≡ got t q → Opened s at t
opened vars locks s at t q e = subst (If (Opened s at)) e (thread-opened vars locks s at)
