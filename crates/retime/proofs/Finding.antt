-- A statement found by its thread and its number is the program's statement, or there is none.
use Rattle.std.specs.Prelude.{if◌then◌else◌, Some, None, Ok}
use mathlib.Core.Path.{◌≡◌, refl, sym, ap, ◌∙◌}
use mathlib.Core.Bool.{Bool, true, false}
use mathlib.Core.List.{◌++◌}
use Prim.Native.Nat.{ℕ, ◌+◌, ◌*◌, ◌≤◌, ◌<◌}
use native.Mathlib.Omega.{arith}
use borrow.Author.Tests.{lt-ltb, le-ltb}
use lib.Dec.{T}
use lib.ListN.{length, get_or}
use lib.Seq.{get_or-append-add}
use Rattle.rules.specs.Constants.{most_threads, most_statements}
use Rattle.rules.specs.Program.{Statement, Program}
use Rattle.rules.specs.Format.{Bytes, AreBytes, byte, got, read_sheet}
use Rattle.rules.specs.Encoding.{code_of, encode_statement, encode}
use Rattle.rules.proofs.Encoding.{reads_written}
use Rattle.reader.specs.Facts.{thread_in, statement_in}
use Rattle.reader.specs.declared.Index.{Index}
use Rattle.reader.specs.Index.{no_entry, index_of}
use Rattle.reader.proofs.Facts.{accepted, program-facts, thread-in, statement-in, index-facts, place-head}
use Rattle.retimed.specs.Retime.{is_statement}
use Rattle.retimed.proofs.Edit.{before, behind, edited-bytes, edited-same, place_is}
use Rattle.retime.specs.declared.find.Found.{Found}
use Rattle.retime.specs.Shape.{found_of, found_at, found_in, Finds}

-- ---- by its bytes

-- the code of a statement stands behind its times
module _ (s : Bytes) (o : AreBytes s) (g : Program) (e t k : ℕ) (r : read_sheet s ≡ got g e) (h : t < length g.threads) (i : k < length (thread_in g t).statements) where
  code_at : byte s ((statement_in g t k).place + 7) ≡ code_of (statement_in g t k).action
  unfolding encode_statement
  code_at =
      let w = (reads_written s o g e r).0 in
      let x = statement_in g t k in
      let bytes : s ≡ before g t k ++ (encode_statement x ++ behind g t k) = sym w.written ∙ sym (ap encode (edited-same g t k h i)) ∙ edited-bytes g t k h i x in
      let there : x.place ≡ length (before g t k) = place_is g t k h i w.places in
      (λ j. byte (bytes j) (there j + 7)) ∙ get_or-append-add (before g t k) (encode_statement x ++ behind g t k) 7 0

-- ---- by the index

module _ (s : Bytes) {i : Index} (q : index_of (read_sheet s) ≡ Ok i) (t k : ℕ) where
  -- no such thread
  pub no_thread_lem : i.threads ≤ t → Finds s t k None
  unfolding found_in is_statement
  no_thread_lem h g e r =
      let m : length g.threads ≤ t = omega (arith, (index-facts g e q r).threads) in
      rw (le-ltb t (length g.threads) m)

  count_is : (g : Program) (e : ℕ) → read_sheet s ≡ got g e → t < length g.threads → (get_or i.entries t no_entry).statements ≡ length (thread_in g t).statements
  count_is g e r h = ap (λ x. x.statements) ((index-facts g e q r).entries t h)

  module _ (h : t < i.threads) where
    known : (g : Program) (e : ℕ) → read_sheet s ≡ got g e → t < length g.threads
    known g e r = omega (arith, (index-facts g e q r).threads)

    pub thread-small : t < most_threads
    thread-small = let (g, e, r) = accepted (read_sheet s) q in omega (arith, (program-facts s g e r).threads_few, known g e r)

    -- no such statement in it
    pub no-statement : (get_or i.entries t no_entry).statements ≤ k → Finds s t k None
    unfolding found_in is_statement
    no-statement c g e r =
        let m : length (thread_in g t).statements ≤ k = omega (arith, count_is g e r (known g e r)) in
        rw (lt-ltb t (length g.threads) (known g e r), le-ltb k (length (thread_in g t).statements) m)

    pub found-small : k < (get_or i.entries t no_entry).statements → t * most_statements + k < most_threads * most_statements
    found-small c =
        let (g, e, r) = accepted (read_sheet s) q in
        let p = program-facts s g e r in
        omega (arith, p.threads_few, known g e r, count_is g e r (known g e r), (thread-in p t (known g e r)).few)

    module _ (c : k < (get_or i.entries t no_entry).statements) {p : ℕ} (there : p ≡ get_or i.places (t * most_statements + k) 0) where
      counted : (g : Program) (e : ℕ) → read_sheet s ≡ got g e → k < length (thread_in g t).statements
      counted g e r = omega (arith, count_is g e r (known g e r))

      -- there is one
      pub one_found : AreBytes s → {f : Found} → f ≡ found_at s p → Finds s t k (Some f)
      unfolding found_in is_statement
      one_found o w g e r =
          let a = known g e r in let b = counted g e r in
          let x = index-facts g e q r in
          let y = statement_in g t k in
          let d = (statement-in (program-facts s g e r) t a k b).decoded in
          rw (lt-ltb t (length g.threads) a, lt-ltb k (length (thread_in g t).statements) b)
          (ap Some (w ∙ ap (found_at s) there ∙ (λ j. found_at s (x.places t k a b j))
          ∙ (λ j. record { place = y.place; code = code_at s o g e t k r a b j; least = (d j).least.0; greatest = (d j).greatest.0 })))

      pub found-head : p + 8 ≤ length s
      found-head =
          let (g, e, r) = accepted (read_sheet s) q in
          let h = place-head (program-facts s g e r) (index-facts g e q r) t k (known g e r) (counted g e r) in
          omega (arith, there)

-- ---- what was found, for a sheet that reads

pub record FoundThere (s : Bytes) (t k : ℕ) (f : Found) : Type 0 where
  pub program : Program
  pub end : ℕ
  pub reads : read_sheet s ≡ got program end
  pub there : T (is_statement program t k)
  pub same : f ≡ found_of (statement_in program t k)

there-is : (b : Bool) (x : Statement) (f : Found) → Some f ≡ (if b then Some (found_of x) else None) → T b × (f ≡ found_of x)
there-is true x f e = (tt, cc)
there-is false x f e = absurd (let z : ◌≡◌ {A = ℕ} 0 1 = cc in omega arith)

there-no : (b : Bool) (x : Statement) → None ≡ (if b then Some (found_of x) else None) → b ≡ false
there-no true x e = absurd (let z : ◌≡◌ {A = ℕ} 0 1 = cc in omega arith)
there-no false x e = refl

module _ (s : Bytes) {i : Index} (q : index_of (read_sheet s) ≡ Ok i) (t k : ℕ) where
  pub found-there : {f : Found} → Finds s t k (Some f) → FoundThere s t k f
  unfolding found_in
  found-there {f} w =
      let (g, e, r) = accepted (read_sheet s) q in
      let m = there-is (is_statement g t k) (statement_in g t k) f (w g e r) in
      record { program = g; end = e; reads = r; there = m.0; same = m.1 }

  -- the program has no such statement
  pub found_none : Finds s t k None → (g : Program) × (e : ℕ) × (read_sheet s ≡ got g e) × (is_statement g t k ≡ false)
  unfolding found_in
  found_none w =
      let (g, e, r) = accepted (read_sheet s) q in
      (g, e, r, there-no (is_statement g t k) (statement_in g t k) (w g e r))
