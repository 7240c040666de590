-- The answer of mending in the order of its refusals, and what a 0 says.
use mathlib.Core.Path.{◌≡◌, refl, sym, ap, ◌∙◌}
use mathlib.Core.Bool.{◌&&◌}
use Prim.Native.Nat.{ℕ, ◌+◌, ◌-◌, ◌≤◌, ◌<◌}
use native.Mathlib.Decide.{dec_le}
use native.Mathlib.Omega.{arith}
use lib.Dec.{leb, leb→le, le→leb}
use lib.ListN.{length, replicate, length-append, length-replicate}
use borrow.Author.Tests.{lt-leb}
use Rattle.rules.specs.Refusal.{Refusal, too_long, output_full}
use Rattle.rules.specs.Constants.{longest_sheet}
use Rattle.rules.specs.Program.{Program}
use Rattle.rules.specs.Format.{Bytes, Got, bad, got, and_then, need, read_fields, read_sheet}
use Rattle.rules.proofs.Base.{if-ind, and_left, and_right, and_both}
use Rattle.rules.proofs.IfAt.{need-at, with-reading, when-got, need-yes, need-no, if_yes}
use Rattle.rules.proofs.Refusal.{positive}
use Rattle.mended.specs.Mend.{Mended, mended, original, at_place, mend_sheet, numbers_of, Mending, refused_with, mended_with, mend_into, mend}

-- ---- the reader, behind its check of the length

pub sheet-reads : (s : Bytes) (g : Program) (e : ℕ) → length s ≤ longest_sheet → read_fields s ≡ got g e → read_sheet s ≡ got g e
unfolding read_sheet
sheet-reads s g e h r = need-yes (leb (length s) longest_sheet) too_long 0 (read_fields s) (le→leb (length s) longest_sheet h) ∙ r

pub fields_read : (s : Bytes) (g : Program) (e : ℕ) → read_sheet s ≡ got g e → (length s ≤ longest_sheet) × (read_fields s ≡ got g e)
unfolding read_sheet
fields_read s g e r =
    let P : Program → ℕ → Type 0 = λ g e. (length s ≤ longest_sheet) × (read_fields s ≡ got g e) in
    when-got P (read_sheet s)
    (need-at P (leb (length s) longest_sheet) too_long 0 (read_fields s) (λ t. with-reading P (read_fields s) (λ g e r. (leb→le (length s) longest_sheet t, r)))) g e r

-- ---- what is written lies in its output

into-inside : (n k : ℕ) (g : Got Mended) → ((mend_into n k g).written ≤ length (mend_into n k g).sheet) × ((mend_into n k g).listed ≤ length (mend_into n k g).list)
unfolding mend_into
into-inside n k (bad r p) = (omega arith, omega arith)
into-inside n k (got m e) =
    if-ind (leb (length m.bytes) n && leb (length (numbers_of m.changes)) k) _ _ (λ (x : Mending). (x.written ≤ length x.sheet) × (x.listed ≤ length x.list))
    (λ _. (omega (arith, length-append m.bytes (replicate (n - length m.bytes) 0)), omega (arith, length-append (numbers_of m.changes) (replicate (k - length (numbers_of m.changes)) 0))))
    (λ _. (omega arith, omega arith))

pub answer-inside : (s : Bytes) (n k : ℕ) → ((mend s n k).written ≤ length (mend s n k).sheet) × ((mend s n k).listed ≤ length (mend s n k).list)
unfolding mend
answer-inside s n k = into-inside n k (mend_sheet s)

-- and the list is as long as its buffer
into-long : (n k : ℕ) (g : Got Mended) → length (mend_into n k g).list ≡ k
unfolding mend_into
into-long n k (bad r p) = length-replicate k 0
into-long n k (got m e) =
    let a = leb (length m.bytes) n in
    let ns = numbers_of m.changes in
    let b = leb (length ns) k in
    if-ind (a && b) _ _ (λ (x : Mending). length x.list ≡ k)
    (λ t.
    let h = leb→le (length ns) k (and_right a b t) in
    let f = length-replicate {A = ℕ} (k - length ns) 0 in
    let z : length ns + length (replicate (k - length ns) 0) ≡ k = omega arith in
    length-append ns (replicate (k - length ns) 0) ∙ z)
    (λ _. length-replicate k 0)

pub list-long : (s : Bytes) (n k : ℕ) → length (mend s n k).list ≡ k
unfolding mend
list-long s n k = into-long n k (mend_sheet s)

module _ (s : Bytes) where
  abbrev m : Mended
  m = mended s

  abbrev placed : Got Program → Got Program
  placed = at_place (original s m.changes)

  abbrev measured : Program → ℕ → Got Mended
  measured g e = need (leb (length m.bytes) longest_sheet) too_long 0 (got m e)

  -- ---- before the buffers

  long-sheet : longest_sheet < length s → mend_sheet s ≡ bad too_long 0
  unfolding mend_sheet
  long-sheet h = need-no (leb (length s) longest_sheet) too_long 0 (and_then (placed (read_fields m.bytes)) measured) (lt-leb (length s) longest_sheet h)

  module _ (h : length s ≤ longest_sheet) where
    read-on : (x : Got Program) → read_fields m.bytes ≡ x → mend_sheet s ≡ and_then (placed x) measured
    unfolding mend_sheet
    read-on x r =
        need-yes (leb (length s) longest_sheet) too_long 0 (and_then (placed (read_fields m.bytes)) measured) (le→leb (length s) longest_sheet h)
        ∙ ap (λ (y : Got Program). and_then (placed y) measured) r

    pub refused-sheet : (r : Refusal) (q : ℕ) → read_fields m.bytes ≡ bad r q → mend_sheet s ≡ bad r (original s m.changes q)
    unfolding and_then at_place
    refused-sheet r q e = read-on (bad r q) e

    read-sheet : (g : Program) (e : ℕ) → read_fields m.bytes ≡ got g e → mend_sheet s ≡ measured g e
    unfolding and_then at_place
    read-sheet g e r = read-on (got g e) r

    pub mended-long : (g : Program) (e : ℕ) → read_fields m.bytes ≡ got g e → longest_sheet < length m.bytes → mend_sheet s ≡ bad too_long 0
    mended-long g e r l = read-sheet g e r ∙ need-no (leb (length m.bytes) longest_sheet) too_long 0 (got m e) (lt-leb (length m.bytes) longest_sheet l)

    mended-sheet : (g : Program) (e : ℕ) → read_sheet m.bytes ≡ got g e → mend_sheet s ≡ got m e
    mended-sheet g e r =
        let f = fields_read m.bytes g e r in
        read-sheet g e f.1 ∙ need-yes (leb (length m.bytes) longest_sheet) too_long 0 (got m e) (le→leb (length m.bytes) longest_sheet f.0)

  -- ---- into buffers of n bytes and k numbers

  module _ (n k : ℕ) where
    pub refused-into : (r : Refusal) (p : ℕ) → mend_sheet s ≡ bad r p → mend s n k ≡ refused_with n k r p
    unfolding mend mend_into
    refused-into r p e = ap (mend_into n k) e

    pub too_long_lem : longest_sheet < length s → mend s n k ≡ refused_with n k too_long 0
    too_long_lem h = refused-into too_long 0 (long-sheet h)

    pub unread : (r : Refusal) (q : ℕ) → length s ≤ longest_sheet → read_fields m.bytes ≡ bad r q → mend s n k ≡ refused_with n k r (original s m.changes q)
    unread r q h e = refused-into r (original s m.changes q) (refused-sheet h r q e)

    pub mended_too_long : (g : Program) (e : ℕ) → length s ≤ longest_sheet → read_fields m.bytes ≡ got g e → longest_sheet < length m.bytes → mend s n k ≡ refused_with n k too_long 0
    mended_too_long g e h r l = refused-into too_long 0 (mended-long h g e r l)

    module _ (g : Program) (e : ℕ) (h : length s ≤ longest_sheet) (r : read_sheet m.bytes ≡ got g e) where
      -- one of them has too little room
      full : (length m.bytes ≤ n → length (numbers_of m.changes) ≤ k → ⊥) → mend s n k ≡ refused_with n k output_full 0
      unfolding mend mend_into
      full f =
          let a = leb (length m.bytes) n in
          let b = leb (length (numbers_of m.changes)) k in
          ap (mend_into n k) (mended-sheet h g e r)
          ∙ if-ind (a && b) _ _ (λ (x : Mending). x ≡ refused_with n k output_full 0)
          (λ t. absurd (f (leb→le (length m.bytes) n (and_left a b t)) (leb→le (length (numbers_of m.changes)) k (and_right a b t)))) (λ _. refl)

      pub sheet_full : n < length m.bytes → mend s n k ≡ refused_with n k output_full 0
      sheet_full l = full (λ a _. omega arith)

      pub list_full : k < length (numbers_of m.changes) → mend s n k ≡ refused_with n k output_full 0
      list_full l = full (λ _ b. omega arith)

      pub mends : length m.bytes ≤ n → length (numbers_of m.changes) ≤ k → mend s n k ≡ mended_with n k m
      unfolding mend mend_into
      mends l i =
          let a = leb (length m.bytes) n in
          let b = leb (length (numbers_of m.changes)) k in
          ap (mend_into n k) (mended-sheet h g e r)
          ∙ if_yes (a && b) (mended_with n k m) (refused_with n k output_full 0) (and_both a b (le→leb (length m.bytes) n l) (le→leb (length (numbers_of m.changes)) k i))

    -- ---- an answer of 0: the sheet is mended, and reads well

    pub record Mends : Type 0 where
      pub answer : mend s n k ≡ mended_with n k (mended s)
      pub program : Program
      pub end : ℕ
      pub reads : read_sheet (mended s).bytes ≡ got program end

    module _ (z : (mend s n k).refusal ≡ 0) where
      not-refused : {X : Type 0} (r : Refusal) (p : ℕ) → mend s n k ≡ refused_with n k r p → X
      not-refused r p e = absurd (positive r (ap (λ (a : Mending). a.refusal) (sym e) ∙ z))

      read-mends : length s ≤ longest_sheet → (x : Got Program) → read_fields m.bytes ≡ x → Mends
      read-mends h (bad r q) e = not-refused r (original s m.changes q) (unread r q h e)
      read-mends h (got g e) r = elim (dec_le (length m.bytes) longest_sheet) [
        | no l ↦ not-refused too_long 0 (mended_too_long g e h r (omega arith))
        | yes l ↦
            let reads = sheet-reads m.bytes g e l r in
            elim (dec_le (length m.bytes) n) [
              | no a ↦ not-refused output_full 0 (sheet_full g e h reads (omega arith))
              | yes a ↦ elim (dec_le (length (numbers_of m.changes)) k) [
                | no b ↦ not-refused output_full 0 (list_full g e h reads (omega arith))
                | yes b ↦ record { answer = mends g e h reads a b; program = g; end = e; reads = reads }
              ]
            ]
      ]

      pub zero-mends : Mends
      zero-mends = elim (dec_le (length s) longest_sheet) [
        | no l ↦ not-refused too_long 0 (too_long_lem (omega arith))
        | yes l ↦ read-mends l (read_fields m.bytes) refl
      ]
