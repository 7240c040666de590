-- What the reader says of the mended sheet, as the definition has it.
use Rattle.std.specs.Prelude.{Ok, Err}
use mathlib.Core.Path.{◌≡◌, sym, ap, ◌∙◌, subst}
use Prim.Native.Nat.{ℕ, ◌≤◌, ◌<◌}
use native.Mathlib.Omega.{arith}
use lib.Dec.{leb, le→leb}
use lib.ListN.{length}
use Rattle.rules.specs.Refusal.{too_long}
use Rattle.rules.specs.Constants.{longest_sheet}
use Rattle.rules.specs.Program.{Program}
use Rattle.rules.specs.Format.{Bytes, Got, got, and_then, need, read_fields}
use Rattle.rules.proofs.IfAt.{need-yes}
use Rattle.refusal.specs.declared.Fault.{Fault}
use Rattle.refusal.specs.Shape.{rule_of, fault_at}
use Rattle.refusal.proofs.Laws.{refusal-of-rule}
use Rattle.field.specs.Outcome.{check_of}
use Rattle.reader.specs.declared.Index.{Index}
use Rattle.reader.specs.Index.{read_up_to, index_of}
use Rattle.reader.proofs.Facts.{accepted, rejected}
use Rattle.mended.specs.Mend.{mended, original, at_place, mend_sheet}
use Rattle.mended.proofs.Length.{at_most_twice}
use Rattle.mended.proofs.Answer.{refused-sheet, mended-long}

module _ (s : Bytes) (h : length s ≤ longest_sheet) {b : Bytes} (is : b ≡ (mended s).bytes) where
  -- the mended sheet is not too long for an index
  fields : read_up_to 32768 b ≡ read_fields (mended s).bytes
  unfolding read_up_to
  fields =
      let m = (mended s).bytes in
      ap (read_up_to 32768) is ∙ need-yes (leb (length m) 32768) too_long 0 (read_fields m) (le→leb (length m) 32768 (omega (arith, at_most_twice s)))

  pub judged-unread : {f : Fault} → Err f ≡ index_of (read_up_to 32768 b) → {q : ℕ} → q ≡ original s (mended s).changes f.place
      → Err (record { refusal = f.refusal; place = q }) ≡ check_of (mend_sheet s)
  judged-unread {f} e {q} o =
      let r = rejected (read_up_to 32768 b) (sym e) in
      (λ i. Err (record { refusal = sym (refusal-of-rule f.refusal) i; place = o i }))
      ∙ sym (ap check_of (refused-sheet s h (rule_of f.refusal) f.place (sym fields ∙ r)))

  module _ {x : Index} (e : Ok x ≡ index_of (read_up_to 32768 b)) where
    reads : (g : Program) × (n : ℕ) × (read_fields (mended s).bytes ≡ got g n)
    reads = let a = accepted (read_up_to 32768 b) (sym e) in (a.0, a.1, sym fields ∙ a.2)

    pub judged-long : longest_sheet < length b → Err (fault_at too_long 0) ≡ check_of (mend_sheet s)
    judged-long l =
        let r = reads in
        sym (ap check_of (mended-long s h r.0 r.1 r.2 (subst (λ (y : Bytes). longest_sheet < length y) is l)))

    good-by : (g : Program) (n : ℕ) → read_fields (mended s).bytes ≡ got g n → length (mended s).bytes ≤ longest_sheet → mend_sheet s ≡ got (mended s) n
    unfolding mend_sheet and_then at_place
    good-by g n r l =
        need-yes (leb (length s) longest_sheet) too_long 0 _ (le→leb (length s) longest_sheet h)
        ∙ ap (λ (y : Got Program). and_then (at_place (original s (mended s).changes) y) (λ _ e. need (leb (length (mended s).bytes) longest_sheet) too_long 0 (got (mended s) e))) r
        ∙ need-yes (leb (length (mended s).bytes) longest_sheet) too_long 0 _ (le→leb (length (mended s).bytes) longest_sheet l)

    pub judged-good : length b ≤ longest_sheet → Ok tt ≡ check_of (mend_sheet s)
    judged-good l =
        let r = reads in
        sym (ap check_of (good-by r.0 r.1 r.2 (subst (λ (y : Bytes). length y ≤ longest_sheet) is l)))

-- what the search is given for `judge`
pub ruleset verdict_laws = (judged-unread, judged-long, judged-good)
