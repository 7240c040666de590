-- The five numbers of a preview by what the code gives.
use Rattle.refusal.specs.Shape.{fault_of}
use Rattle.std.specs.Prelude.{Ok, Err}
use mathlib.Core.Path.{◌≡◌, sym, ap, ◌∙◌}
use Prim.Native.Nat.{ℕ, ◌≤◌, ◌<◌}
use lib.ListN.{length}
use Rattle.rules.specs.Format.{Bytes, Got, bad, got, read_sheet}
use Rattle.rules.specs.Search.{five, answer}
use Rattle.rules.proofs.Refusal.{positive}
use Rattle.refusal.specs.declared.Refusal.TheVariants.{OutputFull}
use Rattle.refusal.specs.declared.Fault.{Fault}
use Rattle.reader.specs.declared.Index.{Index}
use Rattle.reader.specs.Index.{index_of}
use Rattle.reader.proofs.Facts.{accepted, rejected}
use Rattle.label.specs.declared.Answer.{Answer}
use Rattle.label.specs.Shape.{answer_of}
use Rattle.retimed.specs.Retime.{Done, Changed, change_times, changed, change, checked, preview_answer}
use Rattle.retimed.proofs.Preview.{preview-unread, preview-full, preview-room}
use Rattle.retime.specs.declared.change.Change as D
use Rattle.retime.specs.Shape.{changed_by, changed_of, answer_by}

-- ---- the check of the changed copy, by what the change gave

changed-good : (s : Bytes) (G : Got Done) {x : Changed} → x ≡ changed s G → x.refusal ≡ 0 → (n : ℕ) → answer x.sheet n ≡ checked n G
unfolding changed checked
changed-good s (bad r p) h z n = absurd (positive r (ap (λ (y : Changed). y.refusal) (sym h) ∙ z))
changed-good s (got d e) h z n = ap (λ (y : Changed). answer y.sheet n) h

changed-bad : (s : Bytes) (G : Got Done) {x : Changed} → x ≡ changed s G → (x.refusal ≡ 0 → ⊥) → (n : ℕ) → five x.refusal x.place 0 0 0 ≡ checked n G
unfolding changed checked
changed-bad s (bad r p) h z n = λ i. five (h i).refusal (h i).place 0 0 0
changed-bad s (got d e) h z n = absurd (z (ap (λ (y : Changed). y.refusal) h))

-- ---- with m bytes for the copy and n numbers lent

module _ (s : Bytes) (m n t k l h : ℕ) where
  -- the sheet is refused
  pub preview-faulty : (f : Fault) → index_of (read_sheet s) ≡ Err f → answer_of (answer_by (Err f)) ≡ preview_answer s m n t k l h
  preview-faulty f q = sym (preview-unread s m n t k l h (rejected (read_sheet s) q))

  module _ {i : Index} (q : index_of (read_sheet s) ≡ Ok i) where
    -- there is no room for its copy
    pub preview-short : m < length s → {f : Fault} → f ≡ fault_of OutputFull → answer_of (answer_by (Err f)) ≡ preview_answer s m n t k l h
    preview-short c e =
        let (g, p, r) = accepted (read_sheet s) q in
        ap (λ (f : Fault). answer_of (answer_by (Err f))) e ∙ sym (preview-full s m n t k l h g p r c)

    room : length s ≤ m → {u : Bytes} → u ≡ s → checked n (change_times u t k l h) ≡ preview_answer s m n t k l h
    room c e =
        let (g, p, r) = accepted (read_sheet s) q in
        ap (λ (u : Bytes). checked n (change_times u t k l h)) e ∙ sym (preview-room s m n t k l h g p r c)

    module _ (c : length s ≤ m) {copy new : Bytes} (same : copy ≡ s) where
      -- the change is refused
      pub preview-kept : (f : Fault) → changed_of (changed_by (Err f)) new ≡ change copy t k l h → answer_of (answer_by (Err f)) ≡ preview_answer s m n t k l h
      unfolding change
      preview-kept f b = changed-bad copy (change_times copy t k l h) b (positive _) n ∙ room c same

      -- the changed copy is checked
      pub preview-checked : (d : D.Change) → changed_of (changed_by (Ok d)) new ≡ change copy t k l h → (a : Answer) → answer_of a ≡ answer new n
          → answer_of a ≡ preview_answer s m n t k l h
      unfolding change
      preview-checked d b a e = e ∙ changed-good copy (change_times copy t k l h) b (λ j. 0) n ∙ room c same

-- for the search
pub ruleset preview_laws = (preview-faulty, preview-short)
