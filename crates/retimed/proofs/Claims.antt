-- The claims of `specs/Claims`.
use mathlib.Core.Path.{◌≡◌, refl, sym, ap, subst, ◌∙◌}
use mathlib.Core.Bool.{Bool, true, false}
use Prim.Native.Nat.{ℕ}
use lib.Dec.{leb}
use lib.ListN.{length}
use Rattle.rules.specs.Refusal.{Refusal, off_range, no_such_name, output_full}
use Rattle.rules.specs.Program.{Program}
use Rattle.rules.specs.Format.{Bytes, AreBytes, Got, bad, got, need, and_then, read_sheet}
use Rattle.rules.specs.Search.{Answer, answer}
use Rattle.rules.specs.Demands.{WindowInside, HoldsOfSheet}
use Rattle.rules.proofs.Refusal.{positive}
use Rattle.rules.proofs.Numbers.{of_reader}
use Rattle.rules.proofs.Demands.{accepted-inside, accepted_holds}
use Rattle.retimed.specs.Retime.{Done, Changed, change_times, change, retime, checked, preview_answer}
use Rattle.retimed.specs.Claims.{ReadsRetimed, HoldsRetimed, Refused, Unread, RetimeClaims}
use Rattle.retimed.proofs.Change.{sheet-unread, statement-absent, times-off, change-refused, change-made}
use Rattle.retimed.proofs.Preview.{preview-unread, preview-full, preview-room}
use Rattle.retimed.proofs.Made.{made, same_again, made_of, was-made}
use Rattle.retimed.proofs.Worked.{rows_hold}

-- ---- what the calls cite

module _ (s : Bytes) (o : AreBytes s) (t k l h : ℕ) where
  pub reads-retimed : ReadsRetimed s t k l h
  reads-retimed z g e r =
      let w = was-made s o t k l h z in
      let same : got (made_of s t k l h z).program (made_of s t k l h z).end ≡ got g e = sym (made_of s t k l h z).reads ∙ r in
      let program : (made_of s t k l h z).program ≡ g = cc in
      let end : (made_of s t k l h z).end ≡ e = cc in
      ap (λ (x : Changed). read_sheet x.sheet) w.answered ∙ w.reads ∙ (λ i. got (retime (program i) t k l h) (end i))

-- the outcome of a change that was checked and accepted
record Accepted (s : Bytes) (m n t k l h : ℕ) : Type 0 where
  done : Done
  end : ℕ
  outcome : change_times s t k l h ≡ got done end
  shown : preview_answer s m n t k l h ≡ answer done.sheet n

module _ (s : Bytes) (m n t k l h : ℕ) where
  was-accepted : (preview_answer s m n t k l h).refusal ≡ 0 → Accepted s m n t k l h
  unfolding preview_answer checked and_then need
  was-accepted z =
      let (d, e, outcome, shown) = by (read_sheet s) (leb (length s) m) (change_times s t k l h) z in
      record { done = d; end = e; outcome = outcome; shown = shown }
    where
      by : (x : Got Program) (b : Bool) (c : Got Done) → (checked n (and_then x (λ g e. need b output_full 0 c))).refusal ≡ 0
          → (d : Done) × (e : ℕ) × (c ≡ got d e) × (checked n (and_then x (λ g e. need b output_full 0 c)) ≡ answer d.sheet n)
      by (bad r p) b c z = absurd (positive r z)
      by (got g e) true (bad r p) z = absurd (positive r z)
      by (got g e) true (got d q) z = (d, q, refl, refl)
      by (got g e) false c z = absurd (positive output_full z)

  pub accepted-preview : (preview_answer s m n t k l h).refusal ≡ 0
      → HoldsRetimed s t k l h (preview_answer s m n t k l h)
  accepted-preview z =
      let a = was-accepted z in
      let shown = a.shown in
      let new = a.done.sheet in
      let zero : (answer new n).refusal ≡ 0 = sym (ap (λ (x : Answer). x.refusal) shown) ∙ z in
      let sheet : (change s t k l h).sheet ≡ new = ap (λ (x : Changed). x.sheet) (change-made s t k l h a.outcome) in
      record {
        holds = subst HoldsOfSheet (sym sheet) (accepted_holds new n zero);
        window = subst (WindowInside (change s t k l h).sheet) (sym shown) (subst (λ (x : Bytes). WindowInside x (answer new n)) (sym sheet) (accepted-inside new n zero));
      }

-- ---- the claims

refused_as_lem : (s : Bytes) (t k l h : ℕ) (r : Refusal) (g : Program) (e : ℕ) → read_sheet s ≡ got g e → change_times s t k l h ≡ bad r 0 → Refused s t k l h r
unfolding checked
refused_as_lem s t k l h r g e q c = record {
  answered = change-refused s t k l h c;
  previewed = λ m n w. preview-room s m n t k l h g e q w ∙ ap (checked n) c;
}

unread-as : (s : Bytes) (t k l h : ℕ) (r : Refusal) (p : ℕ) → read_sheet s ≡ bad r p → Unread s t k l h r p
unread-as s t k l h r p e = record {
  answered = change-refused s t k l h (sheet-unread s t k _ e);
  previewed = λ m n. preview-unread s m n t k l h e;
  of_reader = of_reader s r p e;
}

pub retime-claims : RetimeClaims
retime-claims = record {
  rows_hold = rows_hold;
  unread = unread-as;
  full = λ s m n t k l h g e r c. preview-full s m n t k l h g e r c;
  absent = λ s t k l h g e r i. refused_as_lem s t k l h no_such_name g e r (statement-absent s t k _ g e r i);
  off_range_lem = λ s t k l h g e r i m. refused_as_lem s t k l h off_range g e r (times-off s t k l h g e r i m);
  made = made;
  same_again = same_again;
  accepted_holds = accepted-preview;
}
