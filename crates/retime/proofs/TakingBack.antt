-- The taking back by what the code finds and tests.
use Rattle.std.specs.Prelude.{Err}
use mathlib.Core.Path.{◌≡◌, sym, ap, ◌∙◌}
use mathlib.Core.Bool.{true, false}
use Prim.Native.Nat.{ℕ}
use lib.Dec.{T}
use Rattle.rules.specs.Refusal.{off_range, changed_since}
use Rattle.rules.specs.Format.{Bytes, bad}
use Rattle.rules.proofs.IfAt.{is_true}
use Rattle.refusal.specs.declared.Refusal.{Refusal}
use Rattle.refusal.specs.declared.Fault.{Fault}
use Rattle.refusal.specs.Shape.{rule_of, fault_of}
use Rattle.reader.specs.Facts.{statement_in}
use Rattle.retimed.specs.Retime.{retimed, may_have, Change}
use Rattle.retimed.specs.TakeBack.{same_times, shows, take_back_times, take_back}
use Rattle.retimed.specs.TakeBackClaims.{restored}
use Rattle.retimed.proofs.TakeBack.{back-off, back-since, back-made, taken_refused, taken_made}
use Rattle.retime.specs.declared.find.Found.{Found}
use Rattle.retime.specs.Shape.{may_by, taken_as, taken_by, taken_of}
use Rattle.retime.proofs.Finding.{FoundThere}
use Rattle.retime.proofs.Changing.{may_of, place-of}

module _ (s : Bytes) (c : Change) where
  -- refused: the number and its place, and the sheet as it was
  pub back-given : (f : Fault) → take_back_times s c ≡ bad (rule_of f.refusal) f.place → taken_of (taken_by (Err f)) s ≡ take_back s c
  back-given f e = sym (taken_refused s c e)

  pub back-placeless : {f : Fault} {r : Refusal} → f ≡ fault_of r → take_back_times s c ≡ bad (rule_of r) 0 → taken_of (taken_by (Err f)) s ≡ take_back s c
  back-placeless {r = r} q e = ap (λ (f : Fault). taken_of (taken_by (Err f)) s) q ∙ back-given (fault_of r) e

  module _ {f : Found} (w : FoundThere s c.thread c.statement f) where
    pub found-off : may_by f.code c.old_least c.old_greatest ≡ false → take_back_times s c ≡ bad off_range 0
    found-off m = back-off s c w.program w.end w.reads w.there (may_of w c.old_least c.old_greatest ∙ m)

    module _ (m : may_by f.code c.old_least c.old_greatest ≡ true) where
      may : T (may_have (statement_in w.program c.thread c.statement) c.old_least c.old_greatest)
      may = is_true (may_have (statement_in w.program c.thread c.statement) c.old_least c.old_greatest) (may_of w c.old_least c.old_greatest ∙ m)

      shows-of : shows (statement_in w.program c.thread c.statement) c.new_least c.new_greatest ≡ same_times f.least f.greatest c.new_least c.new_greatest
      unfolding shows
      shows-of = ap (λ (y : Found). same_times y.least y.greatest c.new_least c.new_greatest) (sym w.same)

      pub found-since : same_times f.least f.greatest c.new_least c.new_greatest ≡ false → take_back_times s c ≡ bad changed_since 0
      found-since n = back-since s c w.program w.end w.reads w.there may (shows-of ∙ n)

      pub found_back : same_times f.least f.greatest c.new_least c.new_greatest ≡ true → {old : Bytes} → old ≡ retimed s f.place c.old_least c.old_greatest
          → taken_of (taken_as 0 0) old ≡ take_back s c
      found_back y a =
          let x = statement_in w.program c.thread c.statement in
          ap (taken_of (taken_as 0 0)) a ∙ ap (λ (p : ℕ). restored (retimed s p c.old_least c.old_greatest)) (sym (place-of w c.old_least c.old_greatest))
          ∙ sym (taken_made s c (back-made s c w.program w.end w.reads w.there may (is_true (shows x c.new_least c.new_greatest) (shows-of ∙ y))))
