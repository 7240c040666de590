-- The claims of `specs/TakeBackClaims`.
use mathlib.Core.Path.{◌≡◌, sym, ap, ◌∙◌}
use Prim.Native.Nat.{ℕ}
use lib.Dec.{T}
use Rattle.rules.specs.Program.{Program}
use Rattle.rules.specs.Format.{Bytes, got, read_sheet}
use Rattle.rules.proofs.Numbers.{of_reader}
use Rattle.reader.specs.Facts.{statement_in}
use Rattle.retimed.specs.Retime.{is_statement, may_have, Change, Changed}
use Rattle.retimed.specs.TakeBack.{shows}
use Rattle.retimed.specs.TakeBackClaims.{restored, Taken, TakeBackClaims}
use Rattle.retimed.proofs.Change.{sheet-unread, statement-absent, times-made, change-made}
use Rattle.retimed.proofs.TakeBack.{back-off, back-since, back-made, taken_refused, taken_made, comes_back, all_come_back}
use Rattle.retimed.proofs.TakeBackWorked.{back-rows-hold}

taken : (s : Bytes) (c : Change) (g : Program) (e : ℕ) → read_sheet s ≡ got g e → T (is_statement g c.thread c.statement)
    → T (may_have (statement_in g c.thread c.statement) c.old_least c.old_greatest) → T (shows (statement_in g c.thread c.statement) c.new_least c.new_greatest) → Taken s c
taken s c g e r i m y =
    let as-change = change-made s c.thread c.statement c.old_least c.old_greatest (times-made s c.thread c.statement c.old_least c.old_greatest g e r i m) in
    record {
      made = ap (λ (x : Changed). x.refusal) as-change;
      answered = taken_made s c (back-made s c g e r i m y) ∙ ap (λ (x : Changed). restored x.sheet) (sym as-change);
    }

pub take-back-claims : TakeBackClaims
take-back-claims = record {
  rows_hold = back-rows-hold;
  comes_back = comes_back;
  all_come_back = λ now s o cs made. all_come_back s o made;
  unread = λ s c r p e. let (some, few) = of_reader s r p e in (taken_refused s c (sheet-unread s c.thread c.statement _ e), some, few);
  absent = λ s c g e r n. taken_refused s c (statement-absent s c.thread c.statement _ g e r n);
  off_range_lem = λ s c g e r i n. taken_refused s c (back-off s c g e r i n);
  changed_since_lem = λ s c g e r i m n. taken_refused s c (back-since s c g e r i m n);
  taken = taken;
}
