-- The five numbers of a preview, case by case.
use mathlib.Core.Path.{◌≡◌, ap, ◌∙◌}
use Prim.Native.Nat.{ℕ, ◌≤◌, ◌<◌}
use borrow.Author.Tests.{lt-leb}
use lib.Dec.{leb, le→leb}
use lib.ListN.{length}
use Rattle.rules.specs.Refusal as R
use Rattle.rules.specs.Refusal.{number, output_full}
use Rattle.rules.specs.Program.{Program}
use Rattle.rules.specs.Format.{Bytes, bad, got, read_sheet}
use Rattle.rules.specs.Search.{five}
use Rattle.rules.proofs.IfAt.{need-yes, need-no, then-got, then-bad}
use Rattle.retimed.specs.Retime.{change_times, checked, preview_answer}

module _ (s : Bytes) (m n t k l h : ℕ) where
  pub preview-unread : {r : R.Refusal} {p : ℕ} → read_sheet s ≡ bad r p → preview_answer s m n t k l h ≡ five (number r) p 0 0 0
  unfolding preview_answer checked
  preview-unread e = ap (checked n) (then-bad _ e)

  module _ (g : Program) (e : ℕ) (r : read_sheet s ≡ got g e) where
    pub preview-full : m < length s → preview_answer s m n t k l h ≡ five (number output_full) 0 0 0 0
    unfolding preview_answer checked
    preview-full c = ap (checked n) (then-got _ r ∙ need-no (leb (length s) m) output_full 0 (change_times s t k l h) (lt-leb (length s) m c))

    pub preview-room : length s ≤ m → preview_answer s m n t k l h ≡ checked n (change_times s t k l h)
    unfolding preview_answer
    preview-room c = ap (checked n) (then-got _ r ∙ need-yes (leb (length s) m) output_full 0 (change_times s t k l h) (le→leb (length s) m c))
