-- The claims of `specs/Claims.antt`, proved.
use mathlib.Core.Path.{◌≡◌, sym, ap, ◌∙◌, subst}
use Prim.Native.Nat.{ℕ, ◌≤◌}
use native.Mathlib.Omega.{arith}
use lib.ListN.{length, take}
use lib.Seq.{take-append_seam}
use Rattle.rules.specs.Program.{Program}
use Rattle.rules.specs.Format.{Bytes, got, read_sheet}
use Rattle.mended.specs.Mend.{Mended, copied, mended, numbers_of, Mending, mended_with, mend}
use Rattle.mended.specs.Claims.{MendsWell, MendClaims}
use Rattle.mended.proofs.Length.{at_most_twice, numbers_at_most}
use Rattle.mended.proofs.Applied.{changes-applied}
use Rattle.mended.proofs.Places.{place_stands, place_kept, place_in_halt, end_moved}
use Rattle.mended.proofs.Copy.{reads-copied}
use Rattle.mended.proofs.Answer.{fields_read, too_long_lem, unread, mended_too_long, sheet_full, list_full, mends, zero-mends}
use Rattle.mended.proofs.Worked.{rows_hold}

module _ (s : Bytes) (n k : ℕ) where
  -- where the answer is 0, each output begins with what it is to hold
  module _ (z : (mend s n k).refusal ≡ 0) where
    sheet_is : take (mend s n k).written (mend s n k).sheet ≡ (mended s).bytes
    sheet_is = ap (λ (a : Mending). take a.written a.sheet) (zero-mends s n k z).answer ∙ take-append_seam (mended s).bytes _

    list_is : take (mend s n k).listed (mend s n k).list ≡ numbers_of (mended s).changes
    list_is = ap (λ (a : Mending). take a.listed a.list) (zero-mends s n k z).answer ∙ take-append_seam (numbers_of (mended s).changes) _

  good_copied : (g : Program) (e : ℕ) → read_sheet s ≡ got g e → length s ≤ n → mend s n k ≡ mended_with n k (copied s)
  unfolding numbers_of
  good_copied g e r room =
      let same = reads-copied s g e r in
      let few : length (mended s).bytes ≤ n = subst (λ (m : Mended). length m.bytes ≤ n) (sym same) room in
      let empty : length (numbers_of (mended s).changes) ≤ k = subst (λ (m : Mended). length (numbers_of m.changes) ≤ k) (sym same) (omega arith) in
      mends s n k g e (fields_read s g e r).0 (ap (λ (m : Mended). read_sheet m.bytes) same ∙ r) few empty ∙ ap (mended_with n k) same

  mends_well : MendsWell s n k
  mends_well = record {
    reads_well = λ z. let w = zero-mends s n k z in (w.program, w.end, ap read_sheet (sheet_is z) ∙ w.reads);
    good_copied = good_copied;
    changes_made = λ z. ((mended s).changes, sym (list_is z), changes-applied s ∙ sym (sheet_is z));
  }

pub mend-claims : MendClaims
mend-claims = record {
  rows_hold = rows_hold;
  mends_well = mends_well;
  too_long_lem = too_long_lem;
  unread = unread;
  mended_too_long = mended_too_long;
  sheet_full = sheet_full;
  list_full = list_full;
  mends = mends;
  place_stands = place_stands;
  place_kept = place_kept;
  place_in_halt = place_in_halt;
  end_moved = end_moved;
  at_most_twice = at_most_twice;
  numbers_at_most = numbers_at_most;
}
