-- What is claimed of mending (02, ticket 13) beside what the call promises of one sheet.
use Rattle.std.specs.Prelude.{◌≡◌, List, [], ◌∷◌, ◌++◌, ℕ, ◌+◌, ◌*◌, ◌≤◌, ◌<◌, leb, length, take, drop, if◌then◌else◌}
use Rattle.std.proofs.Math.Seq.{slice}
use Rattle.rules.specs.Base.{Each}
use Rattle.rules.specs.Refusal.{Refusal, too_long, output_full}
use Rattle.rules.specs.Constants.{longest_sheet}
use Rattle.rules.specs.Program.{Program}
use Rattle.rules.specs.Format.{Bytes, bad, got, read_fields, read_sheet}
use Rattle.rules.specs.Sheets.{halt}
use Rattle.mended.specs.Mend.{Change, exchanged, halt_added, copied, behind, exchanged_field, mended, original, numbers_of, refused_with, mended_with, mend}
use Rattle.mended.specs.Worked.{rows, Holds}

-- ---- the changes listed, made in the original from a place on

unfoldable pub applied : Bytes → ℕ → List Change → Bytes
applied s p [] = drop p s
applied s p (exchanged at ∷ cs) = slice p at s ++ (exchanged_field s at ++ applied s (behind s at) cs)
applied s p (halt_added at ∷ cs) = slice p (behind s at) s ++ (halt ++ applied s (behind s at) cs)

-- ---- places of the mended sheet

-- how many halts are added before a place of the original: each behind a statement that ends there or before
unfoldable pub halts_before : Bytes → List Change → ℕ → ℕ
halts_before s [] p = 0
halts_before s (exchanged at ∷ cs) p = halts_before s cs p
halts_before s (halt_added at ∷ cs) p = (if leb (behind s at) p then 1 else 0) + halts_before s cs p

-- a halt was added behind the statement at p
pub data GotHalt (p : ℕ) : List Change → Type 0 where
  this : {cs : List Change} → GotHalt p (halt_added p ∷ cs)
  later : {c : Change} {cs : List Change} → GotHalt p cs → GotHalt p (c ∷ cs)

-- where a place of the original stands in the mended sheet
abbrev pub moved_to : Bytes → List Change → ℕ → ℕ
moved_to s cs p = p + length halt * halts_before s cs p

-- the place q of the mended sheet lies in the halt that was added behind the statement at p, which ends where the place behind that
-- statement has moved to
pub record InHalt (s : Bytes) (cs : List Change) (q p : ℕ) : Type 0 where
  pub got_halt : GotHalt p cs
  pub before_end : q < moved_to s cs (behind s p)
  pub from_start : moved_to s cs (behind s p) ≤ q + length halt

-- the place q of the mended sheet stands for the place p of the original: it is where p has moved to, or it lies in p's added halt
pub data StandsFor (s : Bytes) (cs : List Change) (q p : ℕ) : Type 0 where
  moved : q ≡ moved_to s cs p → StandsFor s cs q p
  in_halt : InHalt s cs q p → StandsFor s cs q p

-- ---- what holds of one sheet, mended into buffers of n bytes and k numbers

pub record MendsWell (s : Bytes) (n k : ℕ) : Type 0 where
  -- "The mended sheet reads well."
  pub reads_well : (mend s n k).refusal ≡ 0 → (g : Program) × (e : ℕ) × (read_sheet (take (mend s n k).written (mend s n k).sheet) ≡ got g e)
  -- "A sheet that reads well is copied with no changes listed."
  pub good_copied : (g : Program) (e : ℕ) → read_sheet s ≡ got g e → length s ≤ n → mend s n k ≡ mended_with n k (copied s)
  -- the changes listed, made in the original, give the mended sheet
  pub changes_made : (mend s n k).refusal ≡ 0
      → (cs : List Change) × (numbers_of cs ≡ take (mend s n k).listed (mend s n k).list) × (applied s 0 cs ≡ take (mend s n k).written (mend s n k).sheet)

-- ---- all that is claimed

pub record MendClaims : Type 0 where
  pub rows_hold : Each Holds rows
  pub mends_well : (s : Bytes) (n k : ℕ) → MendsWell s n k
  -- the order of the refusals, with room for n bytes and k numbers: "9 tried on the original"
  pub too_long_lem : (s : Bytes) (n k : ℕ) → longest_sheet < length s → mend s n k ≡ refused_with n k too_long 0
  -- "the number and place the reader would give once those changes are made, [..] the place counted in the original sheet"
  pub unread : (s : Bytes) (n k : ℕ) (r : Refusal) (q : ℕ) → length s ≤ longest_sheet → read_fields (mended s).bytes ≡ bad r q
      → mend s n k ≡ refused_with n k r (original s (mended s).changes q)
  -- "then 9, place 0, where added halts make the sheet too long"
  pub mended_too_long : (s : Bytes) (n k : ℕ) (g : Program) (e : ℕ) → length s ≤ longest_sheet → read_fields (mended s).bytes ≡ got g e
      → longest_sheet < length (mended s).bytes → mend s n k ≡ refused_with n k too_long 0
  -- "then 19 for either output, place 0": where one of them has too little room
  pub sheet_full : (s : Bytes) (n k : ℕ) (g : Program) (e : ℕ) → length s ≤ longest_sheet → read_sheet (mended s).bytes ≡ got g e
      → n < length (mended s).bytes → mend s n k ≡ refused_with n k output_full 0
  pub list_full : (s : Bytes) (n k : ℕ) (g : Program) (e : ℕ) → length s ≤ longest_sheet → read_sheet (mended s).bytes ≡ got g e
      → k < length (numbers_of (mended s).changes) → mend s n k ≡ refused_with n k output_full 0
  -- otherwise it is mended
  pub mends : (s : Bytes) (n k : ℕ) (g : Program) (e : ℕ) → length s ≤ longest_sheet → read_sheet (mended s).bytes ≡ got g e
      → length (mended s).bytes ≤ n → length (numbers_of (mended s).changes) ≤ k → mend s n k ≡ mended_with n k (mended s)
  -- the place of a refusal: every place of the mended sheet stands for the one that is given, each place of the original is given for the
  -- one it has moved to, each statement that got a halt for the places in that halt; and the end has moved to the end
  pub place_stands : (s : Bytes) (q : ℕ) → StandsFor s (mended s).changes q (original s (mended s).changes q)
  pub place_kept : (s : Bytes) (p : ℕ) → original s (mended s).changes (moved_to s (mended s).changes p) ≡ p
  pub place_in_halt : (s : Bytes) (q p : ℕ) → InHalt s (mended s).changes q p → original s (mended s).changes q ≡ p
  pub end_moved : (s : Bytes) → length (mended s).bytes ≡ moved_to s (mended s).changes (length s)
  -- how much room is enough
  pub at_most_twice : (s : Bytes) → length (mended s).bytes ≤ 2 * length s
  pub numbers_at_most : (s : Bytes) → 2 * length (numbers_of (mended s).changes) ≤ length s
