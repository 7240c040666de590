-- What the walk leaves in both buffers, and what the call makes of it.
use Rattle.std.specs.Prelude.{if◌then◌else◌, Ok, Err}
use mathlib.Core.Path.{◌≡◌, refl, sym, ap, ap₂, ◌∙◌}
use mathlib.Core.Bool.{Bool, ◌&&◌}
use mathlib.Core.List.{List, ◌++◌}
use Prim.Native.Nat.{ℕ, ◌*◌, ◌≤◌, ◌<◌}
use native.Mathlib.Decide.{dec_le}
use native.Mathlib.Omega.{arith}
use lib.Dec.{leb, le→leb, leb→le}
use lib.ListN.{length, take, drop}
use lib.Seq.{take-append_seam}
use Rattle.rules.specs.Refusal as R
use Rattle.rules.specs.Constants.{longest_sheet}
use Rattle.rules.specs.Format.{Bytes, Got, bad, got}
use Rattle.rules.proofs.Base.{if-ind, and_left, and_right, and_both}
use Rattle.rules.proofs.IfAt.{IfAt, need-at, then_at, with-reading, when-got, if_yes}
use Rattle.refusal.specs.declared.Fault.{Fault}
use Rattle.refusal.specs.Shape.{rule_of, fault_at}
use Rattle.field.specs.Outcome.{check_of}
use Rattle.field.proofs.outcome.Laws.{fault-is}
use Rattle.writing.proofs.Written.{fits-front, fits-inside, writes-length, writes-past}
use Rattle.mended.specs.Mend.{Mended, mended, numbers_of, Mending, refused_with, mended_with, mend_sheet, mend_into, mend}
use Rattle.mended.specs.Claims.{MendsWell}
use Rattle.mended.proofs.Claims.{mend-claims}
use Rattle.mended.proofs.Length.{at_most_twice}
use Rattle.mended.proofs.Answer.{refused-into, too_long_lem}
use Rattle.mend.specs.declared.writer.Ends.{Ends}
use Rattle.mend.specs.Shape.{no_ends, Puts}

-- ---- after the walk, in a work buffer that has room

module _ (s : Bytes) {work₀ : Bytes} {list₀ : List ℕ} {work : Bytes} {list : List ℕ} {ends : Ends} (p : Puts (mended s) work₀ list₀ no_ends work list ends) where
  abbrev bytes : Bytes
  bytes = (mended s).bytes

  abbrev numbers : List ℕ
  numbers = numbers_of (mended s).changes

  module _ (short : length s ≤ longest_sheet) (room : 2 * longest_sheet ≤ length work₀) where
    front : (work ≡ bytes ++ drop (length bytes) work₀) × (ends.bytes ≡ length bytes)
    front = fits-front bytes work₀ work ends.bytes p.bytes_put (omega (arith, at_most_twice s))

    pub end-inside : ends.bytes ≤ length work
    end-inside = fits-inside bytes work₀ work ends.bytes p.bytes_put (omega (arith, at_most_twice s))

    pub written-end : ends.bytes ≡ length bytes
    written-end = front.1

    pub written_bytes : take ends.bytes work ≡ bytes
    written_bytes = ap₂ take front.1 front.0 ∙ take-append_seam bytes (drop (length bytes) work₀)

  list_length : length list ≡ length list₀
  list_length = writes-length numbers list₀ list 0 ends.numbers p.changes_put

  -- the list has room just where its end lies in it
  pub list-fits : ends.numbers ≤ length list₀ → length numbers ≤ length list₀
  list-fits h = elim (dec_le (length numbers) (length list₀)) [
    | yes i ↦ i
    | no i ↦ let e = writes-past numbers list₀ list ends.numbers p.changes_put (omega arith) in absurd (omega (arith, list_length))
  ]

  pub list-front : length numbers ≤ length list₀ → (list ≡ numbers ++ drop (length numbers) list₀) × (ends.numbers ≡ length numbers)
  list-front h = fits-front numbers list₀ list ends.numbers p.changes_put h

-- ---- the answer

-- back from a check
bad-check : {A : Type 0} {f : Fault} (g : Got A) → Err f ≡ check_of g → g ≡ bad (rule_of f.refusal) f.place
bad-check {f = f} (bad r p) e = let h : f ≡ fault_at r p = cc in let w = fault-is r p h in λ i. bad (w.0 i) (w.1 i)
bad-check (got a q) e = absurd (cc)

got-check : {A : Type 0} (g : Got A) → Ok tt ≡ check_of g → (a : A) × (q : ℕ) × (g ≡ got a q)
got-check (bad r p) e = absurd (cc)
got-check (got a q) e = (a, q, refl)

module _ (s : Bytes) (n k : ℕ) where
  pub too-long : longest_sheet < length s → refused_with n k R.too_long 0 ≡ mend s n k
  too-long h = sym (too_long_lem s n k h)

  pub unread : {f : Fault} → Err f ≡ check_of (mend_sheet s) → refused_with n k (rule_of f.refusal) f.place ≡ mend s n k
  unread {f} e = sym (refused-into s n k (rule_of f.refusal) f.place (bad-check (mend_sheet s) e))

  -- the definition's mended sheet is the one that was written
  is-mended : IfAt (λ m _. m ≡ mended s) (mend_sheet s)
  unfolding mend_sheet
  is-mended =
      let P : Mended → ℕ → Type 0 = λ m _. m ≡ mended s in
      need-at P _ _ 0 _ (λ _. then_at (λ _ _. Unit {0}) P _ _ (with-reading (λ _ _. Unit {0}) _ (λ _ _ _. tt)) (λ _ _ _. need-at P _ _ 0 _ (λ _. refl)))

  module _ (e : Ok tt ≡ check_of (mend_sheet s)) where
    abbrev m : Mended
    m = mended s

    abbrev fit : Bool
    fit = leb (length m.bytes) n && leb (length (numbers_of m.changes)) k

    good : mend s n k ≡ (if fit then mended_with n k m else refused_with n k R.output_full 0)
    unfolding mend mend_into
    good =
        let g = got-check (mend_sheet s) e in
        let is = when-got (λ x _. x ≡ m) (mend_sheet s) is-mended g.0 g.1 g.2 in
        ap (mend_into n k) (g.2 ∙ ap (λ (x : Mended). got x g.1) is)

    full : (length m.bytes ≤ n → length (numbers_of m.changes) ≤ k → ⊥) → refused_with n k R.output_full 0 ≡ mend s n k
    full f =
        let a = leb (length m.bytes) n in
        let b = leb (length (numbers_of m.changes)) k in
        sym (good ∙ if-ind fit _ _ (λ (x : Mending). x ≡ refused_with n k R.output_full 0)
        (λ t. absurd (f (leb→le (length m.bytes) n (and_left a b t)) (leb→le (length (numbers_of m.changes)) k (and_right a b t)))) (λ _. refl))

    pub fitted : length m.bytes ≤ n → length (numbers_of m.changes) ≤ k → mended_with n k m ≡ mend s n k
    fitted l i =
        let a = leb (length m.bytes) n in
        let b = leb (length (numbers_of m.changes)) k in
        sym (good ∙ if_yes fit _ _ (and_both a b (le→leb (length m.bytes) n l) (le→leb (length (numbers_of m.changes)) k i)))

-- one of the lent buffers has too little room for what was written
pub no-room : (s : Bytes) {work₀ : Bytes} {list₀ : List ℕ} {work : Bytes} {list : List ℕ} {ends : Ends} → Puts (mended s) work₀ list₀ no_ends work list ends
    → length s ≤ longest_sheet → 2 * longest_sheet ≤ length work₀ → Ok tt ≡ check_of (mend_sheet s) → {n : ℕ}
    → (ends.bytes ≤ n → ends.numbers ≤ length list₀ → ⊥) → refused_with n (length list₀) R.output_full 0 ≡ mend s n (length list₀)
no-room s p short room e {n} f =
    full s n _ e (λ h i. f (let a = written-end s p short room in omega arith) (let b = (list-front s p i).1 in omega arith))

-- ---- the call

pub mends_well_lem : (s : Bytes) (n k : ℕ) → MendsWell s n k
mends_well_lem s n k = mend-claims.mends_well s n k

-- what the search is given
pub ruleset through_laws = (unread)

pub ruleset call_laws = (too-long, mends_well_lem)
