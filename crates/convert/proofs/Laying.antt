-- A field that is written into what is left of a buffer from a place on.
use Rattle.std.specs.Prelude.{if◌then◌else◌, Result, Ok, Err}
use mathlib.Core.Path.{◌≡◌, refl, sym, ap, ◌∙◌}
use mathlib.Core.Bool.{Bool, true, false}
use mathlib.Core.List.{[], ◌++◌, append-nil}
use Prim.Native.Nat.{ℕ, ◌+◌, ◌-◌, ◌≤◌, min}
use native.Mathlib.Omega.{arith}
use lib.Dec.{leb, ltb}
use lib.ListN.{length, take, drop, length-append, length-drop, drop_of_length-le}
use lib.Seq.{sets, sets-eq, length-take-le, take_at, drop_at, take-take}
use borrow.Author.Tests.{leb-true, leb-false, le-ltb}
use borrow.Rule.Slice.PartMut.{put_mid}
use Rattle.rules.specs.Format.{Bytes}
use Rattle.text.specs.Words.{Read}
use Rattle.text.specs.Lines.{Line, Due, statement_due, due_after, may_end}
use Rattle.text.specs.Convert.{line_fits}
use Rattle.scan.proofs.WordLaws.{here, over}
use Rattle.lines.specs.Writing.{Lines, Put, due_of, field_before}
use Rattle.convert.specs.Whole.{place_in, Laid, Lays}
use Rattle.scan.specs.declared.step.Built.{Built}
use Rattle.lines.specs.declared.line.Due as D

-- bytes put at the front
pub front-put : (o e : Bytes) → length e ≤ length o → take (length e) (sets o 0 e) ≡ e
front-put o e h = ap (take (length e)) (sets-eq e o 0 (omega arith)) ∙ take_at e (drop (0 + length e) o) (length e) refl

module _ (before part part' : Bytes) (k : ℕ) (h : k ≤ length before) (l : length part ≡ length before - k)
    (l' : length part' ≡ length part) where
  abbrev pub after : Bytes
  after = put_mid k (length before - k) before part'

  after_is : after ≡ take k before ++ part'
  after_is =
      let e : length (drop k before) ≡ length before - k = length-drop k before in
      let z : drop (length before - k) (drop k before) ≡ [] = drop_of_length-le (drop k before) {i = length before - k} (omega arith) in
      ap (λ r. take k before ++ (part' ++ r)) z ∙ ap (λ r. take k before ++ r) (append-nil part')

  front : length (take k before) ≡ k
  front = length-take-le k before h

  same-front : take k after ≡ take k before
  same-front = ap (take k) after_is ∙ take_at (take k before) part' k front

  behind : drop k after ≡ part'
  behind = ap (drop k) after_is ∙ drop_at (take k before) part' k front

  same_length : length after ≡ length before
  same_length = let e : length (take k before ++ part') ≡ length (take k before) + length part' = length-append
      (take k before) part' in let f = front in ap length after_is ∙ (omega arith)

  -- what stood up to a place before k stands there still
  kept-to : (j : ℕ) → j ≤ k → take j after ≡ take j before
  kept-to j l = sym (take-take j k after l) ∙ ap (take j) same-front ∙ take-take j k before l

  module _ (s : Bytes) (from whole : ℕ) (kf : k ≡ place_in (length before) from whole) where
    up_to : min from (length before) ≤ k
    up_to = by (ltb (length before) whole) refl
      where
        by : (x : Bool) → ltb (length before) whole ≡ x → min from (length before) ≤ k
        by true e = let i : k ≡ length before = kf ∙ ap (λ x. if x then length before else min from (length before)) e in omega arith
        by false e = let i : k ≡ min from (length before) = kf
            ∙ ap (λ x. if x then length before else min from (length before)) e in omega arith

    there : whole ≤ length before → k ≡ min from (length before)
    there h = kf ∙ ap (λ x. if x then length before else min from (length before)) (le-ltb (length before) whole h)

    laid : (g : Read Line) (d : Due) (q n : ℕ) (f : Bool) → Put field_before line_fits due_after s part 0 part' g d q n f
        → Laid s before from whole after g d q n f
    laid g d q n f p = let i = p.wrote.end_is in record {
      line = p.thing;
      is = p.is;
      due_is = p.kind_is;
      fits_is = p.fit_is;
      size_is = omega arith;
      kept = kept-to (min from (length before)) up_to;
      stands = λ h t r.
          let kf' = there h in
          let m = same_length in
          let x = field_before (drop q s) p.thing in
          let e : from ≡ k = omega arith in
          let b : part' ≡ sets part 0 x = p.wrote.bytes_are t (omega arith) in
          ap (λ z. take (length x) (drop z after)) e ∙ ap (take (length x)) (behind ∙ b) ∙ front-put part x (omega arith);
    }

    pub lays : (g : Read Line) (r : Result (Built D.Due) ℕ) → Lines s part 0 part' g r → Lays s before from whole after g r
    unfolding Lines
    lays g (Ok x) p = laid g (due_of x.kind) x.place x.end x.fits p
    lays g (Err q) p = p

-- ---- a text's end

pub not-over : (s : Bytes) (q : ℕ) → q ≤ length s → leb (length s) q ≡ may_end statement_due (drop q s)
unfolding may_end
not-over s q h = by (leb (length s) q) refl
  where
    by : (t : Bool) → leb (length s) q ≡ t → t ≡ may_end statement_due (drop q s)
    by true e = let l = leb-true (length s) q e in let z = over s q l in rw z
    by false e = let l = leb-false (length s) q e in let z = here s q l in rw z

pub part_length : (k : ℕ) (l : Bytes) → length (take (length l - k) (drop k l)) ≡ length l - k
part_length k l = let e : length (drop k l) ≡ length l - k = length-drop k l in length-take-le (length l - k) (drop k l) (omega arith)
