-- The lines `locks`, `var` and `reg`: what they write of their field.
use Rattle.std.specs.Prelude.{if◌then◌else◌, Ok}
use mathlib.Core.Path.{◌≡◌, refl, sym, ap, subst, ◌∙◌}
use mathlib.Core.Bool.{Bool, true, false, ◌&&◌}
use Prim.Native.Nat.{ℕ, ◌+◌, min}
use native.Mathlib.Omega.{arith}
use borrow.Author.Tests.{lt-ltb}
use lib.Dec.{T, ltb}
use lib.IntN.{ℤ}
use lib.ListN.{drop}
use lib.Seq.{sets}
use Rattle.rules.specs.Format.{Bytes}
use Rattle.rules.specs.Interval.{Interval, interval}
use Rattle.rules.specs.Encoding.{unsigned}
use Rattle.rules.proofs.Base.{and_left, and_right}
use Rattle.rules.proofs.Values.{unsigned_small}
use Rattle.text.specs.Words.{bytes, took, map_read, number}
use Rattle.text.specs.Lines.{Line, locks_line, range, head_line, due_after}
use Rattle.text.specs.Convert.{fits_signed, range_fits, line_fits, field_of}
use Rattle.scan.specs.Reading.{capped, value_code}
use Rattle.scan.specs.Writing.{Wrote}
use Rattle.scan.proofs.WordLaws.{capped_same}
use Rattle.scan.proofs.Readings.{map-took}
use Rattle.lines.proofs.ActionLaws.{fit_of, if-true}
use Rattle.lines.proofs.RangeLaws.{ranged, head-took}
use Rattle.lines.specs.Reading.{one_end, pair, pair_of}
use Rattle.lines.specs.Registers.{ahead_of}
use Rattle.lines.specs.Writing.{field_of_one, range_bytes, put_pair, pair_fits, due_of, Lines, RangeTag}
use Rattle.lines.specs.declared.ranges.Pair.{Pair}
use Rattle.lines.specs.declared.line.Due.{Due}
use Rattle.lines.specs.declared.line.Due.TheVariants as due

-- ---- the line `locks 1`

pub locks-put : (s o after : Bytes) (at end n q place : ℕ)
    → took n (drop place s) ≡ map_read capped (head_line (bytes "locks") number (drop q s))
    → after ≡ (if ltb n 256 then sets o at (field_of_one 3 n) else o) → end ≡ min (at + 4) 65536
    → Lines s o at after (map_read locks_line (head_line (bytes "locks") number (drop q s)))
    (Ok (record { kind = due.Var; place = place; end = end; fits = ltb n 256 }))
unfolding Lines map_read due_after line_fits field_of
locks-put s o after at end n q place h p he =
    let z = map-took capped (head_line (bytes "locks") number (drop q s)) h in
    let k = z.0 in
    let i : n ≡ capped k = z.1.1 in
    record {
      thing = locks_line k;
      is = ap (map_read locks_line) z.1.0;
      kind_is = refl;
      fit_is = fit_of n k i;
      wrote = record {
        end_is = he;
        bytes_are = λ t _.
            p ∙ if-true (ltb n 256) (sets o at (field_of_one 3 n)) o t
            ∙ ap (λ m. sets o at (field_of_one 3 m)) (i ∙ capped_same 256 k (omega arith) (subst (λ m. T (ltb m 256)) i t));
      };
    }

-- ---- `var -1..1`, `reg 0..9`

code_fits : (z : ℤ) → ltb (value_code z) 4294967296 ≡ fits_signed z
unfolding value_code fits_signed
code_fits z = by (fits_signed z) refl
  where
    by : (b : Bool) → fits_signed z ≡ b → ltb (if b then unsigned z else 4294967296) 4294967296 ≡ b
    by true e = lt-ltb (unsigned z) 4294967296 (unsigned_small z (subst T (sym e) tt))
    by false e = refl

code_same : (z : ℤ) → T (ltb (value_code z) 4294967296) → value_code z ≡ unsigned z
unfolding value_code
code_same z t = if-true (fits_signed z) (unsigned z) 4294967296 (subst T (code_fits z) t)

module _ (s o after : Bytes) (at end tag q : ℕ) (word : Bytes) (d : Due) (x : Pair)
    (h : pair_of pair s (Ok x) ≡ head_line word (range (one_end true) pair) (drop q s))
    (p : after ≡ put_pair o at tag x) (he : end ≡ min (at + 11) 65536) (f : Interval → Line) (tags : RangeTag tag f)
    (dues : (i : Interval) → due_of d ≡ due_after (f i)) where
  both-fit : (i : Interval) → (fits_signed i.low && fits_signed i.high) ≡ range_fits i
  unfolding range_fits
  both-fit i = refl

  pub range-put : Lines s o at after (map_read f (ranged s word q))
      (Ok (record { kind = d; place = x.place; end = end; fits = pair_fits x }))
  unfolding Lines map_read
  range-put =
      let z = head-took s word q (sym h) in
      let i = interval z.low z.high in
      let a = x.low in
      let b = x.high in
      let la = z.low_is in
      let lb = z.high_is in
      record {
        thing = f i;
        is = ap (map_read f) z.reads;
        kind_is = dues i;
        fit_is = ap (λ m. m && ltb b 4294967296) (ap (λ m. ltb m 4294967296) la ∙ code_fits z.low)
            ∙ ap (λ m. fits_signed z.low && m) (ap (λ m. ltb m 4294967296) lb ∙ code_fits z.high) ∙ both-fit i ∙ sym (tags.fits_is i);
        wrote = subst (λ u. Wrote o at u (pair_fits x) after end) (sym (tags.bytes_are (ahead_of (due_after (f i)) (drop x.place s)) i))
            (record {
              end_is = he;
              bytes_are = λ t _.
                  let ta = and_left (ltb a 4294967296) (ltb b 4294967296) t in
                  let tb = and_right (ltb a 4294967296) (ltb b 4294967296) t in
                  let va : a ≡ unsigned z.low = la ∙ code_same z.low (subst (λ m. T (ltb m 4294967296)) la ta) in
                  let vb : b ≡ unsigned z.high = lb ∙ code_same z.high (subst (λ m. T (ltb m 4294967296)) lb tb) in
                  p ∙ if-true (pair_fits x) (sets o at (range_bytes tag a b)) o t
                  ∙ ap (λ m. sets o at (range_bytes tag m b)) va ∙ ap (λ m. sets o at (range_bytes tag (unsigned z.low) m)) vb;
            });
      }
