-- The field of `limit`, `budget` and `label`: what is said of numbers that are kept up to a bound holds of the numbers.
use mathlib.Core.Path.{◌≡◌, refl, sym, ap, subst, ◌∙◌}
use mathlib.Core.Bool.{Bool, true, false, ◌&&◌}
use Prim.Native.Nat.{ℕ, ◌<◌}
use native.Mathlib.Omega.{arith}
use lib.Dec.{T, leb, ltb}
use lib.Seq.{sets}
use borrow.Author.Tests.{ltb-true, ltb-false, le-leb, lt-leb}
use Rattle.rules.specs.Format.{Bytes}
use Rattle.rules.specs.Constants.{greatest_limit, greatest_budget}
use Rattle.text.specs.Convert.{fits_four, header_numbers_fit, one_to, header_fault}
use Rattle.rules.proofs.Base.{and_left, and_right}
use Rattle.scan.specs.Reading.{capped}
use Rattle.scan.proofs.WordLaws.{capped-below, capped_same}
use Rattle.lines.specs.declared.ranges.Pair.{Pair}
use Rattle.convert.specs.Head.{Headed, header_bytes, all_fit, fault_at}
use Rattle.convert.proofs.HeadReading.{Three}

-- ---- a number that is kept up to the bound

fits-capped : (n : ℕ) → fits_four (capped n) ≡ fits_four n
unfolding fits_four
fits-capped n = capped-below 4294967296 n (omega arith)

capped_is : (n : ℕ) → T (fits_four n) → capped n ≡ n
unfolding fits_four
capped_is n t = capped_same 4294967296 n (omega arith) (subst T (sym (fits-capped n)) t)

one-to-capped : (most n : ℕ) → most < 4294967296 → one_to most (capped n) ≡ one_to most n
unfolding one_to
one-to-capped most n h = by (ltb n 4294967296) refl
  where
    by : (t : Bool) → ltb n 4294967296 ≡ t → (leb 1 (capped n) && leb (capped n) most) ≡ (leb 1 n && leb n most)
    by true e =
        let l = ltb-true n 4294967296 e in
        let q : capped n ≡ n = omega arith in
        ap (λ k. leb 1 k && leb k most) q
    by false e =
        let l = ltb-false n 4294967296 e in
        let a = le-leb 1 (capped n) (omega arith) in
        let b = le-leb 1 n (omega arith) in
        let u = lt-leb (capped n) most (omega arith) in
        let v = lt-leb n most (omega arith) in
        rw (a, b, u, v)

-- ---- their field

module _ (s out after : Bytes) (limit p budget k : ℕ) (x : Pair) (start : ℕ) (fits : Bool) where
  pub headed : Three s limit p budget k x → start ≡ fault_at limit budget p k → fits ≡ all_fit limit budget x.low x.high
      → (fits ≡ true → after ≡ sets out 0 (header_bytes limit budget x.low x.high)) → Headed s out after x.place start fits
  unfolding header_fault header_numbers_fit
  headed h st fi wr =
      let g = h.header in
      let li = h.limit_is in
      let bi = h.budget_is in
      let lo = h.low_is in
      let hi = h.high_is in
      let f₁ = ap fits_four li ∙ fits-capped g.limit in
      let f₂ = ap fits_four bi ∙ fits-capped g.budget in
      let f₃ = ap fits_four lo ∙ fits-capped g.label_low in
      let f₄ = ap fits_four hi ∙ fits-capped g.label_high in
      let o₁ = ap (one_to greatest_limit) li ∙ one-to-capped greatest_limit g.limit (omega arith) in
      let o₂ = ap (one_to greatest_budget) bi ∙ one-to-capped greatest_budget g.budget (omega arith) in
      let fi' : fits ≡ header_numbers_fit g = fi ∙ rw (f₁, f₂, f₃, f₄) in
      record {
        header = g;
        budget_at = p;
        label_at = k;
        reads = h.reads;
        start_is = st ∙ rw (o₁, o₂);
        fits_is = fi';
        wrote = record {
          end_is = refl;
          bytes_are = λ t r.
              let t' : T (header_numbers_fit g) = subst T fi' t in
              let u = and_left (fits_four g.limit && fits_four g.budget) (fits_four g.label_low && fits_four g.label_high) t' in
              let v = and_right (fits_four g.limit && fits_four g.budget) (fits_four g.label_low && fits_four g.label_high) t' in
              let e₁ : limit ≡ g.limit = li ∙ capped_is g.limit (and_left (fits_four g.limit) (fits_four g.budget) u) in
              let e₂ : budget ≡ g.budget = bi ∙ capped_is g.budget (and_right (fits_four g.limit) (fits_four g.budget) u) in
              let e₃ : x.low ≡ g.label_low = lo ∙ capped_is g.label_low (and_left (fits_four g.label_low) (fits_four g.label_high) v) in
              let e₄ : x.high ≡ g.label_high = hi ∙ capped_is g.label_high (and_right (fits_four g.label_low) (fits_four g.label_high) v) in
              wr (is_true fits t)
              ∙ ap (λ n. sets out 0 (header_bytes n budget x.low x.high)) e₁
              ∙ ap (λ n. sets out 0 (header_bytes g.limit n x.low x.high)) e₂
              ∙ ap (λ n. sets out 0 (header_bytes g.limit g.budget n x.high)) e₃
              ∙ ap (λ n. sets out 0 (header_bytes g.limit g.budget g.label_low n)) e₄;
        };
      }
    where
      is_true : (t : Bool) → T t → t ≡ true
      is_true true x = refl
      is_true false x = absurd x
