-- Statements of names, `store`, `load`, `lock` and `unlock`: what they write of their operands.
use Rattle.std.specs.Prelude.{if◌then◌else◌, Ok}
use mathlib.Core.Path.{◌≡◌, sym, ap, subst, ◌∙◌}
use mathlib.Core.Bool.{Bool, ◌&&◌}
use mathlib.Core.List.{[], ◌∷◌}
use Prim.Native.Nat.{ℕ, suc, ◌+◌, min}
use native.Mathlib.Omega.{arith}
use lib.Dec.{ltb}
use lib.ListN.{drop, set}
use Rattle.rules.specs.Format.{Bytes}
use Rattle.rules.specs.Program.{Action}
use Rattle.rules.proofs.Base.{and_left, and_right}
use Rattle.text.specs.Words.{bytes, took, then_read, map_read, name}
use Rattle.text.specs.Lines.{word_only, transfer}
use Rattle.text.specs.Convert.{fits_byte}
use Rattle.scan.specs.Reading.{capped}
use Rattle.scan.specs.Writing.{Wrote}
use Rattle.scan.proofs.Readings.{map-took, then-took}
use Rattle.lines.proofs.ActionLaws.{put_is, fit_of}
use Rattle.lines.specs.Writing.{Acts, OneName, TwoNames}

-- ---- `store r0 to x1`, `load r0 from x1`

module _ (s o m after : Bytes) (at end n v : ℕ) (p : m ≡ (if ltb n 256 then set o at n else o))
    (r : after ≡ (if ltb v 256 then set m (at + 1) v else m)) (he : end ≡ min (at + 2) 65536) where
  two-wrote : (a b : ℕ) → n ≡ capped a → v ≡ capped b → Wrote o at (a ∷ b ∷ []) (ltb n 256 && ltb v 256) after end
  two-wrote a b k l = record {
    end_is = he;
    bytes_are = λ t _.
        let i : at + 1 ≡ suc at = omega arith in
        let x = put_is o m at n a k p (and_left (ltb n 256) (ltb v 256) t) in
        let y = put_is m after (at + 1) v b l r (and_right (ltb n 256) (ltb v 256) t) in
        y ∙ ap (λ z. set m z b) i ∙ ap (λ z. set z (suc at) b) x;
  }

  pub transfer-acts : (fits : Bool) (code q first between second place : ℕ) (word joint : Bytes)
      → took tt (drop first s) ≡ word_only word (drop q s)
      → took n (drop between s) ≡ map_read capped (name (bytes "r") (drop first s))
      → took tt (drop second s) ≡ word_only joint (drop between s)
      → took v (drop place s) ≡ map_read capped (name (bytes "x") (drop second s)) → fits ≡ (ltb n 256 && ltb v 256)
      → (f : ℕ → ℕ → Action) → TwoNames code f
      → Acts s o at after (then_read (word_only word (drop q s)) (λ _ t. transfer joint f t))
      (Ok (record { kind = code; place = place; end = end; fits = fits }))
  unfolding Acts transfer map_read
  transfer-acts fits code q first between second place word joint hw hn hj hv hs f names =
      let k = map-took capped (name (bytes "r") (drop first s)) hn in
      let l = map-took capped (name (bytes "x") (drop second s)) hv in
      let a = k.0 in
      let b = l.0 in
      record {
        thing = f a b;
        is = then-took _ _ (sym hw) ∙ then-took _ _ k.1.0 ∙ then-took _ _ (sym hj) ∙ ap (map_read (f a)) l.1.0;
        kind_is = sym (names.code_is a b);
        fit_is = hs ∙ ap (λ z. z && ltb v 256) (fit_of n a k.1.1) ∙ ap (λ z. fits_byte a && z) (fit_of v b l.1.1) ∙ sym (names.fits_is a b);
        wrote = let h = subst (λ z. Wrote o at z (ltb n 256 && ltb v 256) after end) (sym (names.bytes_are a b))
            (two-wrote a b k.1.1 l.1.1) in rw hs h;
      }

-- ---- `lock l0`, `unlock l0`

pub locking-acts : (s o after : Bytes) (at end n code q lock place : ℕ) (word : Bytes) → after ≡ (if ltb n 256 then set o at n else o)
    → end ≡ min (at + 1) 65536
    → took tt (drop lock s) ≡ word_only word (drop q s) → took n (drop place s) ≡ map_read capped (name (bytes "l") (drop lock s))
    → (f : ℕ → Action) → OneName code f
    → Acts s o at after (then_read (word_only word (drop q s)) (λ _ t. map_read f (name (bytes "l") t)))
    (Ok (record { kind = code; place = place; end = end; fits = ltb n 256 }))
unfolding Acts map_read
locking-acts s o after at end n code q lock place word p he hw hn f names =
    let k = map-took capped (name (bytes "l") (drop lock s)) hn in
    let a = k.0 in
    record {
      thing = f a;
      is = then-took _ _ (sym hw) ∙ ap (map_read f) k.1.0;
      kind_is = sym (names.code_is a);
      fit_is = fit_of n a k.1.1 ∙ sym (names.fits_is a);
      wrote = subst (λ z. Wrote o at z (ltb n 256) after end) (sym (names.bytes_are a))
          (record { end_is = he; bytes_are = λ t _. put_is o after at n a k.1.1 p t });
    }
