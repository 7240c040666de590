-- Statements with an expression, `r0 := ..` and `if .. goto 2`: what they write of their operands.
use Rattle.std.specs.Prelude.{if◌then◌else◌, Ok}
use mathlib.Core.Path.{◌≡◌, refl, sym, ap, ◌∙◌}
use mathlib.Core.Bool.{Bool, ◌&&◌}
use mathlib.Core.List.{[], ◌∷◌}
use Prim.Native.Nat.{ℕ, ◌+◌, ◌<◌, min}
use lib.Dec.{ltb}
use lib.ListN.{length, drop, set}
use Rattle.rules.specs.Format.{Bytes}
use Rattle.rules.specs.Program.{assign, branch}
use Rattle.rules.specs.Encoding.{code_of, encode_operands, encode_arith, encode_condition}
use Rattle.text.specs.Words.{bytes, took, then_read, map_read, symbol, name, number}
use Rattle.text.specs.Notation.{read_sum, read_test}
use Rattle.text.specs.Lines.{word_only, assignment, jump}
use Rattle.text.specs.Convert.{action_fits, fits_byte}
use Rattle.scan.specs.Reading.{capped}
use Rattle.scan.specs.Writing.{Made}
use Rattle.scan.specs.declared.step.Built.{Built}
use Rattle.scan.proofs.Readings.{map-took, then-took}
use Rattle.notation.specs.Forms.{arith_form, condition_form}
use Rattle.lines.specs.Writing.{Acts}
use Rattle.lines.proofs.ActionLaws.{wrote-before, put_is, fit_of}

module _ (s o m after : Bytes) (at from n : ℕ) (x : Built Bool) (fits : Bool) (q : ℕ) (sm : length o < 65536) (hf : from ≡ min (at + 1) 65536)
    (p : after ≡ (if ltb n 256 then set m at n else m)) (hs : fits ≡ (ltb n 256 && x.fits)) where
  -- `r0 := ..`
  pub assignment-acts : (joint right : ℕ) → took n (drop joint s) ≡ map_read capped (name (bytes "r") (drop q s))
      → took tt (drop right s) ≡ symbol (bytes ":=") (drop joint s)
      → Made arith_form s o from m (read_sum (drop right s)) x
      → Acts s o at after (assignment (drop q s)) (Ok (record { kind = 2; place = x.place; end = x.end; fits = fits }))
  unfolding Acts assignment arith_form action_fits code_of encode_operands map_read
  assignment-acts joint right hn hd b =
      let k = map-took capped (name (bytes "r") (drop q s)) hn in
      let v = k.0 in
      let c : n ≡ capped v = k.1.1 in
      record {
        thing = assign v b.thing;
        is = then-took _ _ k.1.0 ∙ then-took _ _ (sym hd) ∙ ap (map_read (assign v)) b.is;
        kind_is = refl;
        fit_is = hs ∙ ap (λ z. z && x.fits) (fit_of n v c) ∙ ap (λ z. fits_byte v && z) b.fit_is;
        wrote = let h = wrote-before o m after at from x.end (v ∷ []) (encode_arith b.thing) (ltb n 256) x.fits hf sm b.wrote
            (λ t _ _. put_is m after at n v c p t) in rw hs h;
      }

  -- `if .. goto 2`
  pub jump-acts : (test target place : ℕ) → took tt (drop test s) ≡ word_only (bytes "if") (drop q s)
      → Made condition_form s o from m (read_test (drop test s)) x
      → took tt (drop target s) ≡ word_only (bytes "goto") (drop x.place s)
      → took n (drop place s) ≡ map_read capped (number (drop target s))
      → Acts s o at after (then_read (word_only (bytes "if") (drop q s)) (λ _ t. jump t))
      (Ok (record { kind = 3; place = place; end = x.end; fits = fits }))
  unfolding Acts jump condition_form action_fits code_of encode_operands map_read
  jump-acts test target place hw b hg hn =
      let k = map-took capped (number (drop target s)) hn in
      let v = k.0 in
      let c : n ≡ capped v = k.1.1 in
      record {
        thing = branch v b.thing;
        is = then-took _ _ (sym hw) ∙ then-took _ _ b.is ∙ then-took _ _ (sym hg) ∙ ap (map_read (λ i. branch i b.thing)) k.1.0;
        kind_is = refl;
        fit_is = hs ∙ ap (λ z. z && x.fits) (fit_of n v c) ∙ ap (λ z. fits_byte v && z) b.fit_is;
        wrote = let h = wrote-before o m after at from x.end (v ∷ []) (encode_condition b.thing) (ltb n 256) x.fits hf sm b.wrote
            (λ t _ _. put_is m after at n v c p t) in rw hs h;
      }
