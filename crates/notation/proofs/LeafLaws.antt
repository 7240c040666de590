-- Constants and registers, read and written.
use Rattle.std.specs.Prelude.{if◌then◌else◌}
use mathlib.Core.Path.{◌≡◌, refl, sym, ap, ◌∙◌}
use mathlib.Core.Bool.{Bool, true, false}
use mathlib.Core.List.{[], ◌∷◌}
use Prim.Native.Nat.{ℕ, ◌+◌, ◌<◌, min}
use native.Mathlib.Omega.{arith}
use borrow.Author.Tests.{lt-ltb, le-ltb, ltb-true}
use lib.Dec.{ltb, ltb→lt}
use lib.IntN.{ℤ, pos, negsuc}
use lib.ListN.{drop}
use lib.Seq.{sets}
use Rattle.rules.specs.Format.{Bytes}
use Rattle.rules.specs.Constants.{half32}
use Rattle.rules.specs.Encoding.{four, unsigned, encode_arith}
use Rattle.rules.specs.Program.{constant, register}
use Rattle.rules.proofs.Interval.{in-range-is}
use Rattle.text.specs.Convert.{fits_signed, fits_byte, arith_fits}
use Rattle.text.specs.Words.{Read, stop, map_read}
use Rattle.scan.specs.Reading.{read_of, same, capped, value_code}
use Rattle.scan.specs.Writing.{Made}
use Rattle.std.specs.Prelude.{Result, Ok, Err}
use Rattle.scan.proofs.WordLaws.{capped-below}
use Rattle.scan.proofs.Readings.{map-stop, map-took}
use Rattle.notation.specs.Forms.{arith_form}

-- ---- values that fit

unsigned_small : (z : ℤ) → fits_signed z ≡ true → unsigned z < 4294967296
unfolding fits_signed
unsigned_small (pos n) e = let l : n < half32 = ltb-true n half32 (sym (in-range-is half32 (pos n)) ∙ e) in omega arith
unsigned_small (negsuc n) e = omega arith

fits-by : (b : Bool) (u v : ℕ) → (b ≡ true → u < 4294967296) → v ≡ (if b then u else 4294967296)
    → (ltb v 4294967296 ≡ b) × (v < 4294967296 → u ≡ v)
fits-by true u v f e = let l = f refl in (lt-ltb v 4294967296 (omega arith), λ _. sym e)
fits-by false u v f e = (le-ltb v 4294967296 (omega arith), λ h. absurd (omega arith))

-- the 32 bits of a value are below the bound where it fits, and only there
value-fits : (z : ℤ) (v : ℕ) → v ≡ value_code z → (ltb v 4294967296 ≡ fits_signed z) × (v < 4294967296 → unsigned z ≡ v)
unfolding value_code
value-fits z v e = fits-by (fits_signed z) (unsigned z) v (unsigned_small z) e

-- ---- constants

module _ (s : Bytes) (k : ℕ → ℤ) (g : Read ℕ) {x : Result (ℕ × ℕ) ℕ} (h : read_of same s x ≡ map_read (λ n. value_code (k n)) g) where
  pub constant_stop : {q : ℕ} → x ≡ Err q → map_read (λ n. constant (k n)) g ≡ stop (drop q s)
  unfolding map_read
  constant_stop {q} e = let z : g ≡ stop (drop q s) = map-stop (λ n. value_code (k n)) g (sym (ap (read_of same s) e) ∙ h) in rw z

  pub constant_made : (out after : Bytes) (at v q e : ℕ) → x ≡ Ok (v, q) → (v < 4294967296 → after ≡ sets out at (16 ∷ four v)) → e ≡ min (at + 5) 65536
      → Made arith_form s out at after (map_read (λ n. constant (k n)) g) (record { kind = false; place = q; end = e; fits = ltb v 4294967296 })
  unfolding map_read arith_form arith_fits encode_arith
  constant_made out after at v q e t w m =
      let z = map-took (λ n. value_code (k n)) g (sym (ap (read_of same s) t) ∙ h) in
      let y = value-fits (k z.0) v z.1.1 in
      record {
        thing = constant (k z.0);
        is = ap (map_read (λ n. constant (k n))) z.1.0;
        kind = refl;
        fit_is = y.0;
        wrote = record {
          end_is = m;
          bytes_are = λ f _. let l = ltb→lt v 4294967296 f in w l ∙ ap (λ u. sets out at (16 ∷ four u)) (sym (y.1 l));
        };
      }

-- ---- registers

module _ (s : Bytes) (g : Read ℕ) {x : Result (ℕ × ℕ) ℕ} (h : read_of same s x ≡ map_read capped g) where
  pub register_stop : {q : ℕ} → x ≡ Err q → map_read register g ≡ stop (drop q s)
  unfolding map_read
  register_stop {q} e = let z : g ≡ stop (drop q s) = map-stop capped g (sym (ap (read_of same s) e) ∙ h) in rw z

  pub register_made : (out after : Bytes) (at v q e : ℕ) → x ≡ Ok (v, q) → (v < 256 → after ≡ sets out at (17 ∷ v ∷ [])) → e ≡ min (at + 2) 65536
      → Made arith_form s out at after (map_read register g) (record { kind = false; place = q; end = e; fits = ltb v 256 })
  unfolding map_read arith_form arith_fits fits_byte encode_arith
  register_made out after at v q e t w m =
      let z = map-took capped g (sym (ap (read_of same s) t) ∙ h) in
      let c = z.1.1 in
      record {
        thing = register z.0;
        is = ap (map_read register) z.1.0;
        kind = refl;
        fit_is = ap (λ n. ltb n 256) c ∙ capped-below 256 z.0 (omega arith);
        wrote = record {
          end_is = m;
          bytes_are = λ f _. let l = ltb→lt v 256 f in let y : v ≡ z.0 = omega arith in w l ∙ ap (λ n. sets out at (17 ∷ n ∷ [])) y;
        };
      }

pub ruleset constants = (constant_made, constant_stop)

pub ruleset registers = (register_made, register_stop)
