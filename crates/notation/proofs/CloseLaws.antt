-- Of which kind a thing is, and where a condition is due.
use mathlib.Core.Path.{◌≡◌, refl, sym, ap, ◌∙◌}
use mathlib.Core.Bool.{Bool, true, false}
use Prim.Native.Nat.{ℕ}
use lib.ListN.{drop}
use Rattle.rules.specs.Format.{Bytes}
use Rattle.rules.specs.Program.{Arith, Condition}
use Rattle.text.specs.Words.{Read, stop, took, then_read, spaces}
use Rattle.text.specs.Notation.{Thing, arithmetic, logical, on_thing, is_condition}
use Rattle.scan.specs.Writing.{Wrote, Made}
use Rattle.scan.specs.declared.step.Built.{Built}
use Rattle.scan.proofs.BuildLaws.{Within}
use Rattle.notation.specs.Forms.{arith_form, condition_form, thing_form, is_logical}

-- ---- of which kind a thing is

-- a condition that was read and written
pub record Conditional (s out : Bytes) (at : ℕ) (after : Bytes) (g : Read Thing) (b : Built Bool) : Type 0 where
  pub condition : Condition
  pub is : g ≡ took (logical condition) (drop b.place s)
  pub fit_is : b.fits ≡ condition_form.fits condition
  pub wrote : Wrote out at (condition_form.bytes condition) b.fits after b.end

pub record Arithmetical (s out : Bytes) (at : ℕ) (after : Bytes) (g : Read Thing) (b : Built Bool) : Type 0 where
  pub value : Arith
  pub is : g ≡ took (arithmetic value) (drop b.place s)
  pub fit_is : b.fits ≡ arith_form.fits value
  pub wrote : Wrote out at (arith_form.bytes value) b.fits after b.end

module _ {s out : Bytes} {at : ℕ} {after : Bytes} {g : Read Thing} {b : Built Bool} where
  logical-of : (x : Thing) → g ≡ took x (drop b.place s) → b.kind ≡ is_logical x → b.fits ≡ thing_form.fits x
      → Wrote out at (thing_form.bytes x) b.fits after b.end → b.kind ≡ true → Conditional s out at after g b
  unfolding thing_form condition_form
  logical-of (arithmetic a) i k h w z = let y : ◌≡◌ {A = Bool} false true = sym k ∙ z in absurd (cc)
  logical-of (logical c) i k h w z = record { condition = c; is = i; fit_is = h; wrote = w }

  arithmetic-of : (x : Thing) → g ≡ took x (drop b.place s) → b.kind ≡ is_logical x → b.fits ≡ thing_form.fits x
      → Wrote out at (thing_form.bytes x) b.fits after b.end → b.kind ≡ false → Arithmetical s out at after g b
  unfolding thing_form arith_form
  arithmetic-of (arithmetic a) i k h w z = record { value = a; is = i; fit_is = h; wrote = w }
  arithmetic-of (logical c) i k h w z = let y : ◌≡◌ {A = Bool} true false = sym k ∙ z in absurd (cc)

  module _ (m : Made thing_form s out at after g b) where
    thing-kind : b.kind ≡ is_logical m.thing
    unfolding thing_form
    thing-kind = m.kind

    pub made_logical : b.kind ≡ true → Conditional s out at after g b
    made_logical z = logical-of m.thing m.is thing-kind m.fit_is m.wrote z

    pub made_arithmetic : b.kind ≡ false → Arithmetical s out at after g b
    made_arithmetic z = arithmetic-of m.thing m.is thing-kind m.fit_is m.wrote z

pub within-arithmetic : Within arith_form thing_form arithmetic
unfolding arith_form thing_form
within-arithmetic = record { bytes_are = λ a. refl; fits_are = λ a. refl; logical_is = λ a. refl }

pub within-logical : Within condition_form thing_form logical
unfolding condition_form thing_form
within-logical = record { bytes_are = λ a. refl; fits_are = λ a. refl; logical_is = λ a. refl }

-- ---- where a condition is due

required-yes : {g : Read Thing} {c : Condition} {r : Bytes} → g ≡ took (logical c) r → then_read g is_condition ≡ took c r
unfolding then_read is_condition on_thing
required-yes h = rw h

required-no : {g : Read Thing} {a : Arith} {r : Bytes} → g ≡ took (arithmetic a) r → then_read g is_condition ≡ stop (spaces r)
unfolding then_read is_condition on_thing
required-no h = rw h

module _ {s out : Bytes} {at : ℕ} {after : Bytes} {g : Read Thing} {x : Built Bool} (m : Made thing_form s out at after g x) where
  pub requires_yes : x.kind ≡ true → Made condition_form s out at after (then_read g is_condition) x
  unfolding condition_form
  requires_yes j =
      let c = made_logical m j in
      record { thing = c.condition; is = required-yes c.is; kind = j; fit_is = c.fit_is; wrote = c.wrote }

  pub requires_no : (t : ℕ) → x.kind ≡ false → drop t s ≡ spaces (drop x.place s) → then_read g is_condition ≡ stop (drop t s)
  requires_no t j k = required-no (made_arithmetic m j).is ∙ ap stop (sym k)
