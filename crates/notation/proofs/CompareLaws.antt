-- Arithmetic that a first operand begins, and what compares it.
use mathlib.Core.Path.{◌≡◌, refl, sym, ap, subst, ◌∙◌}
use mathlib.Core.Bool.{Bool, true, false, ◌&&◌}
use mathlib.Core.List.{[], ◌∷◌, ◌++◌}
use Prim.Native.Nat.{ℕ, ◌+◌, ◌-◌, ◌<◌, min}
use native.Mathlib.Omega.{arith}
use lib.ListN.{length, drop}
use Rattle.std.specs.Prelude.{Some, None, Ok}
use Rattle.rules.specs.Format.{Bytes}
use Rattle.rules.specs.Program.{Arith, Condition}
use Rattle.text.specs.Words.{Read, stop, took, then_read, map_read}
use Rattle.text.specs.Notation.{Thing, arithmetic, logical, on_link, on_thing, chain, comparisons, product, sum, factor, comparison, onward}
use Rattle.scan.specs.Writing.{Wrote, Form, Made, Begun, inserted}
use Rattle.scan.specs.declared.step.Built.{Built}
use Rattle.scan.proofs.BuildLaws.{wrote-append, wrote-insert}
use Rattle.notation.specs.Forms.{arith_form, condition_form, thing_form, rel_of, ops_at, arith_at, begins}
use Rattle.notation.specs.Signs.{Coded, SignRead}
use Rattle.notation.proofs.ArithLaws.{sum_level}
use Rattle.notation.proofs.CloseLaws.{made_logical, made_arithmetic}

-- ---- arithmetic that is compared

-- the code's byte is put before what stands written, and the other side is written behind
begun_more : {A B : Type 0} {F : Form A} {G : Form B} {m : A → A → B} {o now mid after : Bytes} {at k c : ℕ} {b b' : Built Bool} {g : Bool} {a a' : A}
    → Coded F G c m → length now < 65536 → length mid ≡ length now → length after ≡ length now → Begun F o at now b a
    → mid ≡ inserted now at b.end (c ∷ []) → k ≡ min (b.end + 1) 65536 → g ≡ F.fits a' → Wrote mid k (F.bytes a') g after b'.end → b'.fits ≡ (b.fits && g)
    → Begun G o at after b' (m a a')
begun_more {F = F} {G} {m} {o} {now} {mid} {after} {at} {k} {c} {b} {b'} {g} {a} {a'} d s lm la u w j q v z =
    let r : length o ≡ length now = u.room in
    let x = wrote-insert o now mid at b.end k (c ∷ []) (F.bytes a) b.fits r s u.wrote w j in
    let y = wrote-append o mid after at k b'.end (c ∷ F.bytes a) (F.bytes a') b.fits g (omega arith) (omega arith) x v in
    record {
      fit_is = z ∙ ap (λ t. t && g) u.fit_is ∙ ap (λ t. F.fits a && t) q ∙ sym (d.fits_are a a');
      wrote = subst (λ t. Wrote o at t b'.fits after b'.end) (sym (d.bytes_are a a')) (subst (λ t. Wrote o at ((c ∷ F.bytes a) ++ F.bytes a') t after b'.end) (sym z) y);
      room = omega arith;
    }

module _ {s : Bytes} {p : ℕ} (d : ℕ) where
  pub compare-absent : {o now : Bytes} {at end : ℕ} {fits : Bool} {a : Arith} → SignRead arith_form condition_form rel_of comparisons s p (Ok None)
      → Begun arith_form o at now (record { kind = false; place = p; end = end; fits = fits }) a
      → Made thing_form s o at now (comparison (factor d) a (drop p s)) (record { kind = false; place = p; end = end; fits = fits })
  unfolding comparison on_link thing_form arith_form
  compare-absent {a = a} g b =
      let k = sym g.is in
      record { thing = arithmetic a; is = rw k; kind = refl; fit_is = b.fit_is; wrote = b.wrote }

  pub compare-took : {c q : ℕ} → SignRead arith_form condition_form rel_of comparisons s p (Ok (Some (c, q))) → {o m mid after : Bytes} {at k : ℕ} {left right : Built Bool} {both : Bool} {a : Arith} → length m < 65536
      → length mid ≡ length m → length after ≡ length m → Begun arith_form o at m left a → mid ≡ inserted m at left.end (c ∷ []) → k ≡ min (left.end + 1) 65536
      → Made arith_form s mid k after (arith_at d 2 (drop q s)) right → both ≡ (left.fits && right.fits)
      → Made thing_form s o at after (comparison (factor d) a (drop p s)) (record { kind = true; place = right.place; end = right.end; fits = both })
  unfolding comparison on_link map_read thing_form condition_form
  compare-took {c = c} {q} g {at = at} {right = right} {both = both} {a = a} sm lm la u iw ik v hh =
      let k' : sum (factor d) (drop q s) ≡ took v.thing (drop right.place s) = sum_level d (drop q s) ∙ v.is in
      let j = sym g.is in
      let w = begun_more {b' = record { kind = true; place = right.place; end = right.end; fits = both }} g.fits.2 sm lm la u iw ik v.fit_is v.wrote hh in
      record { thing = logical (rel_of c a v.thing); is = rw (j, k'); kind = refl; fit_is = w.fit_is; wrote = w.wrote }

-- ---- the arithmetic that a first operand begins

-- a product, and what follows it
pub onward_is : (d : ℕ) (a : Arith) (t : Bytes) → onward (factor d) a t ≡ then_read (chain (ops_at 1) (arith_at d (1 - 1)) (length t) a t)
    (λ b r. then_read (chain (ops_at 2) (arith_at d (2 - 1)) (length r) b r) (λ c u. comparison (factor d) c u))
unfolding onward ops_at arith_at product
onward_is d a t = refl

pub onward-stop : (d : ℕ) (a b : Arith) (t u v : Bytes) → chain (ops_at 1) (arith_at d (1 - 1)) (length t) a t ≡ took b u
    → chain (ops_at 2) (arith_at d (2 - 1)) (length u) b u ≡ stop v → onward (factor d) a t ≡ stop v
unfolding then_read
onward-stop d a b t u v h l = onward_is d a t ∙ rw (h, l)

pub onward-took : (d : ℕ) (a b c : Arith) (t u v : Bytes) → chain (ops_at 1) (arith_at d (1 - 1)) (length t) a t ≡ took b u
    → chain (ops_at 2) (arith_at d (2 - 1)) (length u) b u ≡ took c v → onward (factor d) a t ≡ comparison (factor d) c v
unfolding then_read
onward-took d a b c t u v h l = onward_is d a t ∙ rw (h, l)

-- ---- a first operand

begins-condition : (d : ℕ) {g : Read Thing} {c : Condition} {r : Bytes} → g ≡ took (logical c) r → begins d g ≡ took (logical c) r
unfolding begins then_read on_thing
begins-condition d h = rw h

begins-onward : (d : ℕ) {g : Read Thing} {a : Arith} {r : Bytes} → g ≡ took (arithmetic a) r → begins d g ≡ onward (factor d) a r
unfolding begins then_read on_thing
begins-onward d h = rw h

module _ {s : Bytes} (d : ℕ) {o : Bytes} {at : ℕ} {after : Bytes} {g : Read Thing} {b : Built Bool} (m : Made thing_form s o at after g b) where
  pub begins_logical : b.kind ≡ true → Made thing_form s o at after (begins d g) b
  unfolding thing_form condition_form
  begins_logical j =
      let c = made_logical m j in
      record { thing = logical c.condition; is = begins-condition d c.is; kind = j; fit_is = c.fit_is; wrote = c.wrote }

  -- the arithmetic goes on
  pub record Onwards : Type 0 where
    pub value : Arith
    pub is : begins d g ≡ onward (factor d) value (drop b.place s)
    pub begun : Begun arith_form o at after b value

  pub begins-arithmetic : b.kind ≡ false → length o ≡ length after → Onwards
  begins-arithmetic j r =
      let c = made_arithmetic m j in
      record { value = c.value; is = begins-onward d c.is; begun = record { fit_is = c.fit_is; wrote = c.wrote; room = r } }
