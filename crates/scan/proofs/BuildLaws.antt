-- Laws of what is read and written: bytes one behind the other, codes before them, and results by their cases.
use Rattle.std.specs.Prelude.{if◌then◌else◌}
use mathlib.Core.Path.{◌≡◌, refl, sym, ap, subst, ◌∙◌}
use mathlib.Core.Bool.{Bool, true, false, ◌&&◌}
use mathlib.Core.List.{[], ◌∷◌, ◌++◌, append_assoc}
use Prim.Native.Nat.{ℕ, ◌+◌, ◌-◌, ◌≤◌, ◌<◌, min}
use native.Mathlib.Nat.{le_refl}
use native.Mathlib.Omega.{arith}
use lib.Dec.{ltb}
use lib.ListN.{length, take, drop, set, length-append}
use lib.Seq.{sets, sets-eq, take_at, drop_at, drop-drop, length-take-le}
use Rattle.rules.specs.Format.{Bytes}
use Rattle.rules.proofs.Base.{and_left, and_right}
use Rattle.text.specs.Words.{Read, stop, map_read}
use Rattle.scan.proofs.WriteLaws.{sets-append, inserted-room}
use Rattle.scan.specs.Writing.{Wrote, Form, Made, Begun, Builds, OnwardBuilt, inserted}
use Rattle.scan.specs.Waiting.{Keeps}
use Rattle.scan.specs.declared.step.Built.{Built}
use Rattle.std.specs.Prelude.{Result, Ok, Err}

-- ---- what is written, one behind the other

pub wrote-append : (o m after : Bytes) (at e k : ℕ) (x y : Bytes) (f g : Bool) → length o ≡ length m → length m < 65536
    → Wrote o at x f m e → Wrote m e y g after k → Wrote o at (x ++ y) (f && g) after k
wrote-append o m after at e k x y f g l s u v =
    let n : length (x ++ y) ≡ length x + length y = length-append x y in
    let i = u.end_is in
    let j = v.end_is in
    record {
      end_is = rw n (omega arith);
      bytes_are = λ t r.
          let c : at + length x ≤ length o = omega arith in
          let d : e ≡ at + length x = omega arith in
          let p : m ≡ sets o at x = u.bytes_are (and_left f g t) c in
          let q : after ≡ sets m e y = v.bytes_are (and_right f g t) (omega arith) in
          q ∙ ap (λ z. sets z e y) p ∙ ap (λ z. sets (sets o at x) z y) d ∙ sets-append o at x y;
    }

-- bytes put before what was written
pub wrote-insert : (o m after : Bytes) (at e k : ℕ) (bs x : Bytes) (f : Bool) → length o ≡ length m → length m < 65536 → Wrote o at x f m e
    → after ≡ inserted m at e bs → k ≡ min (e + length bs) 65536 → Wrote o at (bs ++ x) f after k
wrote-insert o m after at e k bs x f l s u w j =
    let i = u.end_is in
    let n : length (bs ++ x) ≡ length bs + length x = length-append bs x in
    record {
      end_is = omega arith;
      bytes_are = λ t r.
          let d : e ≡ at + length x = omega arith in
          let p : m ≡ sets o at x = u.bytes_are t (omega arith) in
          let X = take at o in
          let K = drop (at + length x) o in
          let p' : m ≡ (X ++ x) ++ K = p ∙ sets-eq x o at (omega arith) in
          let p'' : m ≡ X ++ (x ++ K) = p' ∙ append_assoc X x K in
          let lx : length X ≡ at = length-take-le at o (omega arith) in
          let ly : length (X ++ x) ≡ e = length-append X x ∙ (omega arith) in
          let t₁ : take at m ≡ X = ap (take at) p'' ∙ take_at X (x ++ K) at lx in
          let t₂ : drop at m ≡ x ++ K = ap (drop at) p'' ∙ drop_at X (x ++ K) at lx in
          let t₃ : take (e - at) (drop at m) ≡ x = ap (take (e - at)) t₂ ∙ take_at x K (e - at) (omega arith) in
          let t₄ : drop e m ≡ K = ap (drop e) p' ∙ drop_at (X ++ x) K e ly in
          let z : at + length x + length bs ≡ at + length (bs ++ x) = omega arith in
          let t₅ : drop (e + length bs) m ≡ drop (at + length (bs ++ x)) o =
          sym (drop-drop (length bs) e m) ∙ ap (drop (length bs)) t₄ ∙ drop-drop (length bs) (at + length x) o
          ∙ ap (λ y. drop y o) z in
          w ∙ inserted-room m at e bs (omega arith)
          ∙ ap (λ z. z ++ (bs ++ (take (e - at) (drop at m) ++ drop (e + length bs) m))) t₁
          ∙ ap (λ z. X ++ (bs ++ (z ++ drop (e + length bs) m))) t₃
          ∙ ap (λ z. X ++ (bs ++ (x ++ z))) t₅
          ∙ ap (λ z. X ++ z) (sym (append_assoc bs x (drop (at + length (bs ++ x)) o)))
          ∙ sym (sets-eq (bs ++ x) o at r ∙ append_assoc X (bs ++ x) (drop (at + length (bs ++ x)) o));
    }

-- ---- codes that go before what is written

-- of what is to be written these codes are not yet: they go before all that is
pub record Pending (out : Bytes) (at : ℕ) (enc : Bytes) (fit : Bool) (now : Bytes) (end : ℕ) (codes : Bytes) : Type 0 where
  pub rest : Bytes
  pub is : enc ≡ codes ++ rest
  pub wrote : Wrote out at rest fit now end

-- none waits
pub pending-none : {o now : Bytes} {at e : ℕ} {x : Bytes} {f : Bool} → Wrote o at x f now e → Pending o at x f now e []
pending-none {x = x} w = record { rest = x; is = refl; wrote = w }

-- something is written behind
pub pending-append : (o m after : Bytes) (at e k : ℕ) (x y : Bytes) (f g : Bool) (codes : Bytes) → length o ≡ length m → length m < 65536
    → Pending o at x f m e codes → Wrote m e y g after k → Pending o at (x ++ y) (f && g) after k codes
pending-append o m after at e k x y f g codes l s p w = record {
  rest = p.rest ++ y;
  is = ap (λ z. z ++ y) p.is ∙ append_assoc codes p.rest y;
  wrote = wrote-append o m after at e k p.rest y f g l s p.wrote w;
}

-- those that wait are put before it
pub pending-insert : {o m after : Bytes} {at e k : ℕ} {x : Bytes} {f : Bool} {codes : Bytes} → length o ≡ length m → length m < 65536
    → Pending o at x f m e codes → after ≡ inserted m at e codes → k ≡ min (e + length codes) 65536 → Wrote o at x f after k
pending-insert {o} {m} {after} {at} {e} {k} {x} {f} {codes} l s p w j =
    subst (λ z. Wrote o at z f after k) (sym p.is) (wrote-insert o m after at e k codes p.rest f l s p.wrote w j)

-- one more waits
pending-more : {o m : Bytes} {at e : ℕ} {x : Bytes} {f : Bool} {codes : Bytes} {c : ℕ} → Pending o at x f m e codes → Pending o at (c ∷ x) f m e (c ∷ codes)
pending-more {c = c} p = record { rest = p.rest; is = ap (λ y. c ∷ y) p.is; wrote = p.wrote }

-- what keeping one code more leaves: it goes before all that is written
pub record KeepsPending (m : Bytes) (at end : ℕ) (codes : Bytes) (c : ℕ) (after : Bytes) (end' : ℕ) (codes' : Bytes) : Type 0 where
  pub pending : (o x : Bytes) (f : Bool) → length o ≡ length m → length m < 65536 → Pending o at x f m end codes → Pending o at (c ∷ x) f after end' codes'
  pub from : end ≤ end'
  pub top : end' ≤ 65536

module _ {m : Bytes} {at e : ℕ} {codes : Bytes} {c : ℕ} (bound : e ≤ 65536) where
  -- by whether there is room for it beside the others
  kept_by : (room : Bool) → KeepsPending m at e codes c (if room then m else inserted m at e codes) (if room then e else min (e + length codes) 65536)
      (c ∷ (if room then codes else []))
  kept_by true = record { pending = λ o x f r s p. pending-more p; from = le_refl e; top = bound }
  kept_by false = record {
    pending = λ o x f r s p. pending-more (pending-none (pending-insert r s p refl refl));
    from = omega arith;
    top = omega arith;
  }

  pub kept-pending : {room : ℕ} {after codes' : Bytes} {end' : ℕ} → Keeps room m at e codes c after end' codes' → KeepsPending m at e codes c after end' codes'
  kept-pending {room = room} u =
      let a = kept_by (ltb (length codes) room) in
      let b = u.bytes_are in
      let d = u.end_is in
      let f = u.codes_are in
      rw (b, d, f) a

-- one byte put at the end
pub wrote-put : (o after : Bytes) (at k b : ℕ) → after ≡ set o at b → k ≡ min (at + 1) 65536 → Wrote o at (b ∷ []) true after k
wrote-put o after at k b h j = record { end_is = j; bytes_are = λ t r. h }

-- ---- results by their cases

module _ {A : Type 0} (F : Form A) (s out : Bytes) (at : ℕ) (after : Bytes) (g : Read A) (x : Result (Built Bool) ℕ) (b : Builds F s out at after g x) where
  pub built-stop : {q : ℕ} → x ≡ Err q → g ≡ stop (drop q s)
  unfolding Builds
  built-stop e = subst (Builds F s out at after g) e b

  pub built-took : {y : Built Bool} → x ≡ Ok y → Made F s out at after g y
  unfolding Builds
  built-took e = subst (Builds F s out at after g) e b

  pub builds-as : {h : Read A} → h ≡ g → Builds F s out at after h x
  builds-as e = subst (λ k. Builds F s out at after k x) (sym e) b

pub made_of : {A : Type 0} {F : Form A} {s out : Bytes} {at : ℕ} {after : Bytes} {g : Read A} {b : Built Bool} → Builds F s out at after g (Ok b)
    → Made F s out at after g b
unfolding Builds
made_of b = b

-- what was made stands written
pub made-begun : {A : Type 0} {F : Form A} {s out after : Bytes} {at : ℕ} {g : Read A} {b : Built Bool}
    → (m : Made F s out at after g b) → length out ≡ length after → Begun F out at after b m.thing
made-begun m r = record { fit_is = m.fit_is; wrote = m.wrote; room = r }

-- one form within another
pub record Within {A B : Type 0} (F : Form A) (G : Form B) (h : A → B) : Type 0 where
  pub bytes_are : (a : A) → G.bytes (h a) ≡ F.bytes a
  pub fits_are : (a : A) → G.fits (h a) ≡ F.fits a
  pub logical_is : (a : A) → G.logical (h a) ≡ F.logical a

module _ {A B : Type 0} {F : Form A} {G : Form B} {h : A → B} (w : Within F G h) where
  pub made-within : {s out after : Bytes} {at : ℕ} {g : Read A} {b : Built Bool} → Made F s out at after g b → Made G s out at after (map_read h g) b
  unfolding map_read
  made-within {out = out} {after} {at} {b = b} m = record {
    thing = h m.thing;
    is = ap (map_read h) m.is;
    kind = m.kind ∙ sym (w.logical_is m.thing);
    fit_is = m.fit_is ∙ sym (w.fits_are m.thing);
    wrote = subst (λ z. Wrote out at z b.fits after b.end) (sym (w.bytes_are m.thing)) m.wrote;
  }

  pub builds-within : (s out : Bytes) (at : ℕ) (after : Bytes) (g : Read A) (x : Result (Built Bool) ℕ) → Builds F s out at after g x
      → Builds G s out at after (map_read h g) x
  unfolding Builds map_read
  builds-within s out at after g (Ok y) b = made-within b
  builds-within s out at after g (Err q) b = ap (map_read h) b

-- ---- places

pub onward-from : {K : Type 0} {s : Bytes} {p at q e : ℕ} (x : Result (Built K) ℕ) → p ≤ q → at ≤ e → OnwardBuilt s q e x → OnwardBuilt s p at x
onward-from (Ok b) h j o =
    let a = o.on in
    let b = o.from in
    record { on = omega arith; inside = o.inside; from = omega arith; top = o.top }
onward-from (Err t) h j o =
    let a = o.on in
    let b = o.top in
    record { on = omega arith; inside = o.inside; from = omega arith; top = omega arith }
