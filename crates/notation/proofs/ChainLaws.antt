-- Operands that are read from left to right and written operator first, of whatever kind.
use mathlib.Core.Path.{◌≡◌, refl, sym, ap, subst, ◌∙◌}
use mathlib.Core.Bool.{Bool, ◌&&◌}
use mathlib.Core.List.{List, [], ◌∷◌, ◌++◌}
use Prim.Native.Nat.{ℕ, zero, suc, ◌+◌, ◌-◌, ◌≤◌, ◌<◌, min}
use native.Mathlib.Omega.{arith}
use lib.ListN.{length, drop, length-drop}
use Rattle.std.specs.Prelude.{Some, None, Ok, Err}
use Rattle.rules.specs.Format.{Bytes}
use Rattle.text.specs.Words.{Read, stop, took, then_read, spaces, Word}
use Rattle.text.specs.Notation.{joined, broken, link, on_link, chain}
use Rattle.text.proofs.Chain.{chain-over}
use Rattle.scan.specs.Writing.{Wrote, Form, Begun, Builds, OnwardBuilt, inserted}
use Rattle.scan.specs.Waiting.{Keeps}
use Rattle.scan.specs.declared.step.Built.{Built}
use Rattle.scan.proofs.BuildLaws.{Pending, pending-none, pending-append, pending-insert, KeepsPending, kept-pending}
use Rattle.notation.specs.Forms.{ChainBuilds}
use Rattle.notation.specs.Signs.{Coded, SignRead}

-- ---- one more operand

-- a thing is read, and all of it stands written but for the codes that wait
pub record Joining {A : Type 0} (F : Form A) (out : Bytes) (at : ℕ) (now codes : Bytes) (b : Built Bool) (a : A) : Type 0 where
  pub fit_is : b.fits ≡ F.fits a
  pub pending : Pending out at (F.bytes a) b.fits now b.end codes
  pub room : length out ≡ length now

joining : {A : Type 0} {F : Form A} {o now : Bytes} {at : ℕ} {b : Built Bool} {a : A} → Begun F o at now b a → Joining F o at now [] b a
joining b = record { fit_is = b.fit_is; pending = pending-none b.wrote; room = b.room }

-- the code waits, and the operand is written behind
joining-more : {A : Type 0} {F : Form A} {m : A → A → A} {o now mid after codes codes' : Bytes} {at k c : ℕ} {b b' : Built Bool} {g : Bool} {a a' : A}
    → Coded F F c m → length now < 65536 → length mid ≡ length now → length after ≡ length now → Joining F o at now codes b a
    → KeepsPending now at b.end codes c mid k codes' → g ≡ F.fits a' → Wrote mid k (F.bytes a') g after b'.end → b'.fits ≡ (b.fits && g)
    → Joining F o at after codes' b' (m a a')
joining-more {F = F} {m} {o} {now} {mid} {after} {codes} {codes'} {at} {k} {c} {b} {b'} {g} {a} {a'} d s lm la u w q v z =
    let r : length o ≡ length now = u.room in
    let x = w.pending o (F.bytes a) b.fits r s u.pending in
    let y = pending-append o mid after at k b'.end (c ∷ F.bytes a) (F.bytes a') b.fits g codes' (omega arith) (omega arith) x v in
    record {
      fit_is = z ∙ ap (λ t. t && g) u.fit_is ∙ ap (λ t. F.fits a && t) q ∙ sym (d.fits_are a a');
      pending = subst (λ t. Pending o at t b'.fits after b'.end codes') (sym (d.bytes_are a a'))
          (subst (λ t. Pending o at ((c ∷ F.bytes a) ++ F.bytes a') t after b'.end codes') (sym z) y);
      room = omega arith;
    }

-- ---- the chain

module _ {A : Type 0} (F : Form A) (ws : List (Word (A → A → A))) (operand : Bytes → Read A) where
  -- the chain from the first operand is the chain from here
  pub record Going (s o : Bytes) (at n p : ℕ) (a : A) (out codes : Bytes) (all : Built Bool) : Type 0 where
    pub thing : A
    pub turns : ℕ
    pub enough : length (drop all.place s) ≤ turns
    pub goes_on : chain ws operand n a (drop p s) ≡ chain ws operand turns thing (drop all.place s)
    pub joined : Joining F o at out codes all thing

  pub record ChainSoFar (s : Bytes) (at : ℕ) (now : Bytes) (first : Built Bool) (out codes : Bytes) (all : Built Bool) : Type 0 where
    pub on : first.place ≤ all.place
    pub inside : all.place ≤ length s
    pub from : at ≤ all.end
    pub top : all.end ≤ 65536
    pub room : length out ≡ length now
    pub small : length now < 65536
    pub goes : (o : Bytes) (a : A) (n : ℕ) → length (drop first.place s) ≤ n → Begun F o at now first a
        → Going s o at n first.place a out codes all

  pub chain-start : (s now : Bytes) (at : ℕ) (first : Built Bool) → first.place ≤ length s → at ≤ first.end → first.end ≤ 65536
      → length now < 65536 → ChainSoFar s at now first now [] first
  chain-start s now at first h l m k = record {
    on = omega arith;
    inside = h;
    from = l;
    top = m;
    room = refl;
    small = k;
    goes = λ o a n g b. record { thing = a; turns = n; enough = g; goes_on = refl; joined = joining b };
  }

  -- a turn
  turn-broken : (n : ℕ) (a : A) (s : Bytes) {t : Bytes} → 1 ≤ n → link ws (spaces s) ≡ broken t → chain ws operand n a s ≡ stop t
  unfolding chain on_link
  turn-broken zero a s h l = absurd (omega arith)
  turn-broken (suc n) a s h l = rw l

  turn-stop : (n : ℕ) (a : A) (s : Bytes) {m : A → A → A} {r t : Bytes} → 1 ≤ n → link ws (spaces s) ≡ joined m r → operand r ≡ stop t → chain ws operand n a s ≡ stop t
  unfolding chain on_link then_read
  turn-stop zero a s h l k = absurd (omega arith)
  turn-stop (suc n) a s h l k = rw (l, k)

  turn_more : (n : ℕ) (a b : A) (s : Bytes) {m : A → A → A} {r t : Bytes} → 1 ≤ n → link ws (spaces s) ≡ joined m r → operand r ≡ took b t
      → chain ws operand n a s ≡ chain ws operand (n - 1) (m a b) t
  unfolding chain on_link then_read
  turn_more zero a b s h l k = absurd (omega arith)
  turn_more (suc n) a b s h l k = let d : suc n - 1 ≡ n = omega arith in rw (l, k, d)

module _ {A : Type 0} {F : Form A} {ws : List (Word (A → A → A))} {operand : Bytes → Read A} {s : Bytes} {at : ℕ} {now : Bytes} {first : Built Bool}
    {out codes : Bytes} {all : Built Bool} (i : ChainSoFar F ws operand s at now first out codes all) where
  left : length (drop all.place s) ≡ length s - all.place
  left = length-drop all.place s

  pub chain-ends : {m : ℕ → A → A → A} {after : Bytes} {end : ℕ} (l : Bool) → ((a : A) → l ≡ F.logical a) → SignRead F F m ws s all.place (Ok None)
      → after ≡ inserted out at all.end codes → end ≡ min (all.end + length codes) 65536
      → ChainBuilds F ws operand s at now first after (Ok (record { kind = l; place = all.place; end = end; fits = all.fits }))
  unfolding Builds
  chain-ends l k g w j o a n h b =
      let x = i.goes o a n h b in
      let rm = i.room in
      let sm = i.small in
      record {
        thing = x.thing;
        is = x.goes_on ∙ chain-over ws operand x.turns x.thing (drop all.place s) (sym g.is);
        kind = k x.thing;
        fit_is = x.joined.fit_is;
        wrote = pending-insert x.joined.room (omega arith) x.joined.pending w j;
      }

  pub chain-broken : {m : ℕ → A → A → A} {t : ℕ} → SignRead F F m ws s all.place (Err t) → (after : Bytes) → ChainBuilds F ws operand s at now first after (Err t)
  unfolding Builds
  chain-broken g after o a n h b =
      let x = i.goes o a n h b in
      let y = g.fits in
      let en = x.enough in
      let so = left in
      x.goes_on ∙ turn-broken F ws operand x.turns x.thing (drop all.place s) (omega arith) (sym g.is)

  module _ {m : ℕ → A → A → A} {c t : ℕ} (g : SignRead F F m ws s all.place (Ok (Some (c, t)))) where
    pub chain-stops : (u : ℕ) → operand (drop t s) ≡ stop (drop u s) → (after : Bytes) → ChainBuilds F ws operand s at now first after (Err u)
    unfolding Builds
    chain-stops u k after o a n h b =
        let x = i.goes o a n h b in
        let y = g.fits in
        let en = x.enough in
        let so = left in
        x.goes_on ∙ turn-stop F ws operand x.turns x.thing (drop all.place s) (omega arith) (sym g.is) k

    pub chain_more : {room : ℕ} {mid after codes' : Bytes} {k : ℕ} {next : Built Bool} {both : Bool} → Keeps room out at all.end codes c mid k codes'
        → length mid ≡ length out → length after ≡ length mid → Builds F s mid k after (operand (drop t s)) (Ok next)
        → OnwardBuilt s t k (Ok next) → both ≡ (all.fits && next.fits)
        → ChainSoFar F ws operand s at now first after codes' (record { kind = next.kind; place = next.place; end = next.end; fits = both })
    unfolding Builds
    chain_more {after = after} {k = k} {next = next} ks lm la v w hh =
        let kp = kept-pending i.top ks in
        let y = g.fits in
        let on = i.on in
        let fr = i.from in
        let tp = i.top in
        let rm = i.room in
        let sm = i.small in
        let won = w.on in
        let win = w.inside in
        let wfr = w.from in
        let kf = kp.from in
        record {
          on = omega arith;
          inside = win;
          from = omega arith;
          top = w.top;
          room = omega arith;
          small = sm;
          goes = λ o a n h b.
              let x = i.goes o a n h b in
              let en = x.enough in
              let so = left in
              let st : length (drop next.place s) ≡ length s - next.place = length-drop next.place s in
              record {
                thing = m c x.thing v.thing;
                turns = x.turns - 1;
                enough = omega arith;
                goes_on = x.goes_on ∙ turn_more F ws operand x.turns x.thing v.thing (drop all.place s) (omega arith) (sym g.is) v.is;
                joined = joining-more y.2 (omega arith) lm (la ∙ lm) x.joined kp v.fit_is v.wrote hh;
              };
        }
