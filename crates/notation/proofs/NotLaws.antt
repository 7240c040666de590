-- `!`s before an operand.
use mathlib.Core.Path.{◌≡◌, refl, sym, ap, subst, ◌∙◌}
use mathlib.Core.Bool.{Bool, true, false}
use mathlib.Core.List.{List, [], ◌∷◌, ◌++◌}
use Prim.Native.Nat.{ℕ, zero, suc, ◌+◌, ◌-◌, ◌≤◌, ◌<◌, min}
use native.Mathlib.Omega.{arith}
use native.Mathlib.Decide.{dec_lt}
use borrow.Author.Tests.{ne_eqb, eq-eqb, lt-ltb, le-ltb}
use lib.Dec.{eqb, ltb}
use lib.ListN.{length, drop, get_or, set, replicate}
use Rattle.rules.specs.Format.{Bytes}
use Rattle.rules.specs.Program.{Condition}
use Rattle.rules.specs.Encoding.{encode_condition}
use Rattle.text.specs.Convert.{condition_fits}
use Rattle.text.specs.Words.{Read, stop, took, then_read, map_read, spaces}
use Rattle.text.specs.Notation.{Thing, arithmetic, logical, on_thing, is_condition, negated, atom}
use Rattle.scan.specs.Writing.{Wrote, Builds}
use Rattle.scan.specs.declared.step.Built.{Built}
use Rattle.std.specs.Prelude.{Result, Ok, Err}
use Rattle.scan.proofs.WordLaws.{here, over}
use Rattle.scan.proofs.BuildLaws.{wrote-append, wrote-put}
use Rattle.notation.specs.Forms.{condition_form, thing_form, Requires}
use Rattle.notation.specs.Nots.{nots, negations, NotsRead, Negates}

-- ---- what they make of what follows

nots-inside : (n : ℕ) (g : Read Thing) → nots n (then_read g negated) ≡ nots (suc n) g
unfolding nots
nots-inside zero g = refl
nots-inside (suc n) g = ap (λ h. then_read h negated) (nots-inside n g)

pub nots_stop : (n : ℕ) (r : Bytes) → nots n (stop r) ≡ stop r
unfolding nots then_read
nots_stop zero r = refl
nots_stop (suc n) r = let k = nots_stop n r in rw k

nots-logical : (n : ℕ) (c : Condition) (r : Bytes) → nots n (took (logical c) r) ≡ took (logical (negations n c)) r
unfolding nots negations then_read negated is_condition on_thing map_read
nots-logical zero c r = refl
nots-logical (suc n) c r = let k = nots-logical n c r in rw k

-- one or more of them take a condition
nots-some : (n : ℕ) (g : Read Thing) → nots (suc n) g ≡ map_read (λ c. logical (negations (suc n) c)) (then_read g is_condition)
unfolding then_read is_condition on_thing map_read negated
nots-some n (stop r) = nots_stop (suc n) r
nots-some n (took (arithmetic a) r) = sym (nots-inside n (took (arithmetic a) r)) ∙ nots_stop n (spaces r)
nots-some n (took (logical c) r) = nots-logical (suc n) c r

negations-bytes : (n : ℕ) (c : Condition) → encode_condition (negations n c) ≡ replicate n 34 ++ encode_condition c
unfolding negations encode_condition
negations-bytes zero c = refl
negations-bytes (suc n) c = ap (λ (t : Bytes). 34 ∷ t) (negations-bytes n c)

negations-fit : (n : ℕ) (c : Condition) → condition_fits (negations n c) ≡ condition_fits c
unfolding negations condition_fits
negations-fit zero c = refl
negations-fit (suc n) c = negations-fit n c

none-counted : (n : ℕ) → false ≡ ltb 0 n → n ≡ 0
none-counted zero h = refl
none-counted (suc n) h = let h' : ◌≡◌ {A = Bool} false true = h ∙ lt-ltb 0 (suc n) (omega arith) in let z : ◌≡◌ {A = ℕ} 0 1 = cc in absurd (omega arith)

some-counted : (n : ℕ) → true ≡ ltb 0 n → n ≡ suc (n - 1)
some-counted zero h = let h' : ◌≡◌ {A = Bool} true false = h ∙ le-ltb 0 0 (omega arith) in let z : ◌≡◌ {A = ℕ} 0 1 = cc in absurd (omega arith)
some-counted (suc n) h = omega arith

-- ---- an operand with them

module _ (s : Bytes) {some : Bool} (x : Built Bool) where
  pub negates-none : some ≡ false → Negates s some x (Ok x)
  unfolding nots Builds
  negates-none z out mid after at e n g l m k w b =
      let n0 : n ≡ 0 = none-counted n (sym z ∙ k) in
      let w' : Wrote out at [] true mid e = rw n0 at w in
      rw n0 (record {
        thing = b.thing;
        is = b.is;
        kind = b.kind;
        fit_is = b.fit_is;
        wrote = wrote-append out mid after at e x.end [] (thing_form.bytes b.thing) true x.fits l m w' b.wrote;
      })

  pub negates-some : (y : Result (Built Bool) ℕ) → some ≡ true → Requires s x y → Negates s some x y
  unfolding Builds map_read thing_form condition_form
  negates-some y z h out mid after at e n g l m k w b =
      let n1 : n ≡ suc (n - 1) = some-counted n (sym z ∙ k) in
      let w' : Wrote out at (replicate (suc (n - 1)) 34) true mid e = subst (λ i. Wrote out at (replicate i 34) true mid e) n1 w in
      subst (λ i. Builds thing_form s out at after (nots i g) y) (sym n1) (taken (n - 1) y w' (h mid e after g b))
    where
      taken : (i : ℕ) (y : Result (Built Bool) ℕ) → Wrote out at (replicate (suc i) 34) true mid e → Builds condition_form s mid e after (then_read g is_condition) y
          → Builds thing_form s out at after (nots (suc i) g) y
      taken i (Ok r) w' m' = record {
        thing = logical (negations (suc i) m'.thing);
        is = nots-some i g ∙ ap (map_read (λ c. logical (negations (suc i) c))) m'.is;
        kind = m'.kind;
        fit_is = m'.fit_is ∙ sym (negations-fit (suc i) m'.thing);
        wrote = subst (λ t. Wrote out at t r.fits after r.end) (sym (negations-bytes (suc i) m'.thing))
            (wrote-append out mid after at e r.end (replicate (suc i) 34) (encode_condition m'.thing) true r.fits l m w' m'.wrote);
      }
      taken i (Err q) w' h = nots-some i g ∙ ap (map_read (λ c. logical (negations (suc i) c))) h

-- ---- one by one

atom-spaces : (begin : Bytes → Read Thing) (t : Bytes) → atom begin t ≡ atom begin (spaces t)
unfolding atom spaces
atom-spaces begin [] = refl
atom-spaces begin (b ∷ t) = by-space (eqb b 32) refl (atom-spaces begin t)
  where
    by-space : (u : Bool) → eqb b 32 ≡ u → atom begin t ≡ atom begin (spaces t) → atom begin (b ∷ t) ≡ atom begin (spaces (b ∷ t))
    by-space true e h = rw e h
    by-space false e h = let k : spaces (b ∷ t) ≡ b ∷ t = rw e in ap (atom begin) (sym k)

-- spaces are gone
no-space : (x : Bytes) {b : ℕ} {y : Bytes} → b ∷ y ≡ spaces x → b ≡ 32 → ⊥
unfolding spaces
no-space [] {b} {y} h z = let h' : ◌≡◌ {A = List ℕ} (b ∷ y) [] = h in let k : ◌≡◌ {A = ℕ} 0 1 = cc in omega arith
no-space (a ∷ x) {b} {y} h z = by-space (eqb a 32) refl (λ k. no-space x k z)
  where
    by-space : (u : Bool) → eqb a 32 ≡ u → (b ∷ y ≡ spaces x → ⊥) → ⊥
    by-space true e f = let h' : b ∷ y ≡ spaces x = rw e at h in f h'
    by-space false e f = let h' : b ∷ y ≡ a ∷ x = rw e at h in let i : a ≡ 32 = cc in let k : true ≡ false = sym (eq-eqb a 32 i) ∙ e in let n : ◌≡◌ {A = ℕ} 0 1 = cc in omega arith

-- from p the code has come to q, behind spaces, and written up to e
pub record NotsSoFar (s : Bytes) (p : ℕ) (out : Bytes) (at : ℕ) (after : Bytes) (q e : ℕ) (some : Bool) : Type 0 where
  pub count : ℕ
  pub reads : (begin : Bytes → Read Thing) → atom begin (drop p s) ≡ nots count (atom begin (drop q s))
  pub rest : Bytes
  pub spaced : drop q s ≡ spaces rest
  pub some_is : some ≡ ltb 0 count
  pub wrote : Wrote out at (replicate count 34) true after e
  pub on : p ≤ q
  pub inside : q ≤ length s
  pub from : at ≤ e
  pub top : e ≤ 65536
  pub room : length out ≡ length after
  pub small : length after < 65536

pub nots-start : (s : Bytes) (p : ℕ) (out : Bytes) (at q : ℕ) → drop q s ≡ spaces (drop p s) → p ≤ q → q ≤ length s → at ≤ 65536
    → length out < 65536 → NotsSoFar s p out at out q at false
unfolding nots
nots-start s p out at q h o l k m = record {
  count = 0;
  reads = λ begin. atom-spaces begin (drop p s) ∙ ap (atom begin) (sym h);
  rest = drop p s;
  spaced = h;
  some_is = sym (le-ltb 0 0 (omega arith));
  wrote = record { end_is = omega arith; bytes_are = λ _ _. refl };
  on = o;
  inside = l;
  from = omega arith;
  top = k;
  room = refl;
  small = m;
}

replicate-snoc : (b n : ℕ) → replicate n b ++ (b ∷ []) ≡ replicate (suc n) b
replicate-snoc b zero = refl
replicate-snoc b (suc n) = ap (λ (t : Bytes). b ∷ t) (replicate-snoc b n)

module _ {s : Bytes} {p : ℕ} {out : Bytes} {at : ℕ} {after : Bytes} {q e : ℕ} {some : Bool} (i : NotsSoFar s p out at after q e some) where
  pub nots-end : (q < length s → get_or s q 0 ≡ 33 → ⊥) → NotsRead s p out at after q e some
  unfolding atom
  nots-end n = record {
    count = i.count;
    reads = λ begin z. i.reads begin ∙ ap (nots i.count) (elim (dec_lt q (length s)) [
      | yes l ↦ other begin l (no-space i.rest (sym (here s q l) ∙ i.spaced)) (n l)
      | no l ↦ let g = over s q (omega arith) in rw g (sym z)
    ]);
    some_is = i.some_is;
    wrote = i.wrote;
    on = i.on;
    inside = i.inside;
    from = i.from;
    top = i.top;
  }
    where
      other : (begin : Bytes → Read Thing) → q < length s → (get_or s q 0 ≡ 32 → ⊥) → (get_or s q 0 ≡ 33 → ⊥) → atom begin (drop q s) ≡ begin (drop q s)
      other begin k m n = rw (here s q k, ne_eqb (get_or s q 0) 32 m, ne_eqb (get_or s q 0) 33 n)

  pub nots-more : {put : Bytes} {k : ℕ} (t : ℕ) → q < length s → get_or s q 0 ≡ 33 → put ≡ set after e 34 → length put ≡ length after
      → k ≡ min (e + 1) 65536 → drop t s ≡ spaces (drop (q + 1) s) → q + 1 ≤ t → t ≤ length s → NotsSoFar s p out at put t k true
  unfolding atom
  nots-more {put} {k} t m b w r j h o l =
      let a = i.on in
      let d = i.from in
      let u = i.top in
      let v = i.room in
      let x = i.small in
      record {
        count = suc i.count;
        reads = λ begin. i.reads begin ∙ ap (nots i.count) (one begin)
            ∙ nots-inside i.count (atom begin (drop (q + 1) s)) ∙ ap (nots (suc i.count)) (atom-spaces begin (drop (q + 1) s) ∙ ap (atom begin) (sym h));
        rest = drop (q + 1) s;
        spaced = h;
        some_is = sym (lt-ltb 0 (suc i.count) (omega arith));
        wrote = subst (λ y. Wrote out at y true put k) (replicate-snoc 34 i.count)
            (wrote-append out after put at e k (replicate i.count 34) (34 ∷ []) true true v x i.wrote (wrote-put after put e k 34 w j));
        on = omega arith;
        inside = l;
        from = omega arith;
        top = omega arith;
        room = omega arith;
        small = omega arith;
      }
    where
      one : (begin : Bytes → Read Thing) → atom begin (drop q s) ≡ then_read (atom begin (drop (q + 1) s)) negated
      one begin = rw (here s q m, b)
