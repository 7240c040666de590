-- Places of the mended sheet and of the original: what stands where, since the halts that are added stand in order.
use mathlib.Core.Path.{◌≡◌, refl, sym, ap, subst, ◌∙◌}
use mathlib.Core.Bool.{Bool, true, false}
use mathlib.Core.Option.{Option, none, some}
use mathlib.Core.List.{List, [], ◌∷◌}
use Prim.Native.Nat.{ℕ, suc, ◌+◌, ◌-◌, ◌*◌, ◌≤◌, ◌<◌}
use native.Mathlib.Decide.{dec_le}
use native.Mathlib.Omega.{arith}
use lib.ListN.{length, drop, length-append, length-drop}
use borrow.Author.Tests.{lt-ltb, le-ltb, le-leb, lt-leb}
use Rattle.rules.specs.Format.{Bytes}
use Rattle.rules.proofs.Base.{if-ind}
use Rattle.mended.specs.Mend.{Change, exchanged, halt_added, Mended, copied, ◌then◌, behind, reversed, mended_field, closes_at, added, mended, original}
use Rattle.mended.specs.Claims.{halts_before, GotHalt, this, later, moved_to, InHalt, StandsFor, moved, in_halt}
use Rattle.mended.proofs.Walk.{walk-holds}
use Rattle.mended.proofs.Length.{field-length}
use Rattle.mended.proofs.Applied.{EndsAt, open-ends}

module _ (s : Bytes) where
  -- ---- one halt

  module _ (at : ℕ) (cs : List Change) (p : ℕ) where
    halt-counts : behind s at ≤ p → halts_before s (halt_added at ∷ cs) p ≡ 1 + halts_before s cs p
    unfolding halts_before
    halt-counts h = rw (le-leb (behind s at) p h)

    halt-later : p < behind s at → halts_before s (halt_added at ∷ cs) p ≡ halts_before s cs p
    unfolding halts_before
    halt-later h = rw (lt-leb (behind s at) p h) (omega arith)

    original-before : p < behind s at → original s (halt_added at ∷ cs) p ≡ p
    unfolding original
    original-before h = rw (lt-ltb p (behind s at) h)

    original-in : behind s at ≤ p → p < behind s at + 8 → original s (halt_added at ∷ cs) p ≡ at
    unfolding original
    original-in h k = rw (le-ltb p (behind s at) h, lt-ltb p (behind s at + 8) k)

    original-behind : behind s at + 8 ≤ p → original s (halt_added at ∷ cs) p ≡ original s cs (p - 8)
    unfolding original
    original-behind h = let l : behind s at ≤ p = omega arith in rw (le-ltb p (behind s at) l, le-ltb p (behind s at + 8) h)

  -- ---- halts in order

  -- the statements that got a halt end at a place or behind it, each behind the one before
  abbrev Halts : ℕ → List Change → Type 0
  Halts p [] = Unit {0}
  Halts p (exchanged at ∷ cs) = Halts p cs
  Halts p (halt_added at ∷ cs) = (p ≤ behind s at) × Halts (suc (behind s at)) cs

  earlier : (p q : ℕ) (cs : List Change) → p ≤ q → Halts q cs → Halts p cs
  earlier p q [] l h = tt
  earlier p q (exchanged at ∷ cs) l h = earlier p q cs l h
  earlier p q (halt_added at ∷ cs) l h = let k = h.0 in (omega arith, h.1)

  none_before : (p q : ℕ) (cs : List Change) → q < p → Halts p cs → halts_before s cs q ≡ 0
  unfolding halts_before
  none_before p q [] l h = refl
  none_before p q (exchanged at ∷ cs) l h = none_before p q cs l h
  none_before p q (halt_added at ∷ cs) l h =
      let k = h.0 in halt-later at cs q (omega arith) ∙ none_before (suc (behind s at)) q cs (omega arith) h.1

  kept : (b : ℕ) (cs : List Change) → Halts b cs → (p : ℕ) → original s cs (moved_to s cs p) ≡ p
  unfolding original halts_before
  kept b [] h p = omega arith
  kept b (exchanged at ∷ cs) h p = kept b cs h p
  kept b (halt_added at ∷ cs) h p = elim (dec_le (behind s at) p) [
    | yes l ↦
        let n = halts_before s cs p in
        let e : moved_to s (halt_added at ∷ cs) p ≡ p + 8 * n + 8 = omega (arith, halt-counts at cs p l) in
        let back : p + 8 * n + 8 - 8 ≡ p + 8 * n = omega arith in
        ap (original s (halt_added at ∷ cs)) e ∙ original-behind at cs (p + 8 * n + 8) (omega arith) ∙ ap (original s cs) back ∙ kept (suc (behind s at)) cs h.1 p
    | no l ↦
        let e : moved_to s (halt_added at ∷ cs) p ≡ p = omega (arith, halt-later at cs p (omega arith), none_before (suc (behind s at)) p cs (omega arith) h.1) in
        ap (original s (halt_added at ∷ cs)) e ∙ original-before at cs p (omega arith)
  ]

  -- one of them

  got-behind : {p : ℕ} {cs : List Change} (b : ℕ) → Halts b cs → GotHalt p cs → b ≤ behind s p
  got-behind b h this = h.0
  got-behind b h (later {c = exchanged at} g) = got-behind b h g
  got-behind b h (later {c = halt_added at} g) = let l = h.0 in omega (arith, got-behind (suc (behind s at)) h.1 g)

  got-counts : {p : ℕ} {cs : List Change} (b : ℕ) → Halts b cs → GotHalt p cs → 1 ≤ halts_before s cs (behind s p)
  unfolding halts_before
  got-counts {p} b h (this {cs = cs}) = omega (arith, halt-counts p cs (behind s p) (omega arith))
  got-counts b h (later {c = exchanged at} g) = got-counts b h g
  got-counts {p} b h (later {c = halt_added at} {cs = cs} g) =
      let l = got-behind (suc (behind s at)) h.1 g in
      omega (arith, halt-counts at cs (behind s p) (omega arith))

  in-halt : {p : ℕ} {cs : List Change} (b q : ℕ) → Halts b cs → GotHalt p cs → q < moved_to s cs (behind s p) → moved_to s cs (behind s p) ≤ q + 8 → original s cs q ≡ p
  unfolding original halts_before
  in-halt {p} b q h (this {cs = cs}) k l =
      let n = halt-counts p cs (behind s p) (omega arith) in
      let z = none_before (suc (behind s p)) (behind s p) cs (omega arith) h.1 in
      original-in p cs q (omega arith) (omega arith)
  in-halt b q h (later {c = exchanged at} g) k l = in-halt b q h g k l
  in-halt {p} b q h (later {c = halt_added at} {cs = cs} g) k l =
      let far = got-behind (suc (behind s at)) h.1 g in
      let some = got-counts (suc (behind s at)) h.1 g in
      let n = halt-counts at cs (behind s p) (omega arith) in
      original-behind at cs q (omega arith) ∙ in-halt (suc (behind s at)) (q - 8) h.1 g (omega arith) (omega arith)

  -- ---- what a place stands for

  past : (at : ℕ) (cs : List Change) (q p : ℕ) → Halts (suc (behind s at)) cs → behind s at + 8 ≤ q → StandsFor s cs (q - 8) p → StandsFor s (halt_added at ∷ cs) q p
  past at cs q p h l (moved e) = elim (dec_le (behind s at) p) [
    | yes k ↦ moved (omega (arith, halt-counts at cs p k))
    | no k ↦ absurd (omega (arith, none_before (suc (behind s at)) p cs (omega arith) h))
  ]
  past at cs q p h l (in_halt w) =
      let k : behind s at ≤ behind s p = omega (arith, got-behind (suc (behind s at)) h w.got_halt) in
      let n = halt-counts at cs (behind s p) k in
      let a = w.before_end in
      let b = w.from_start in
      in_halt (record { got_halt = later w.got_halt; before_end = omega arith; from_start = omega arith })

  exchange-stands : (at : ℕ) (cs : List Change) (q p : ℕ) → StandsFor s cs q p → StandsFor s (exchanged at ∷ cs) q p
  unfolding halts_before
  exchange-stands at cs q p (moved e) = moved e
  exchange-stands at cs q p (in_halt w) = in_halt (record { got_halt = later w.got_halt; before_end = w.before_end; from_start = w.from_start })

  stands : (b : ℕ) (cs : List Change) → Halts b cs → (q : ℕ) → StandsFor s cs q (original s cs q)
  unfolding original halts_before
  stands b [] h q = moved (omega arith)
  stands b (exchanged at ∷ cs) h q = exchange-stands at cs q (original s cs q) (stands b cs h q)
  stands b (halt_added at ∷ cs) h q = elim (dec_le (behind s at) q) [
    | yes l ↦ elim (dec_le (behind s at + 8) q) [
      | yes k ↦ subst (StandsFor s (halt_added at ∷ cs) q) (sym (original-behind at cs q k)) (past at cs q (original s cs (q - 8)) h.1 k (stands (suc (behind s at)) cs h.1 (q - 8)))
      | no k ↦
          let n = halt-counts at cs (behind s at) (omega arith) in
          let z = none_before (suc (behind s at)) (behind s at) cs (omega arith) h.1 in
          subst (StandsFor s (halt_added at ∷ cs) q) (sym (original-in at cs q l (omega arith))) (in_halt (record { got_halt = this; before_end = omega arith; from_start = omega arith }))
    ]
    | no l ↦
        let n = halt-later at cs q (omega arith) in
        let z = none_before (suc (behind s at)) q cs (omega arith) h.1 in
        subst (StandsFor s (halt_added at ∷ cs) q) (sym (original-before at cs q (omega arith))) (moved (omega arith))
  ]

  -- ---- the walk adds halts in order, and as many bytes as they have

  -- what is mended from a place on
  record Grown (at : ℕ) (m : Mended) : Type 0 where
    pub order : Halts at m.changes
    pub size : length m.bytes ≡ (length s - at) + 8 * halts_before s m.changes (length s)

  added-grown : (b : Bool) (last : Option ℕ) (at : ℕ) (m : Mended) → at ≤ length s → EndsAt s at last → Halts (suc at) m.changes
      → length m.bytes ≡ (length s - at) + 8 * halts_before s m.changes (length s) → Grown at (added b last then m)
  unfolding added
  added-grown false last at m i e o n = record { order = earlier at (suc at) m.changes (omega arith) o; size = n }
  added-grown true none at m i e o n = record { order = earlier at (suc at) m.changes (omega arith) o; size = n }
  added-grown true (some l) at m i e o n = record {
    order = (omega arith, subst (λ (p : ℕ). Halts (suc p) m.changes) (sym e) o);
    size = omega (arith, halt-counts l m.changes (length s) (omega arith));
  }

  field-grown : (at : ℕ) (m : Mended) → behind s at ≤ length s → Grown (behind s at) m
      → Halts (suc at) (mended_field s at then m).changes × (length (mended_field s at then m).bytes ≡ (length s - at) + 8 * halts_before s (mended_field s at then m).changes (length s))
  unfolding mended_field halts_before
  field-grown at m i h =
      let n = length-append (mended_field s at).bytes m.bytes in
      let f = field-length s at i in
      let z = h.size in
      let o = earlier (suc at) (behind s at) m.changes (omega arith) h.order in
      let d : length (mended_field s at then m).bytes ≡ (length s - at) + 8 * halts_before s m.changes (length s) = omega arith in
      if-ind (reversed s at) _ _ (λ (x : Mended). length (x then m).bytes ≡ (length s - at) + 8 * halts_before s m.changes (length s)
      → Halts (suc at) (x then m).changes × (length (x then m).bytes ≡ (length s - at) + 8 * halts_before s (x then m).changes (length s)))
      (λ _ d. (o, d)) (λ _ d. (o, d)) d

  end-size : (at : ℕ) → length (copied (drop at s)).bytes ≡ (length s - at) + 8 * halts_before s [] (length s)
  unfolding halts_before
  end-size at = omega (arith, length-drop at s)

  whole-grown : Grown 0 (mended s)
  unfolding mended
  whole-grown =
      walk-holds s (λ last at m. EndsAt s at last → Grown at m)
      (λ last at i e. added-grown (closes_at s at) last at (copied (drop at s)) i e tt (end-size at))
      (λ last at m i h e.
      let f = field-grown at m i (h (open-ends s at)) in
      added-grown (closes_at s at) last at (mended_field s at then m) (omega arith) e f.0 f.1) none 0 (omega arith) tt

  pub place_stands : (q : ℕ) → StandsFor s (mended s).changes q (original s (mended s).changes q)
  place_stands q = stands 0 (mended s).changes whole-grown.order q

  pub place_kept : (p : ℕ) → original s (mended s).changes (moved_to s (mended s).changes p) ≡ p
  place_kept p = kept 0 (mended s).changes whole-grown.order p

  pub place_in_halt : (q p : ℕ) → InHalt s (mended s).changes q p → original s (mended s).changes q ≡ p
  place_in_halt q p w = in-halt 0 q whole-grown.order w.got_halt w.before_end w.from_start

  pub end_moved : length (mended s).bytes ≡ moved_to s (mended s).changes (length s)
  end_moved = omega (arith, whole-grown.size)
