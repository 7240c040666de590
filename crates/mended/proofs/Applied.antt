-- The changes listed, made in the original, give the mended sheet.
use mathlib.Core.Path.{◌≡◌, refl, sym, ap, ◌∙◌}
use mathlib.Core.Bool.{Bool, true, false, ◌&&◌, not}
use mathlib.Core.Option.{Option, none, some}
use mathlib.Core.List.{List, [], ◌∷◌, ◌++◌, append_assoc}
use Prim.Native.Nat.{ℕ, ◌+◌, ◌≤◌}
use native.Mathlib.Omega.{arith}
use lib.Dec.{leb, eqb}
use lib.ListN.{drop}
use lib.Seq.{slice, slice_empty}
use Rattle.rules.specs.Format.{Bytes, byte, num16}
use Rattle.rules.specs.Sheets.{halt}
use Rattle.rules.proofs.Base.{if-ind}
use Rattle.mended.specs.Mend.{Change, exchanged, halt_added, Mended, copied, ◌then◌, behind, reversed, exchanged_field, mended_field, open_after, closes_at, added, mended}
use Rattle.mended.specs.Claims.{applied}
use Rattle.mended.proofs.Slices.{slice-drop, slice-slice}
use Rattle.mended.proofs.Walk.{walk-holds}

-- a statement that wants a halt ends at the place
abbrev pub EndsAt : Bytes → ℕ → Option ℕ → Type 0
EndsAt s at none = Unit {0}
EndsAt s at (some l) = behind s l ≡ at

pub open-ends : (s : Bytes) (at : ℕ) → EndsAt s (behind s at) (open_after s at)
unfolding open_after
open-ends s at =
    if-ind (eqb (byte s at) 6 && (leb 5 (num16 s (at + 1)) && not (eqb (byte s (at + 7)) 0))) (some at) none (EndsAt s (behind s at)) (λ _. refl) (λ _. tt)

module _ (s : Bytes) where
  -- the first change does not begin before a place
  abbrev From : ℕ → List Change → Type 0
  From p [] = Unit {0}
  From p (exchanged at ∷ cs) = p ≤ at
  From p (halt_added at ∷ cs) = p ≤ behind s at

  earlier : (p q : ℕ) (cs : List Change) → p ≤ q → From q cs → From p cs
  earlier p q [] h f = tt
  earlier p q (exchanged at ∷ cs) h f = omega arith
  earlier p q (halt_added at ∷ cs) h f = omega arith

  -- up to the first change the sheet is copied
  applied-from : (p q : ℕ) (cs : List Change) → p ≤ q → From q cs → slice p q s ++ applied s q cs ≡ applied s p cs
  unfolding applied
  applied-from p q [] h f = slice-drop p q s h
  applied-from p q (exchanged at ∷ cs) h f =
      let rest = exchanged_field s at ++ applied s (behind s at) cs in
      sym (append_assoc (slice p q s) (slice q at s) rest) ∙ ap (λ (l : Bytes). l ++ rest) (slice-slice p q at s h f)
  applied-from p q (halt_added at ∷ cs) h f =
      let rest = halt ++ applied s (behind s at) cs in
      sym (append_assoc (slice p q s) (slice q (behind s at) s) rest) ∙ ap (λ (l : Bytes). l ++ rest) (slice-slice p q (behind s at) s h f)

  -- what is mended from a place on is what its changes make of the original from there
  record Made (at : ℕ) (m : Mended) : Type 0 where
    pub from : From at m.changes
    pub made : applied s at m.changes ≡ m.bytes

  added-made : (b : Bool) (last : Option ℕ) (at : ℕ) (m : Mended) → EndsAt s at last → Made at m → Made at (added b last then m)
  unfolding added applied
  added-made false last at m e h = h
  added-made true none at m e h = h
  added-made true (some l) at m e h = record {
    from = omega arith;
    made = ap (λ (q : ℕ). slice at q s ++ (halt ++ applied s q m.changes)) e
        ∙ ap (λ (x : Bytes). x ++ (halt ++ applied s at m.changes)) (slice_empty at s) ∙ ap (λ (x : Bytes). halt ++ x) h.made;
  }

  field-made : (at : ℕ) (m : Mended) → Made (behind s at) m → Made at (mended_field s at then m)
  unfolding mended_field applied
  field-made at m h =
      let q = behind s at in
      let rest = exchanged_field s at ++ applied s q m.changes in
      if-ind (reversed s at) _ _ (λ x. Made at (x then m))
      (λ _. record {
        from = omega arith;
        made = ap (λ (x : Bytes). x ++ rest) (slice_empty at s) ∙ ap (λ (x : Bytes). exchanged_field s at ++ x) h.made;
      })
      (λ _. record {
        from = earlier at q m.changes (omega arith) h.from;
        made = sym (applied-from at q m.changes (omega arith) h.from) ∙ ap (λ (x : Bytes). slice at q s ++ x) h.made;
      })

  end-made : (at : ℕ) → Made at (copied (drop at s))
  unfolding applied
  end-made at = record { from = tt; made = refl }

  whole-made : Made 0 (mended s)
  unfolding mended
  whole-made =
      walk-holds s (λ last at m. EndsAt s at last → Made at m)
      (λ last at i e. added-made (closes_at s at) last at (copied (drop at s)) e (end-made at))
      (λ last at m i h e. added-made (closes_at s at) last at (mended_field s at then m) e (field-made at m (h (open-ends s at)))) none 0 (omega arith) tt

pub changes-applied : (s : Bytes) → applied s 0 (mended s).changes ≡ (mended s).bytes
changes-applied s = (whole-made s).made
