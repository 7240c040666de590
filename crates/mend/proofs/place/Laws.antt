-- A place counted in the original, turn by turn of the walk.
use Rattle.std.specs.Prelude.{if◌then◌else◌, Option, Some, None}
use Rattle.std.proofs.Math.Option as O
use Rattle.std.specs.declared.ops.ControlFlow.{ControlFlow}
use Rattle.std.specs.declared.ops.ControlFlow.TheVariants.{Continue, Break}
use mathlib.Core.Path.{◌≡◌, refl, sym, ap, ◌∙◌, subst}
use mathlib.Core.Bool.{Bool, true, false, ◌&&◌}
use mathlib.Core.List.{List, [], ◌++◌}
use Prim.Native.Nat.{ℕ, ◌+◌, ◌-◌, ◌≤◌}
use lib.Dec.{ltb}
use lib.ListN.{length, drop}
use Rattle.rules.specs.Format.{Bytes, has_head, has_body}
use Rattle.rules.specs.Sheets.{halt}
use Rattle.rules.proofs.Base.{if-ind}
use Rattle.mended.specs.Mend.{Change, Mended, behind, reversed, mended_field, open_after, closes_at, is_field, on_field, added, mend_from, original, ◌then◌}
use Rattle.mended.proofs.Walk.{mend-on, mend-field, mend-end}
use Rattle.mended.proofs.Applied.{EndsAt, open-ends}
use Rattle.mend.specs.Shape.{last_of, added_to, past_halt}
use Rattle.mend.proofs.writer.Laws.{whole-field}

-- ---- what it says of the original

abbrev choice : Bool → Bool → ℕ → ℕ → ℕ → ControlFlow ℕ ℕ
choice a b p l r = if a then Break p else if b then Break l else Continue r

choice-found : (a b : Bool) (p l r o : ℕ) {q : ℕ} → choice a b p l r ≡ Break q → q ≡ (if a then p else if b then l else o)
choice-found true b p l r o e = cc
choice-found false true p l r o e = cc
choice-found false false p l r o e = absurd (cc)

choice-further : (f : ℕ → ℕ) (a b : Bool) (p l r : ℕ) {q : ℕ} → choice a b p l r ≡ Continue q → (if a then p else if b then l else f r) ≡ f q
choice-further f true b p l r e = absurd (cc)
choice-further f false true p l r e = absurd (cc)
choice-further f false false p l r e = ap f cc

module _ (s : Bytes) (cs : List Change) (at p : ℕ) where
  halt-found : (c : Bool) (o : Option ℕ) {q : ℕ} → EndsAt s at (last_of o) → past_halt (added_to c o) at p ≡ Break q → q ≡ original s ((added c (last_of o)).changes ++ cs) p
  unfolding past_halt added original
  halt-found false o e f = absurd (cc)
  halt-found true None e f = absurd (cc)
  halt-found true (Some l) {q} e f =
      let t = behind s l in
      choice-found (ltb p t) (ltb p (t + length halt)) p l (p - length halt) (original s cs (p - length halt))
      (subst (λ (k : ℕ). choice (ltb p k) (ltb p (k + length halt)) p l (p - length halt) ≡ Break q) (sym e) f)

  halt-further : (c : Bool) (o : Option ℕ) {q : ℕ} → EndsAt s at (last_of o) → past_halt (added_to c o) at p ≡ Continue q
      → original s ((added c (last_of o)).changes ++ cs) p ≡ original s cs q
  unfolding past_halt added original
  halt-further false o e f = ap (original s cs) cc
  halt-further true None e f = ap (original s cs) cc
  halt-further true (Some l) {q} e f =
      let t = behind s l in
      choice-further (original s cs) (ltb p t) (ltb p (t + length halt)) p l (p - length halt)
      (subst (λ (k : ℕ). choice (ltb p k) (ltb p (k + length halt)) p l (p - length halt) ≡ Continue q) (sym e) f)

-- exchanged ends move nothing
field-skipped : (s : Bytes) (cs : List Change) (at p : ℕ) → original s ((mended_field s at).changes ++ cs) p ≡ original s cs p
unfolding mended_field original
field-skipped s cs at p = if-ind (reversed s at) _ _ (λ (m : Mended). original s (m.changes ++ cs) p ≡ original s cs p) (λ _. refl) (λ _. refl)

-- ---- a turn: the place p is looked for, and o is the one that it comes to

module _ (s : Bytes) (last : Option ℕ) (at p : ℕ) {o : ℕ} (in-sheet : at ≤ length s) (ends : EndsAt s at (last_of last))
    (so_far : original s (mend_from (last_of last) s at).changes p ≡ o) where
  abbrev from-here : Mended → ℕ
  from-here m = original s m.changes p

  abbrev c : Bool
  c = closes_at s at

  pub turn-found : {q : ℕ} → past_halt (added_to c last) at p ≡ Break q → q ≡ o
  turn-found e =
      let rest = on_field (is_field s at) (drop at s) (λ _. mended_field s at then mend_from (open_after s at) s (behind s at)) in
      halt-found s rest.changes at p c last ends e ∙ sym (ap from-here (mend-on s (last_of last) at in-sheet)) ∙ so_far

  module _ {q : ℕ} (e : past_halt (added_to c last) at p ≡ Continue q) {f : Bool} (field : f ≡ (has_head s at && has_body s at)) where
    pub turn_end : f ≡ false → q ≡ o
    unfolding original
    turn_end t =
        sym (halt-further s [] at p c last ends e) ∙ sym (ap from-here (mend-end s (last_of last) at in-sheet (whole-field s at field t))) ∙ so_far

    pub turn-field : {next : O.Option ℕ} → f ≡ true → next ≡ open_after s at → original s (mend_from next s (behind s at)).changes q ≡ o
    turn-field t n =
        let rest = (mend_from (open_after s at) s (behind s at)).changes in
        ap (λ (x : O.Option ℕ). original s (mend_from x s (behind s at)).changes q) n
        ∙ sym (field-skipped s rest at q) ∙ sym (halt-further s ((mended_field s at).changes ++ rest) at p c last ends e)
        ∙ sym (ap from-here (mend-field s (last_of last) at in-sheet (whole-field s at field t))) ∙ so_far

pub next-ends : (s : Bytes) (at : ℕ) {next : O.Option ℕ} → next ≡ open_after s at → EndsAt s (behind s at) next
next-ends s at n = subst (EndsAt s (behind s at)) (sym n) (open-ends s at)
