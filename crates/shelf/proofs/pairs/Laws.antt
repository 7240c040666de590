-- The look, as the code goes through it: a loop that stands at a place.
use Rattle.std.specs.Prelude.{if◌then◌else◌, Some, None, Ok, Err}
use mathlib.Core.Path.{◌≡◌, sym, ap, ◌∙◌}
use mathlib.Core.Bool.{Bool}
use Prim.Native.Nat.{ℕ, ◌+◌, ◌<◌, ◌≤◌}
use native.Mathlib.Omega.{arith}
use lib.Dec.{eqb}
use lib.ListN.{length}
use borrow.Author.Tests.{eq-eqb, ne_eqb}
use Rattle.rules.specs.Format.{Bytes, Got, bad, got}
use Rattle.rules.proofs.IfAt.{when-got}
use Rattle.refusal.specs.declared.Fault.{Fault}
use Rattle.shelf.specs.Pairs as P
use Rattle.shelf.specs.Pairs.{read_pair, on_pair, look_in}
use Rattle.shelf.specs.declared.pairs.Pair.{Pair}
use Rattle.shelf.specs.Shape.{pair_of, look_of}
use Rattle.shelf.proofs.Look.{PairSays, pair-says, look_from, look-end, look-on}

abbrev pub SoFar : Bytes → ℕ → ℕ → Type 0
SoFar f name at = look_in name f ≡ look_from f name at

abbrev rule_pair : Pair → P.Pair
rule_pair x = record { name = x.name; place = x.sheet.place; size = x.sheet.size }

-- back from the code's pair to what the rule read
got-pair : (g : Got P.Pair) {x : Pair} → Ok x ≡ pair_of g → (q : ℕ) × (g ≡ got (rule_pair x) q)
got-pair (bad r p) e = absurd (cc)
got-pair (got a q) {x} e = (q, let i : a ≡ rule_pair x = cc in ap (λ (y : P.Pair). got y q) i)

stopped-by : (name : ℕ) (g : Got P.Pair) {y : Fault} → Err y ≡ pair_of g → (more : ℕ → P.Look) → Err y ≡ look_of (on_pair name g more)
unfolding on_pair
stopped-by name (bad r p) e more = cc
stopped-by name (got a q) e more = absurd (cc)

module _ (f : Bytes) (name at : ℕ) (so_far : SoFar f name at) where
  pub look-over : length f ≤ at → Ok None ≡ look_of (look_in name f)
  look-over h = sym (ap look_of (so_far ∙ look-end f name at h))

  module _ (h : at < length f) where
    pub look-stopped : {y : Fault} → Err y ≡ pair_of (read_pair f at) → Err y ≡ look_of (look_in name f)
    look-stopped e = stopped-by name (read_pair f at) e _ ∙ sym (ap look_of (so_far ∙ look-on f name at h))

    module _ {x : Pair} (e : Ok x ≡ pair_of (read_pair f at)) where
      read : (q : ℕ) × (read_pair f at ≡ got (rule_pair x) q)
      read = got-pair (read_pair f at) e

      says : PairSays f at (rule_pair x) read.0
      says = when-got (PairSays f at) (read_pair f at) (pair-says f at) _ read.0 read.1

      pub pair-fits : (at + 7 ≤ x.sheet.place + x.sheet.size) × (x.sheet.place + x.sheet.size ≤ length f)
      pair-fits = let a = says.place in let b = says.sheet.fits in (omega arith, omega arith)

      turned_by : {b : Bool} → eqb x.name name ≡ b → look_in name f ≡ (if b then P.hit x.sheet.place x.sheet.size else look_from f name read.0)
      unfolding on_pair
      turned_by c =
          so_far ∙ look-on f name at h ∙ ap (λ (g : Got P.Pair). on_pair name g (λ q. look_from f name q)) read.1
          ∙ ap (λ (b : Bool). if b then P.hit x.sheet.place x.sheet.size else look_from f name read.0) c

      pub look-found : x.name ≡ name → Ok (Some x.sheet) ≡ look_of (look_in name f)
      look-found c = sym (ap look_of (turned_by (eq-eqb x.name name c)))

      pub look-past : (x.name ≡ name → ⊥) → SoFar f name (x.sheet.place + x.sheet.size)
      look-past c =
          let a = says.place in let b = says.sheet.ends in let d : read.0 ≡ x.sheet.place + x.sheet.size = omega arith in
          turned_by (ne_eqb x.name name c) ∙ ap (look_from f name) d

-- what the search is given for `look_in`
pub ruleset look_laws = (look-over, look-stopped, pair-fits, look-found, look-past)
