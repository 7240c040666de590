-- What a file says decides what the look in it comes to.
use Rattle.std.specs.Prelude.{if◌then◌else◌}
use mathlib.Core.Path.{◌≡◌, refl, sym, ap, ◌∙◌}
use mathlib.Core.Bool.{Bool}
use mathlib.Core.List.{List, [], ◌∷◌, ◌++◌, append_assoc, append-nil}
use Prim.Native.Nat.{ℕ, suc, ◌+◌, ◌<◌}
use native.Mathlib.Omega.{arith}
use lib.Dec.{eqb}
use lib.ListN.{length, length-append}
use borrow.Author.Tests.{eq-eqb, ne_eqb}
use Rattle.rules.specs.Base.{nil, ◌&◌}
use Rattle.rules.specs.Refusal.{Refusal}
use Rattle.rules.specs.Format.{Bytes, Got}
use Rattle.shelf.specs.Pairs.{pair, Pair, read_pair, hit, miss, stop, on_pair, look_in}
use Rattle.shelf.specs.Claims.{Entry, pairs, Lack, Without, First, Stops}
use Rattle.shelf.proofs.Look.{look_from, look-end, look-on}
use Rattle.shelf.proofs.Written.{pair-length, length-around, written_reads}

module _ (name : ℕ) (f : Bytes) where
  -- a turn of the look at a written pair
  module _ (front : Bytes) (n : ℕ) (sheet rest : Bytes) (e : f ≡ front ++ (pair n sheet ++ rest)) where
    abbrev next : ℕ
    next = length front + 7 + length sheet

    inside : length front < length f
    inside = let a = ap length e ∙ length-around front n sheet rest in omega arith

    turn_by : {b : Bool} → eqb n name ≡ b → look_from f name (length front) ≡ (if b then hit (length front + 7) (length sheet) else look_from f name next)
    unfolding on_pair
    turn_by c =
        look-on f name (length front) inside
        ∙ ap (λ (g : Got Pair). on_pair name g (λ q. look_from f name q)) (ap (λ (z : Bytes). read_pair z (length front)) e ∙ written_reads front n sheet rest)
        ∙ ap (λ (b : Bool). if b then hit (length front + 7) (length sheet) else look_from f name next) c

    turn-past : (n ≡ name → ⊥) → look_from f name (length front) ≡ look_from f name (length (front ++ pair n sheet))
    turn-past d =
        let a = length-append front (pair n sheet) in
        let b = pair-length n sheet in
        let c : next ≡ length (front ++ pair n sheet) = omega arith in
        turn_by (ne_eqb n name d) ∙ ap (look_from f name) c

  -- past pairs of other names
  past : (front : Bytes) (es : List Entry) (rest : Bytes) → f ≡ (front ++ pairs es) ++ rest → Lack name es → look_from f name (length front) ≡ look_from f name (length (front ++ pairs es))
  unfolding pairs
  past front [] rest e nil = ap (λ (z : Bytes). look_from f name (length z)) (sym (append-nil front))
  past front (d ∷ es) rest e (n & ns) =
      let p = pair d.name d.sheet in
      let here : f ≡ front ++ (p ++ (pairs es ++ rest)) = e ∙ append_assoc front (p ++ pairs es) rest ∙ ap (λ (z : Bytes). front ++ z) (append_assoc p (pairs es) rest) in
      let there : f ≡ ((front ++ p) ++ pairs es) ++ rest = e ∙ ap (λ (z : Bytes). z ++ rest) (sym (append_assoc front p (pairs es))) in
      turn-past front d.name d.sheet (pairs es ++ rest) here n ∙ past (front ++ p) es rest there ns
      ∙ ap (λ (z : Bytes). look_from f name (length z)) (append_assoc front p (pairs es))

  from_start : (es : List Entry) (rest : Bytes) → f ≡ pairs es ++ rest → Lack name es → look_in name f ≡ look_from f name (length (pairs es))
  unfolding look_in
  from_start es rest e l = past [] es rest e l

  pub first-hits : (p : ℕ) (sheet : Bytes) → First name f p sheet → look_in name f ≡ hit p (length sheet)
  first-hits p sheet h =
      let e = h.is_written ∙ append_assoc (pairs h.before) (pair name sheet) h.behind in
      from_start h.before (pair name sheet ++ h.behind) e h.lack
      ∙ turn_by (pairs h.before) name sheet h.behind e (eq-eqb name name refl) ∙ ap (λ (z : ℕ). hit z (length sheet)) (sym h.starts)

  pub without-misses : Without name f → look_in name f ≡ miss
  without-misses h =
      from_start h.entries [] (h.is_whole ∙ sym (append-nil (pairs h.entries))) h.lack
      ∙ look-end f name (length (pairs h.entries)) (let e = ap length h.is_whole in omega arith)

  pub stops-stop : (r : Refusal) (p : ℕ) → Stops name f r p → look_in name f ≡ stop r p
  unfolding on_pair
  stops-stop r p h =
      let a = ap length h.is_written ∙ length-append (pairs h.before) (h.next ∷ h.behind) in
      let b : length (h.next ∷ h.behind) ≡ suc (length h.behind) = refl in
      from_start h.before (h.next ∷ h.behind) h.is_written h.lack
      ∙ look-on f name (length (pairs h.before)) (omega arith) ∙ ap (λ (g : Got Pair). on_pair name g (λ q. look_from f name q)) h.unread
