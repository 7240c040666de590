-- "20 unreadable text [..], at the first byte that cannot go on or the text's end": its place lies in the text or is its end; where it
-- is that of a byte, every text that begins with the same bytes, that one included, is refused with 20 there; and the bytes before it
-- are read to their end.
use mathlib.Core.Path.{◌≡◌, refl, ap, subst, ◌∙◌}
use mathlib.Core.List.{◌++◌}
use Prim.Native.Nat.{ℕ, suc, ◌+◌, ◌-◌, ◌≤◌, ◌<◌}
use native.Mathlib.Decide.{dec_lt}
use native.Mathlib.Omega.{arith}
use lib.ListN.{length, take, drop, length-append, length-drop, take-append-drop}
use lib.Seq.{length-take-le}
use Rattle.rules.specs.Refusal.{unreadable}
use Rattle.rules.specs.Format.{Bytes}
use Rattle.text.specs.Words.{Read, stop, took, spaces}
use Rattle.text.specs.Lines.{Text, read_text}
use Rattle.text.specs.Convert.{refused_with, converted, convert}
use Rattle.text.proofs.Within.{Within}
use Rattle.text.proofs.Orderly.{AtEnd, Extends}
use Rattle.text.proofs.OrderlyText.{text-within, text-extends}

-- a stop is no value
pub stopped : {X A : Type 0} (r q : Bytes) (a : A) → ◌≡◌ {A = Read A} (stop r) (took a q) → X
stopped r q a h = let z : ◌≡◌ {A = ℕ} 0 1 = cc in absurd (omega arith)

-- t stops at what begins with its last byte or before it
pub record StopsIn (t u r : Bytes) : Type 0 where
  pub rest : Bytes
  pub stops : read_text t ≡ stop rest
  pub some : 0 < length rest
  pub long : length r ≡ length rest + length u

-- t and u together stop at r
module _ (t u r : Bytes) (h : read_text (t ++ u) ≡ stop r) where
  stops-in : length u < length r → (g : Read Text) → read_text t ≡ g → Extends u g (stop r) → StopsIn t u r
  stops-in l (stop q) e x = elim (dec_lt 0 (length q)) [
    | yes k ↦ let both : ◌≡◌ {A = Read Text} (stop r) (stop (q ++ u)) = x.0 k in
        let same : r ≡ q ++ u = cc in
        record { rest = q; stops = e; some = k; long = ap length same ∙ length-append q u }
    | no k ↦ let j = x.1 (omega arith) in absurd (omega arith)
  ]
  stops-in l (took a q) e x = elim (dec_lt 0 (length (spaces q))) [
    | yes k ↦ stopped r (q ++ u) a (x.0 k)
    | no k ↦ let j = x.1 (omega arith) in absurd (omega arith)
  ]

  pub stops-before : length u < length r → StopsIn t u r
  stops-before l = stops-in l (read_text t) refl (subst (Extends u (read_text t)) h (text-extends u t))

  read_all : length r ≤ length u → (g : Read Text) → Extends u g (stop r) → AtEnd g
  read_all l (stop q) x = elim (dec_lt 0 (length q)) [
    | yes k ↦ let both : ◌≡◌ {A = Read Text} (stop r) (stop (q ++ u)) = x.0 k in
        let same : r ≡ q ++ u = cc in
        let j = ap length same ∙ length-append q u in
        absurd (omega arith)
    | no k ↦ omega arith
  ]
  read_all l (took a q) x = elim (dec_lt 0 (length (spaces q))) [
    | yes k ↦ stopped r (q ++ u) a (x.0 k)
    | no k ↦ omega arith
  ]

  pub at_end : length r ≤ length u → AtEnd (read_text t)
  at_end l = read_all l (read_text t) (subst (Extends u (read_text t)) h (text-extends u t))

module _ (room : ℕ) (text r : Bytes) (h : read_text text ≡ stop r) where
  pub place_inside : (convert room text ≡ refused_with room unreadable (length text - length r)) × (length r ≤ length text)
  unfolding convert converted
  place_inside = (ap (converted room (length text)) h, subst (Within (length text)) h (text-within text))

  pub cannot_go_on : length text - length r < length text → (more : Bytes)
      → convert room (take (suc (length text - length r)) text ++ more) ≡ refused_with room unreadable (length text - length r)
  unfolding convert converted
  cannot_go_on l more =
      let k = length text - length r in
      let t = take (suc k) text in
      let u = drop (suc k) text in
      let j = place_inside.1 in
      let s = stops-before t u r (ap read_text (take-append-drop (suc k) text) ∙ h) (omega (arith, length-drop (suc k) text)) in
      let n = s.long in
      let stops : read_text (t ++ more) ≡ stop (s.rest ++ more) = (subst (λ (g : Read Text). Extends more g (read_text (t ++ more))) s.stops (text-extends more t)).0 s.some in
      let place : length (t ++ more) - length (s.rest ++ more) ≡ k =
      omega (arith, length-append t more, length-append s.rest more, length-take-le (suc k) text l, length-drop (suc k) text) in
      ap (converted room (length (t ++ more))) stops ∙ ap (refused_with room unreadable) place
