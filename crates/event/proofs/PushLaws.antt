-- States on the stack: none, one, and some after others. Assumes nothing.
use mathlib.Core.Path.{◌≡◌, refl, sym, ap, ◌∙◌}
use mathlib.Core.List.{List, [], ◌∷◌, ◌++◌, append_assoc}
use Prim.Native.Nat.{ℕ, ◌+◌, ◌*◌, ◌-◌, ◌≤◌, min}
use native.Mathlib.Omega.{arith}
use lib.ListN.{length, length-append}
use lib.IntN.{ℤ}
use Rattle.rules.specs.Constants.{numbers_per_state}
use Rattle.rules.specs.Search as S
use borrow.Rule.Slice.PartMut.{put_mid}
use Rattle.state.specs.Cells.{with_slot, decode, stack_of}
use Rattle.state.specs.Shape.{Sizes, state_of, states_of}
use Rattle.state.proofs.Stack.{push}
use Rattle.state.proofs.Round.{with-slot-length}
use Rattle.state.proofs.Writing.{slot-put}
use Rattle.state.proofs.Shape.{states-cons}
use Rattle.event.specs.Push.{Room, Pushed}

module _ {z : Sizes} {slots : ℕ} where
  pub none-pushed : {b : List ℤ} {h : ℕ} → h ≤ slots + 1 → Pushed z slots b b h h []
  none-pushed high = record { count = omega arith; stack = λ _. refl; no_slot = λ _. tt; same_length = refl }

  -- those made later lie above
  pub then-pushed : {b c d : List ℤ} {h k m : ℕ} {xs ys : List S.State} → Pushed z slots b c h k xs → Pushed z slots c d k m ys → Pushed z slots b d h m (ys ++ xs)
  then-pushed {b} {c} {d} {h} {k} {m} {xs} {ys} p q = record {
    count = simp length-append (omega arith);
    stack = λ low.
        let below : k ≤ slots = omega arith in
        q.stack low ∙ ap (λ (l : List S.State). ys ++ l) (p.stack below) ∙ sym (append_assoc ys xs (states_of z (stack_of h b)));
    no_slot = λ _. tt;
    same_length = q.same_length ∙ p.same_length;
  }

  -- one, in the slot that is due: where none is left, the height alone says that one is missing
  one-pushed : (b cells : List ℤ) (h : ℕ) → length cells ≡ numbers_per_state → h ≤ slots + 1 → Room slots b
      → Pushed z slots b (with_slot b (min h (slots - 1)) cells) h (min (h + 1) (slots + 1)) (state_of z (decode cells) ∷ [])
  one-pushed b cells h full high room =
      let fits : min h (slots - 1) * numbers_per_state + numbers_per_state ≤ length b = omega (arith, room.0, room.1) in
      record {
        count = omega arith;
        stack = λ low.
            let slot : min h (slots - 1) ≡ h = omega arith in
            let height : min (h + 1) (slots + 1) ≡ h + 1 = omega arith in
            let here : h * numbers_per_state + numbers_per_state ≤ length b = omega (arith, room.0, room.1) in
            rw (slot, height) (ap (states_of z) (push b h cells full here) ∙ states-cons z (decode cells) (stack_of h b));
        no_slot = λ _. tt;
        same_length = with-slot-length b (min h (slots - 1)) cells full fits;
      }

  -- as the code writes it
  pub slot_pushed : (b cells : List ℤ) (h slot k : ℕ) (x : S.State) → length cells ≡ numbers_per_state → h ≤ slots + 1 → Room slots b → slot ≡ min h (slots - 1) → k ≡ min (h + 1) (slots + 1)
      → state_of z (decode cells) ≡ x → Pushed z slots b (put_mid (slot * numbers_per_state) (slot * numbers_per_state + numbers_per_state - slot * numbers_per_state) b cells) h k (x ∷ [])
  slot_pushed b cells h slot k x full high room es ek ex =
      rw (slot-put b cells (slot * numbers_per_state), es, ek, sym ex) (one-pushed b cells h full high room)
