-- The loop over events.
use Rattle.std.proofs.Common.{◌≡◌, ℕ, ◌+◌, ◌<◌, ◌≤◌, length, sym, ap, ◌∙◌}
use Rattle.rules.specs.Refusal.{Refusal}
use Rattle.rules.specs.Program.{Program}
use Rattle.rules.specs.Format.{Bytes, Got, bad, got, and_then}
use Rattle.rules.proofs.IfAt.{when-got}
use Rattle.recorded.specs.Follow as F
use Rattle.recorded.specs.Follow.{follow_event, follow_from}
use Rattle.recorded.proofs.Loop.{Behind, event-behind, from_on}

-- what a turn leaves: the rest is followed from the place behind the event, and the tick is at most 65,535 later
pub record Turned (g : Program) (r : Bytes) (at : ℕ) (x : F.Replay) (q : ℕ) (y : F.Replay) : Type 0 where
  pub goes_on : follow_from g r at x ≡ follow_from g r q y
  pub place_is : q ≡ at + 6
  pub tick_soon : y.tick ≤ x.tick + 65535

module _ (g : Program) (r : Bytes) (at : ℕ) (x : F.Replay) (h : at < length r) where
  goes_by : {z : Got F.Replay} → z ≡ follow_event g r at x → and_then z (λ y q. follow_from g r q y) ≡ follow_from g r at x
  goes_by k = ap (λ (z : Got F.Replay). and_then z (λ y q. follow_from g r q y)) k ∙ sym (from_on g r at x h)

  pub turn-refused : {q : Refusal} {p : ℕ} → bad q p ≡ follow_event g r at x → bad q p ≡ follow_from g r at x
  unfolding and_then
  turn-refused k = goes_by k

  pub turned : {y : F.Replay} {p : ℕ} → got y p ≡ follow_event g r at x → Turned g r at x p y
  unfolding and_then
  turned {y} {p} k =
      let b : Behind g r at x y p = when-got (Behind g r at x) (follow_event g r at x) (event-behind g r at x) y p (sym k) in
      record { goes_on = sym (goes_by k); place_is = b.place_is; tick_soon = b.replays.tick_soon }
