-- Following as a loop, for code that keeps a place and a replay state: at the record's end it gives the state, before that it follows
-- one event and goes on behind it. An event that is followed is six bytes, and the run's step at a tick at most 65,535 later.
use mathlib.Core.Path.{◌≡◌, refl, sym, ◌∙◌}
use mathlib.Core.Bool.{true}
use Prim.Native.Nat.{ℕ, zero, suc, ◌+◌, ◌-◌, ◌≤◌, ◌<◌}
use native.Mathlib.Decide.{dec_le}
use native.Mathlib.Omega.{arith}
use lib.Dec.{leb, ltb, leb→le, nleb→lt}
use lib.ListN.{length}
use Rattle.rules.specs.Refusal.{no_such_name, Result, value, fault}
use Rattle.rules.specs.Program.{Program}
use Rattle.rules.specs.Format.{Bytes, Got, bad, got, and_then, byte, num16, due, sized}
use Rattle.rules.specs.Run.{Outcome, not_event, no_result, next, step}
use Rattle.rules.proofs.Base.{if-ind}
use Rattle.rules.proofs.IfAt.{IfAt, then_at}
use Rattle.rules.proofs.FieldAt.{Field, field-at}
use Rattle.recorded.specs.Follow.{clock_at, gap, tick_after, Replay, replayed, replay, at_field, follow_event, follow_events, follow_from}

-- ---- the gap

pub gap_below : (before after : ℕ) → gap before after < 65536
unfolding gap
gap_below before after = omega arith

-- ---- one event

-- what an event that is not refused leaves: the run's step, at the recovered tick
pub record Replays (g : Program) (x : Replay) (thread clock : ℕ) (y : Replay) : Type 0 where
  pub steps : step g x.state thread y.tick ≡ next y.state
  pub tick_is : y.tick ≡ tick_after x.tick clock
  pub tick_up : x.tick ≤ y.tick
  pub tick_soon : y.tick ≤ x.tick + 65535

abbrev pub IfReplays : Program → Replay → ℕ → ℕ → Result Replay → Type 0
IfReplays g x thread clock (fault r) = Unit {0}
IfReplays g x thread clock (value y) = Replays g x thread clock y

module _ (g : Program) (x : Replay) (thread clock : ℕ) where
  replayed-says : (o : Outcome) → step g x.state thread (tick_after x.tick clock) ≡ o
      → IfReplays g x thread clock (replayed (tick_after x.tick clock) o)
  unfolding replayed tick_after
  replayed-says not_event q = tt
  replayed-says (no_result r) q = tt
  replayed-says (next s) q =
      let b = gap_below (clock_at x.tick) clock in
      record { steps = q; tick_is = refl; tick_up = omega arith; tick_soon = omega arith }

  pub replay-says : IfReplays g x thread clock (replay g x thread clock)
  unfolding replay
  replay-says =
      let e = tick_after x.tick clock in
      if-ind (ltb thread (length g.threads)) (replayed e (step g x.state thread e)) (fault no_such_name) (IfReplays g x thread clock)
      (λ _. replayed-says (step g x.state thread e) refl) (λ _. tt)

module _ (g : Program) (r : Bytes) where
  -- an event that is followed: six bytes of the record, and what their event leaves
  pub record Behind (at : ℕ) (x y : Replay) (q : ℕ) : Type 0 where
    pub field : Field 33 3 r at
    pub place_is : q ≡ at + 6
    pub in-record : q ≤ length r
    pub replays : Replays g x (byte r (at + 3)) (num16 r (at + 4)) y

  at_field_lem : (at q : ℕ) (x : Replay) → Field 33 3 r at → q ≡ at + 6 → (z : Result Replay) → IfReplays g x (byte r (at + 3)) (num16 r (at + 4)) z
      → IfAt (Behind at x) (at_field at q z)
  unfolding at_field
  at_field_lem at q x f e (fault n) h = tt
  at_field_lem at q x f e (value y) h = let l : at + 3 + 3 ≤ length r = f.fits in record { field = f; place_is = e; in-record = omega arith; replays = h }

  pub event-behind : (at : ℕ) (x : Replay) → IfAt (Behind at x) (follow_event g r at x)
  unfolding follow_event
  event-behind at x =
      let t = byte r (at + 3) in
      let c = num16 r (at + 4) in
      let Here : ℕ → ℕ → Type 0 = λ n q. Field 33 3 r at × (q ≡ at + 6) in
      then_at Here (Behind at x) (due 33 r at (sized r at 3 true 3)) _ (field-at Here 33 3 r at true 3 (λ f _. (f, omega arith)))
      (λ _ q h. at_field_lem at q x h.0 h.1 (replay g x t c) (replay-says g x t c))

  -- ---- event after event

  pub events-end : (k at : ℕ) (x : Replay) → length r ≤ at → follow_events k g r at x ≡ got x at
  unfolding follow_events
  events-end zero at x h = refl
  events-end (suc k) at x h =
      if-ind (leb (length r) at) (got x at) (and_then (follow_event g r at x) (λ y q. follow_events k g r q y)) (λ z. z ≡ got x at)
      (λ _. refl) (λ t. absurd (let l = nleb→lt (length r) at t in omega arith))

  pub events-on : (k at : ℕ) (x : Replay) → at < length r → follow_events (suc k) g r at x ≡ and_then (follow_event g r at x) (λ y q. follow_events k g r q y)
  unfolding follow_events
  events-on k at x h =
      let z = and_then (follow_event g r at x) (λ y q. follow_events k g r q y) in
      if-ind (leb (length r) at) (got x at) z (λ u. u ≡ z) (λ t. absurd (let l = leb→le (length r) at t in omega arith)) (λ _. refl)

  -- how it goes on matters behind an event that is followed
  turn-same : (at : ℕ) (x : Replay) (more other : Replay → ℕ → Got Replay) → ((y : Replay) (q : ℕ) → q ≡ at + 6 → more y q ≡ other y q)
      → and_then (follow_event g r at x) more ≡ and_then (follow_event g r at x) other
  turn-same at x more other e = by (follow_event g r at x) (event-behind at x)
    where
      by : (z : Got Replay) → IfAt (Behind at x) z → and_then z more ≡ and_then z other
      by (bad n p) h = unfold and_then in refl
      by (got y q) h = unfold and_then in e y q h.place_is

  -- any k that is enough for the bytes that are left gives the same
  enough : (k m at : ℕ) (x : Replay) → length r ≤ at + k → length r ≤ at + m → follow_events k g r at x ≡ follow_events m g r at x
  enough zero m at x h l = events-end zero at x (omega arith) ∙ sym (events-end m at x (omega arith))
  enough (suc k) zero at x h l = events-end (suc k) at x (omega arith) ∙ sym (events-end zero at x (omega arith))
  enough (suc k) (suc m) at x h l = elim (dec_le (length r) at) [
    | yes d ↦ events-end (suc k) at x d ∙ sym (events-end (suc m) at x d)
    | no d ↦
        let u : at < length r = omega arith in
        events-on k at x u
        ∙ turn-same at x (λ y q. follow_events k g r q y) (λ y q. follow_events m g r q y) (λ y q e. enough k m q y (omega arith) (omega arith))
        ∙ sym (events-on m at x u)
  ]

  -- from a place on: its end, and one turn
  pub from_end : (at : ℕ) (x : Replay) → length r ≤ at → follow_from g r at x ≡ got x at
  unfolding follow_from
  from_end at x h = events-end (length r - at) at x h

  pub from_on : (at : ℕ) (x : Replay) → at < length r → follow_from g r at x ≡ and_then (follow_event g r at x) (λ y q. follow_from g r q y)
  unfolding follow_from
  from_on at x h =
      enough (length r - at) (suc (length r)) at x (omega arith) (omega arith)
      ∙ events-on (length r) at x h
      ∙ turn-same at x (λ y q. follow_events (length r) g r q y) (λ y q. follow_events (length r - q) g r q y)
      (λ y q e. enough (length r) (length r - q) q y (omega arith) (omega arith))
