-- A record that is followed without a refusal is a run: its bytes are what the recorder writes of some start in the sheet's ranges and some
-- list of events, which plays to the state and the tick that the follower gives.
use mathlib.Core.Path.{◌≡◌, refl, sym, ap, ◌∙◌, subst}
use mathlib.Core.List.{List, [], ◌∷◌, ◌++◌, append_assoc, append-nil}
use Prim.Native.Nat.{ℕ, zero, suc, ◌+◌, ◌-◌, ◌≤◌, ◌<◌}
use native.Mathlib.Omega.{arith}
use lib.Dec.{leb, leb→le}
use lib.IntN.{ℤ}
use lib.Signed.{le_z, le_z_yes}
use lib.ListN.{length, drop, drop_of_length-le}
use Rattle.rules.specs.Refusal.{too_long}
use Rattle.rules.specs.Interval.{Interval, ◌∈◌}
use Rattle.rules.specs.Program.{Thread, Program}
use Rattle.rules.specs.Format.{Bytes, AreBytes, got, and_then, byte, num16, int32}
use Rattle.rules.specs.Run.{RunThread, RunState, Event, next, step, play, AllIn, no_values, one_value, ThreadsStart, no_more, one_more, Starts}
use Rattle.rules.proofs.Base.{if-ind, and_left, and_right}
use Rattle.interval.specs.Bounds.{holds}
use Rattle.rules.proofs.IfAt.{IfAt, need-at, then_at, weaker-at}
use Rattle.rules.proofs.FieldAt.{field-at, below}
use Rattle.recorded.specs.Follow.{longest_record, clock_at, gap, tick_after, Replay, start_value, start_values, at_start, start_threads, start_replay, follow_event, follow_events, follow_from, follow_record}
use Rattle.recorded.specs.Recorder.{value_field, event_field, record_values, record_registers, record_events, record_of, last_tick}
use Rattle.recorded.proofs.Loop.{Behind, event-behind}
use Rattle.recorded.proofs.Gaps.{play-on}
use Rattle.recorded.proofs.FieldBytes.{value-bytes, event-bytes}

module _ (r : Bytes) where
  -- what stands from a place up to another
  abbrev Between : ℕ → Bytes → ℕ → Type 0
  Between at bs q = AreBytes r → drop at r ≡ bs ++ drop q r

  -- ---- starting values

  record ValueSays (i : Interval) (at : ℕ) (z : ℤ) (q : ℕ) : Type 0 where
    pub in-range : z ∈ i
    pub recorded : Between at (value_field z) q

  value-says : (i : Interval) (at : ℕ) → IfAt (ValueSays i at) (start_value i r at)
  unfolding start_value holds
  value-says i at =
      let z = int32 r (at + 3) in
      let a = le_z i.low z in
      let b = le_z z i.high in
      field-at (ValueSays i at) 32 4 r at (holds i z) z (λ f t.
      record { in-range = record { low = le_z_yes (and_left a b t); high = le_z_yes (and_right a b t) }; recorded = λ h. value-bytes r h at f })

  record ValuesSay (is : List Interval) (zs : List ℤ) (at : ℕ) (ws : List ℤ) (q : ℕ) : Type 0 where
    pub values : List ℤ
    pub all_are : ws ≡ zs ++ values
    pub in-ranges : AllIn values is
    pub recorded : Between at (record_values values) q

  values-say : (is : List Interval) (zs : List ℤ) (at : ℕ) → IfAt (ValuesSay is zs at) (start_values is zs r at)
  unfolding start_values
  values-say [] zs at = record { values = []; all_are = sym (append-nil zs); in-ranges = no_values; recorded = λ _. unfold record_values in refl }
  values-say (i ∷ is) zs at =
      then_at (ValueSays i at) (ValuesSay (i ∷ is) zs at) (start_value i r at) _ (value-says i at) (λ z q h.
      weaker-at (ValuesSay is (zs ++ z ∷ []) q) (ValuesSay (i ∷ is) zs at) (start_values is (zs ++ z ∷ []) r q)
      (values-say is (zs ++ z ∷ []) q) (λ ws e k. more h k))
    where
      more : {z : ℤ} {q e : ℕ} {ws : List ℤ} → ValueSays i at z q → ValuesSay is (zs ++ z ∷ []) q ws e → ValuesSay (i ∷ is) zs at ws e
      more {z} h k = record {
        values = z ∷ k.values;
        all_are = k.all_are ∙ append_assoc zs (z ∷ []) k.values;
        in-ranges = one_value h.in-range k.in-ranges;
        recorded = λ b. unfold record_values in h.recorded b ∙ ap (λ (l : Bytes). value_field z ++ l) (k.recorded b);
      }

  record ThreadsSay (ts : List Thread) (xs : List RunThread) (at : ℕ) (ys : List RunThread) (q : ℕ) : Type 0 where
    pub threads : List RunThread
    pub all_are : ys ≡ xs ++ threads
    pub start : ThreadsStart ts threads
    pub recorded : Between at (record_registers threads) q

  threads_say : (ts : List Thread) (xs : List RunThread) (at : ℕ) → IfAt (ThreadsSay ts xs at) (start_threads ts xs r at)
  unfolding start_threads
  threads_say [] xs at = record { threads = []; all_are = sym (append-nil xs); start = no_more; recorded = λ _. unfold record_registers in refl }
  threads_say (t ∷ ts) xs at =
      then_at (ValuesSay t.regs [] at) (ThreadsSay (t ∷ ts) xs at) (start_values t.regs [] r at) _ (values-say t.regs [] at) (λ zs q h.
      weaker-at (ThreadsSay ts (xs ++ at_start zs ∷ []) q) (ThreadsSay (t ∷ ts) xs at) (start_threads ts (xs ++ at_start zs ∷ []) r q)
      (threads_say ts (xs ++ at_start zs ∷ []) q) (λ ys e k. more h k))
    where
      more : {zs : List ℤ} {q e : ℕ} {ys : List RunThread} → ValuesSay t.regs [] at zs q
          → ThreadsSay ts (xs ++ at_start zs ∷ []) q ys e → ThreadsSay (t ∷ ts) xs at ys e
      more {zs} {q} {e} h k = record {
        threads = at_start zs ∷ k.threads;
        all_are = k.all_are ∙ append_assoc xs (at_start zs ∷ []) k.threads;
        start = one_more (subst (λ (l : List ℤ). AllIn l t.regs) (sym h.all_are) h.in-ranges) k.start;
        recorded = λ b. unfold record_registers in
            h.recorded b ∙ ap (λ (l : List ℤ). record_values l ++ drop q r) (sym h.all_are) ∙ ap (λ (l : Bytes). record_values zs ++ l) (k.recorded b)
            ∙ sym (append_assoc (record_values zs) (record_registers k.threads) (drop e r));
      }

  record StartSays (g : Program) (x : Replay) (q : ℕ) : Type 0 where
    pub starts : Starts g x.state
    pub at_zero : x.tick ≡ 0
    pub recorded : AreBytes r → r ≡ record_values x.state.vars ++ (record_registers x.state.threads ++ drop q r)

  start-says : (g : Program) → IfAt (StartSays g) (start_replay g r)
  unfolding start_replay
  start-says g =
      then_at (ValuesSay g.vars [] 0) (StartSays g) (start_values g.vars [] r 0) _ (values-say g.vars [] 0) (λ vs p h.
      then_at (ThreadsSay g.threads [] p) (StartSays g) (start_threads g.threads [] r p) _ (threads_say g.threads [] p) (λ xs q k.
      record {
        starts = record {
          threads_start = subst (ThreadsStart g.threads) (sym k.all_are) k.start;
          vars_start = subst (λ (l : List ℤ). AllIn l g.vars) (sym h.all_are) h.in-ranges;
          owners_start = refl;
        };
        at_zero = refl;
        recorded = λ b.
            h.recorded b ∙ ap (λ (l : List ℤ). record_values l ++ drop p r) (sym h.all_are)
            ∙ ap (λ (l : Bytes). record_values vs ++ l) (k.recorded b ∙ ap (λ (l : List RunThread). record_registers l ++ drop q r) (sym k.all_are));
      }))

  -- ---- events

  record EventSays (g : Program) (at : ℕ) (x y : Replay) (q : ℕ) : Type 0 where
    pub event : Event
    pub steps : step g x.state event.thread event.tick ≡ next y.state
    pub tick_is : y.tick ≡ event.tick
    pub recorded : Between at (event_field event) q
    pub behind : q ≡ at + 6

  clock-back : (tick c : ℕ) → c < 65536 → c ≡ clock_at (tick_after tick c)
  unfolding tick_after gap
  clock-back tick c h = omega arith

  event-says : (g : Program) (at : ℕ) (x : Replay) → IfAt (EventSays g at x) (follow_event g r at x)
  event-says g at x = weaker-at (Behind g r at x) (EventSays g at x) (follow_event g r at x) (event-behind g r at x) (λ y q b. said b)
    where
      said : {y : Replay} {q : ℕ} → Behind g r at x y q → EventSays g at x y q
      said {y} {q} b =
          let v : Event = record { thread = byte r (at + 3); tick = y.tick } in
          let e : q ≡ at + 6 = b.place_is in
          record {
            event = v;
            steps = b.replays.steps;
            tick_is = refl;
            recorded = λ a.
                event-bytes r a at v b.field refl (
                clock-back x.tick (num16 r (at + 4)) (omega (arith, below r a (at + 4), below r a (at + 4 + 1))) ∙ ap clock_at (sym b.replays.tick_is)
                ) ∙ ap (λ (k : ℕ). event_field v ++ drop k r) (sym e);
            behind = e;
          }

  record EventsSay (g : Program) (at : ℕ) (x y : Replay) (q : ℕ) : Type 0 where
    pub events : List Event
    pub plays : play g x.state events ≡ next y.state
    pub tick_is : y.tick ≡ last_tick x.tick events
    pub recorded : AreBytes r → drop at r ≡ record_events events

  ended : (g : Program) (at : ℕ) (x : Replay) → length r ≤ at → EventsSay g at x x at
  unfolding play record_events
  ended g at x h = record { events = []; plays = refl; tick_is = refl; recorded = λ _. drop_of_length-le r h }

  one-more-event : {g : Program} {at : ℕ} {x y z : Replay} {q e : ℕ} → EventSays g at x y q → EventsSay g q y z e → EventsSay g at x z e
  unfolding record_events
  one-more-event {g} {x = x} {y = y} f k =
      let v = f.event in
      record {
        events = v ∷ k.events;
        plays = play-on g x.state v k.events y.state f.steps ∙ k.plays;
        tick_is = k.tick_is ∙ ap (λ (c : ℕ). last_tick c k.events) f.tick_is;
        recorded = λ b. f.recorded b ∙ ap (λ (l : Bytes). event_field v ++ l) (k.recorded b);
      }

  events-say : (k : ℕ) (g : Program) (at : ℕ) (x : Replay) → length r ≤ at + k → IfAt (EventsSay g at x) (follow_events k g r at x)
  unfolding follow_events
  events-say zero g at x h = ended g at x (omega arith)
  events-say (suc k) g at x h =
      let P = EventsSay g at x in
      if-ind (leb (length r) at) (got x at) (and_then (follow_event g r at x) (λ y q. follow_events k g r q y)) (IfAt P)
      (λ t. ended g at x (leb→le (length r) at t))
      (λ _. then_at (EventSays g at x) P (follow_event g r at x) (λ y q. follow_events k g r q y) (event-says g at x) (λ y q f.
      weaker-at (EventsSay g q y) P (follow_events k g r q y) (events-say k g q y (omega (arith, f.behind))) (λ z e k. one-more-event f k)))

  -- ---- the whole

  pub record RecordSays (g : Program) (y : Replay) (q : ℕ) : Type 0 where
    pub start : RunState
    pub starts : Starts g start
    pub events : List Event
    pub plays : play g start events ≡ next y.state
    pub tick_is : y.tick ≡ last_tick 0 events
    pub recorded : AreBytes r → r ≡ record_of start events
    pub short_enough : length r ≤ longest_record

  pub record-says : (g : Program) → IfAt (RecordSays g) (follow_record g r)
  unfolding follow_record follow_from
  record-says g =
      let P = RecordSays g in
      need-at P (leb (length r) longest_record) too_long 0 _ (λ t.
      then_at (StartSays g) P (start_replay g r) (λ x q. follow_events (length r - q) g r q x) (start-says g) (λ x q h.
      weaker-at (EventsSay g q x) P (follow_events (length r - q) g r q x) (events-say (length r - q) g q x (omega arith))
      (λ y e k. whole (leb→le (length r) longest_record t) h k)))
    where
      whole : {g : Program} {x y : Replay} {q e : ℕ} → length r ≤ longest_record → StartSays g x q → EventsSay g q x y e → RecordSays g y e
      whole {g} {x} l h k = record {
        short_enough = l;
        start = x.state;
        starts = h.starts;
        events = k.events;
        plays = k.plays;
        tick_is = k.tick_is ∙ ap (λ (c : ℕ). last_tick c k.events) h.at_zero;
        recorded = λ b. unfold record_of in
            h.recorded b ∙ ap (λ (l : Bytes). record_values x.state.vars ++ (record_registers x.state.threads ++ l)) (k.recorded b);
      }
