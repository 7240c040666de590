-- A record that begins with that of a run which leaves a state: following goes on behind it from that state and the run's own last tick. So
-- the record of the run alone is followed to that state, and an event that is refused is so at its field, whatever stands behind it.
use mathlib.Core.Path.{◌≡◌, refl, sym, ap, ◌∙◌, subst}
use mathlib.Core.List.{List, [], ◌∷◌, ◌++◌, append_assoc, append-nil}
use Prim.Native.Nat.{ℕ, ◌+◌, ◌≤◌, ◌<◌}
use native.Mathlib.Omega.{arith}
use lib.Dec.{leb, le→leb}
use lib.ListN.{length, drop, length-drop, length-append}
use borrow.Author.Tests.{le-ltb}
use Rattle.rules.specs.Refusal.{Refusal, too_long, fault}
use Rattle.rules.specs.Program.{Program}
use Rattle.rules.specs.Format.{Bytes, Got, bad, got, and_then}
use Rattle.rules.specs.Run.{RunState, Event, no_result, next, play, Starts}
use Rattle.rules.proofs.Event.{event-ends, live-there}
use Rattle.rules.specs.Fits.{ProgramFits}
use Rattle.rules.proofs.Latest.{start-latest}
use Rattle.rules.proofs.IfAt.{need-yes}
use Rattle.recorded.specs.Follow.{longest_record, Replay, replayed, at_field, follow_from, follow_record}
use Rattle.recorded.specs.Recorder.{event_field, record_values, record_registers, record_events, record_of, last_tick}
use Rattle.recorded.specs.Claims.{Refuses, no_thread_lem, no_event, no_result_lem}
use Rattle.recorded.proofs.Gaps.{last-lacks, event-gap, happened, play-latest}
use Rattle.recorded.proofs.Loop.{from_end, from_on}
use Rattle.recorded.proofs.Written.{given, given-there, start-read, event-given, events-read}

events-snoc : (es : List Event) (v : Event) → record_events (es ++ v ∷ []) ≡ record_events es ++ (event_field v ++ [])
unfolding record_events
events-snoc [] v = refl
events-snoc (w ∷ es) v = ap (λ (l : Bytes). event_field w ++ l) (events-snoc es v) ∙ sym (append_assoc (event_field w) (record_events es) (event_field v ++ []))

-- a run's record with bytes behind it
record-with : (s : RunState) (es : List Event) (rest : Bytes) → record_of s es ++ rest ≡ record_values s.vars ++ (record_registers s.threads ++ (record_events es ++ rest))
unfolding record_of
record-with s es rest =
    let vs = record_values s.vars in
    let rs = record_registers s.threads in
    append_assoc vs (rs ++ record_events es) rest ∙ ap (λ (l : Bytes). vs ++ l) (append_assoc rs (record_events es) rest)

record-snoc : (s : RunState) (es : List Event) (v : Event) → record_of s es ++ (event_field v ++ []) ≡ record_of s (es ++ v ∷ [])
unfolding record_of
record-snoc s es v =
    record-with s es (event_field v ++ []) ∙ ap (λ (l : Bytes). record_values s.vars ++ (record_registers s.threads ++ l)) (sym (events-snoc es v))

-- what refuses an event
refuses-fault : {g : Program} {x : RunState} {v : Event} {q : Refusal} → Refuses g x v q → given g x v ≡ fault q
unfolding replayed
refuses-fault {g} {x} {v} (no_thread_lem h) = rw (le-ltb v.thread (length g.threads) h)
refuses-fault {g} {x} {v} (no_event h e) = given-there g x v h ∙ ap (replayed v.tick) e
refuses-fault {g} {x} {v} (no_result_lem q e) =
    let i = happened g x v (no_result q) e tt in
    given-there g x v (live-there g x v.thread (event-ends g x v.thread v.tick i).lives) ∙ ap (replayed v.tick) e

module _ (g : Program) (f : ProgramFits g) (s : RunState) (starts : Starts g s) (es : List Event) (x : RunState) (plays : play g s es ≡ next x) where
  -- following behind the run
  behind-run : (rest : Bytes) → let r = record_of s es ++ rest in length r ≤ longest_record
      → (at : ℕ) × (follow_record g r ≡ follow_from g r at (record { state = x; tick = last_tick 0 es })) × (drop at r ≡ rest)
  unfolding follow_record and_then
  behind-run rest fits =
      let r = record_of s es ++ rest in
      let h = start-read r g f s starts (record_events es ++ rest) (record-with s es rest) in
      let (at, on, left) = events-read r g f.threads es h.place s x 0 (start-latest g s starts) plays rest h.left in (
        at,
        need-yes (leb (length r) longest_record) too_long 0 _ (le→leb (length r) longest_record fits)
            ∙ ap (λ (z : Got Replay). and_then z (λ x q. follow_from g r q x)) h.reads ∙ on,
        left,
      )

  pub run_replayed : length (record_of s es) ≤ longest_record
      → (q : ℕ) × (follow_record g (record_of s es) ≡ got (record { state = x; tick = last_tick 0 es }) q)
  run_replayed fits =
      let r = record_of s es ++ [] in
      let same : r ≡ record_of s es = append-nil (record_of s es) in
      let (at, on, left) = behind-run [] (omega (arith, ap length same)) in
      let y : Replay = record { state = x; tick = last_tick 0 es } in
      (at, subst (λ (r : Bytes). follow_record g r ≡ got y at) same (on ∙ from_end g r at y (omega (arith, length-drop at r, ap length left))))

  pub event_refused : (v : Event) → last_tick 0 es ≤ v.tick → v.tick ≤ last_tick 0 es + 65535 → (q : Refusal) → Refuses g x v q → (rest : Bytes)
      → length (record_of s es ++ (event_field v ++ rest)) ≤ longest_record
      → follow_record g (record_of s es ++ (event_field v ++ rest)) ≡ bad q (length (record_of s es))
  unfolding and_then at_field
  event_refused v after soon q why rest fits =
      let r = record_of s es ++ (event_field v ++ rest) in
      let y : Replay = record { state = x; tick = last_tick 0 es } in
      let (at, on, left) = behind-run (event_field v ++ rest) fits in
      let n = length-append (record_of s es) (event_field v ++ rest) in
      let here : at ≡ length (record_of s es) = omega (arith, length-drop at r, ap length left) in
      let inside : at < length r = omega (arith, length-drop at r, ap length left) in
      on ∙ from_on g r at y inside
      ∙ ap (λ (z : Got Replay). and_then z (λ y q. follow_from g r q y))
      (event-given r g at x (last_tick 0 es) v after soon rest left ∙ ap (at_field at (at + 3 + 3)) (refuses-fault why))
      ∙ ap (bad q) here

-- a run whose last event lacks a result
pub fault_followed : (g : Program) → ProgramFits g → (s : RunState) → Starts g s → (es : List Event) (v : Event) (q : Refusal)
    → play g s (es ++ v ∷ []) ≡ no_result q → length (record_of s (es ++ v ∷ [])) ≤ longest_record
    → follow_record g (record_of s (es ++ v ∷ [])) ≡ bad q (length (record_of s es))
fault_followed g f s starts es v q plays fits =
    let (x, p, lacks) = last-lacks g s es v q plays in
    let l = play-latest g es s x 0 (start-latest g s starts) p in
    let (after, soon) = event-gap g f.threads x (last_tick 0 es) l v (happened g x v (no_result q) lacks tt) in
    let same = record-snoc s es v in
    subst (λ (r : Bytes). follow_record g r ≡ bad q (length (record_of s es))) same
    (event_refused g f s starts es x p v after soon q (no_result_lem q lacks) [] (omega (arith, ap length same)))
