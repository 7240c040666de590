-- Two successive events of a run are at most 65,535 ticks apart, and the first is at most so far from tick 0; the state that a run leaves
-- has the tick of its last event for its greatest clock. What a list of events comes to, by its first event and by its last.
use mathlib.Core.Path.{◌≡◌, refl, ap, ◌∙◌, subst}
use mathlib.Core.List.{List, [], ◌∷◌, ◌++◌}
use Prim.Native.Nat.{ℕ, ◌+◌, ◌≤◌}
use native.Mathlib.Omega.{arith}
use lib.Dec.{T}
use Rattle.rules.specs.Base.{Each}
use Rattle.rules.specs.Refusal.{Refusal}
use Rattle.rules.specs.Program.{Program}
use Rattle.rules.specs.Format.{Bytes}
use Rattle.rules.specs.Run.{RunState, is_event, Event, Outcome, not_event, no_result, next, step, continue, play, Happens, IsRun}
use Rattle.rules.proofs.Event.{event-ends, StepSays, step-says}
use Rattle.rules.specs.Fits.{ThreadFits}
use Rattle.rules.proofs.Encoding.{reads_written}
use Rattle.rules.proofs.Latest.{Latest, start-latest, event-after, event-soon, event-latest}
use Rattle.recorded.specs.Recorder.{last_tick}
use Rattle.recorded.specs.Claims.{Gaps, RunOf}

-- ---- a list of events, by its first event and by its last

pub play-on : (g : Program) (s : RunState) (v : Event) (es : List Event) (x : RunState) → step g s v.thread v.tick ≡ next x
    → play g s (v ∷ es) ≡ play g x es
unfolding play continue
play-on g s v es x e = ap (λ (o : Outcome). continue o es (λ y. play g y es)) e

-- a list that leaves a state: its first event leaves one, from which the rest is played
pub continued : (o : Outcome) (es : List Event) (k : RunState → Outcome) (s' : RunState) → continue o es k ≡ next s'
    → (x : RunState) × (o ≡ next x) × (k x ≡ next s')
unfolding continue
continued not_event es k s' q = absurd (let z : ◌≡◌ {A = ℕ} 0 1 = cc in omega arith)
continued (no_result r) [] k s' q = absurd (let z : ◌≡◌ {A = ℕ} 0 1 = cc in omega arith)
continued (no_result r) (e ∷ es) k s' q = absurd (let z : ◌≡◌ {A = ℕ} 0 1 = cc in omega arith)
continued (next x) es k s' q = (x, refl, q)

-- a list that ends without a result, of more than one event: so does its rest
went_on : (o : Outcome) (es : List Event) (v : Event) (k : RunState → Outcome) (q : Refusal) → continue o (es ++ v ∷ []) k ≡ no_result q
    → (x : RunState) × (o ≡ next x) × (k x ≡ no_result q)
unfolding continue
went_on not_event es v k q e = absurd (let z : ◌≡◌ {A = ℕ} 0 1 = cc in omega arith)
went_on (no_result r) [] v k q e = absurd (let z : ◌≡◌ {A = ℕ} 0 1 = cc in omega arith)
went_on (no_result r) (w ∷ es) v k q e = absurd (let z : ◌≡◌ {A = ℕ} 0 1 = cc in omega arith)
went_on (next x) es v k q e = (x, refl, e)

-- one event without a result
ended : (g : Program) (o : Outcome) (q : Refusal) → continue o [] (λ x. play g x []) ≡ no_result q → o ≡ no_result q
unfolding continue play
ended g not_event q e = e
ended g (no_result r) q e = e
ended g (next x) q e = absurd (let z : ◌≡◌ {A = ℕ} 0 1 = cc in omega arith)

-- a list that ends without a result leaves a state before its last event, which has none
pub last-lacks : (g : Program) (s : RunState) (es : List Event) (v : Event) (q : Refusal) → play g s (es ++ v ∷ []) ≡ no_result q
    → (x : RunState) × (play g s es ≡ next x) × (step g x v.thread v.tick ≡ no_result q)
unfolding play
last-lacks g s [] v q e = (s, refl, ended g (step g s v.thread v.tick) q e)
last-lacks g s (w ∷ es) v q e =
    let (x, p, k) = went_on (step g s w.thread w.tick) es v (λ x. play g x (es ++ v ∷ [])) q e in
    let (y, m, n) = last-lacks g x es v q k in
    (y, play-on g s w es x p ∙ m, n)

-- ---- an event of a run whose last event was at tick c

module _ (g : Program) {vars locks : ℕ} (brief : Each (ThreadFits vars locks) g.threads) (s : RunState) (c : ℕ) (before : Latest g s c) (v : Event) where
  pub event-gap : T (is_event g s v.thread v.tick) → (c ≤ v.tick) × (v.tick ≤ c + 65535)
  event-gap i =
      let h = event-ends g s v.thread v.tick i in
      (event-after g s v.thread v.tick c before h, event-soon g s v.thread v.tick c before h brief)

-- what happens is an event
pub happened : (g : Program) (s : RunState) (v : Event) (o : Outcome) → step g s v.thread v.tick ≡ o → Happens o → T (is_event g s v.thread v.tick)
happened g s v o q h = by o (subst (StepSays g s v.thread v.tick) q (step-says g s v.thread v.tick)) h
  where
    by : (o : Outcome) → StepSays g s v.thread v.tick o → Happens o → T (is_event g s v.thread v.tick)
    by not_event k h = absurd h
    by (no_result r) k h = k.0
    by (next x) k h = k.0

pub step-latest : (g : Program) (s : RunState) (c : ℕ) → Latest g s c → (v : Event) (x : RunState) → step g s v.thread v.tick ≡ next x
    → Latest g x v.tick
step-latest g s c before v x q =
    let (i, a) = subst (StepSays g s v.thread v.tick) q (step-says g s v.thread v.tick) in
    event-latest g s v.thread v.tick c before (event-ends g s v.thread v.tick i) x a

-- the state that a run leaves has the last tick for its greatest clock
pub play-latest : (g : Program) (es : List Event) (s x : RunState) (c : ℕ) → Latest g s c → play g s es ≡ next x → Latest g x (last_tick c es)
unfolding play
play-latest g [] s x c l q = let e : s ≡ x = cc in subst (λ (y : RunState). Latest g y c) e l
play-latest g (v ∷ es) s x c l q =
    let (y, p, k) = continued (step g s v.thread v.tick) es (λ y. play g y es) x q in
    play-latest g es y x v.tick (step-latest g s c l v y p) k

-- ---- "Two successive events are never more than 65,535 ticks apart, by the rule for runs"

module _ (g : Program) {vars locks : ℕ} (brief : Each (ThreadFits vars locks) g.threads) where
  gaps-from : (es : List Event) (s : RunState) (c : ℕ) → Latest g s c → IsRun g s es → Gaps c es
  unfolding play
  gaps-from [] s c l i = tt
  gaps-from (v ∷ es) s c l i =
      by (step g s v.thread v.tick) refl (step-says g s v.thread v.tick) i (λ x m j. gaps-from es x v.tick m j)
    where
      by : (o : Outcome) → step g s v.thread v.tick ≡ o → StepSays g s v.thread v.tick o → Happens (continue o es (λ x. play g x es))
          → ((x : RunState) → Latest g x v.tick → IsRun g x es → Gaps v.tick es) → Gaps c (v ∷ es)
      by not_event q k i more = absurd (unfold continue in i)
      by (no_result r) q k i more = let (a, b) = event-gap g brief s c l v k.0 in (a, b, last es i)
        where
          last : (es : List Event) → Happens (continue (no_result r) es (λ x. play g x es)) → Gaps v.tick es
          last [] i = tt
          last (w ∷ es) i = absurd (unfold continue in i)
      by (next x) q k i more = let (a, b) = event-gap g brief s c l v k.0 in (a, b, more x (step-latest g s c l v x q) (unfold continue in i))

pub run-gaps : (sheet : Bytes) (g : Program) (s : RunState) → RunOf sheet g s → (es : List Event) → IsRun g s es → Gaps 0 es
run-gaps sheet g s h es i = gaps-from g (reads_written sheet h.are_bytes g h.end h.reads).0.fits.threads es s 0 (start-latest g s h.starts) i
