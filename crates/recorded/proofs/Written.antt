-- What the recorder writes is read back: a run's starting values, and each event with its own full tick.
use Rattle.std.specs.Prelude.{if◌then◌else◌}
use mathlib.Core.Path.{◌≡◌, sym, ap, ◌∙◌, subst}
use mathlib.Core.Bool.{true}
use mathlib.Core.Option.{none}
use mathlib.Core.List.{List, [], ◌∷◌, ◌++◌, append_assoc, append-nil}
use Prim.Native.Nat.{ℕ, ◌+◌, ◌≤◌, ◌<◌}
use native.Mathlib.Omega.{arith}
use lib.Dec.{T, ltb}
use lib.IntN.{ℤ}
use lib.Signed.{le_z}
use lib.ListN.{length, drop, length-drop, replicate}
use borrow.Author.Tests.{lt-ltb}
use Rattle.rules.specs.Base.{Each, nil, ◌&◌}
use Rattle.rules.specs.Refusal.{no_such_name, Result, fault}
use Rattle.rules.specs.Interval.{Interval, ◌∈◌}
use Rattle.rules.specs.Program.{Thread, Program}
use Rattle.rules.specs.Format.{Bytes, Got, got, and_then, byte, num16, int32}
use Rattle.rules.specs.Lock.{Owner}
use Rattle.rules.specs.Run.{RunThread, RunState, is_event, Event, Outcome, next, step, play, Happens, AllIn, no_values, one_value, ThreadsStart, no_more, one_more, Starts}
use Rattle.rules.proofs.Base.{and_both}
use Rattle.rules.proofs.Event.{event-ends, live-there}
use Rattle.rules.specs.Fits.{RangeFits, ThreadFits, ProgramFits}
use Rattle.rules.proofs.Values.{value_in_lem}
use Rattle.rules.proofs.Latest.{Latest}
use Rattle.interval.specs.Bounds.{holds}
use Rattle.rules.proofs.FieldAt.{field-reads}
use Rattle.recorded.specs.Follow.{clock_at, gap, tick_after, Replay, start_value, start_values, at_start, start_threads, start_replay, replayed, replay, at_field, follow_event, follow_from}
use Rattle.recorded.specs.Recorder.{value_field, event_field, record_values, record_registers, record_events, last_tick}
use Rattle.recorded.proofs.Gaps.{continued, event-gap, happened, step-latest}
use Rattle.recorded.proofs.FieldBytes.{value_there, event-there}
use Rattle.recorded.proofs.Loop.{from_on}

-- "and so recover the full tick"
pub tick_recovered : (c e : ℕ) → c ≤ e → e ≤ c + 65535 → tick_after c (clock_at e) ≡ e
unfolding tick_after gap
tick_recovered c e h k = omega arith

-- what the rule for runs makes of an event, whose thread there is or not
abbrev pub given : Program → RunState → Event → Result Replay
given g s v = if ltb v.thread (length g.threads) then replayed v.tick (step g s v.thread v.tick) else fault no_such_name

pub given-there : (g : Program) (s : RunState) (v : Event) → v.thread < length g.threads → given g s v ≡ replayed v.tick (step g s v.thread v.tick)
given-there g s v h = rw (lt-ltb v.thread (length g.threads) h)

-- what is read from a record, with the place behind it, from which the rest of the record stands
pub record Reads (r : Bytes) {A : Type 0} (g : Got A) (a : A) (rest : Bytes) : Type 0 where
  pub place : ℕ
  pub reads : g ≡ got a place
  pub left : drop place r ≡ rest

module _ (r : Bytes) where
  then-reads : {A B : Type 0} {g : Got A} {a : A} {rest : Bytes} (f : A → ℕ → Got B) {b : B} {end : Bytes} → Reads r g a rest
      → ((q : ℕ) → drop q r ≡ rest → Reads r (f a q) b end) → Reads r (and_then g f) b end
  unfolding and_then
  then-reads {A} f h k =
      let m = k h.place h.left in
      record { place = m.place; reads = ap (λ (x : Got A). and_then x f) h.reads ∙ m.reads; left = m.left }

  -- ---- starting values

  value_read : (i : Interval) (at : ℕ) (z : ℤ) (rest : Bytes) → RangeFits i → z ∈ i → drop at r ≡ value_field z ++ rest → Reads r (start_value i r at) z rest
  unfolding start_value holds
  value_read i at z rest f h e =
      let w = int32 r (at + 3) in
      let there = value_there r at rest z (value_in_lem z i f h) e in
      let same : w ≡ z = there.value_is in
      let ok : T (holds i w) = subst (λ (y : ℤ). T (holds i y)) (sym same) (and_both (le_z i.low z) (le_z z i.high) h.low.le h.high.le) in
      record {
        place = at + 3 + 4;
        reads = field-reads 32 4 r at (holds i w) w there.field ok ∙ ap (λ (y : ℤ). got y (at + 3 + 4)) same;
        left = there.behind;
      }

  values-read : {is : List Interval} {zs : List ℤ} → Each RangeFits is → AllIn zs is → (before : List ℤ) (at : ℕ) (rest : Bytes)
      → drop at r ≡ record_values zs ++ rest → Reads r (start_values is before r at) (before ++ zs) rest
  unfolding start_values record_values
  values-read nil no_values before at rest e = record { place = at; reads = ap (λ (l : List ℤ). got l at) (sym (append-nil before)); left = e }
  values-read (f & fs) (one_value {z} {i} {zs} {is} h hs) before at rest e =
      then-reads (λ y q. start_values is (before ++ y ∷ []) r q) (value_read i at z (record_values zs ++ rest) f h e) (λ q l.
      subst (λ (all : List ℤ). Reads r (start_values is (before ++ z ∷ []) r q) all rest) (append_assoc before (z ∷ []) zs)
      (values-read fs hs (before ++ z ∷ []) q rest l))

  threads-read : {vars locks : ℕ} {ts : List Thread} {xs : List RunThread} → Each (ThreadFits vars locks) ts → ThreadsStart ts xs → (before : List RunThread) (at : ℕ) (rest : Bytes)
      → drop at r ≡ record_registers xs ++ rest → Reads r (start_threads ts before r at) (before ++ xs) rest
  unfolding start_threads record_registers
  threads-read nil no_more before at rest e = record { place = at; reads = ap (λ (l : List RunThread). got l at) (sym (append-nil before)); left = e }
  threads-read (f & fs) (one_more {t} {zs} {ts} {xs} h hs) before at rest e =
      then-reads (λ ys q. start_threads ts (before ++ at_start ys ∷ []) r q)
      (values-read f.regs h [] at (record_registers xs ++ rest) (e ∙ append_assoc (record_values zs) (record_registers xs) rest)) (λ q l.
      subst (λ (all : List RunThread). Reads r (start_threads ts (before ++ at_start zs ∷ []) r q) all rest) (append_assoc before (at_start zs ∷ []) xs)
      (threads-read fs hs (before ++ at_start zs ∷ []) q rest l))

  pub start-read : (g : Program) → ProgramFits g → (s : RunState) → Starts g s → (rest : Bytes)
      → r ≡ record_values s.vars ++ (record_registers s.threads ++ rest) → Reads r (start_replay g r) (record { state = s; tick = 0 }) rest
  unfolding start_replay
  start-read g f s h rest e =
      then-reads (λ vs p. and_then (start_threads g.threads [] r p) (λ xs q. got (begun xs vs) q))
      (values-read f.vars h.vars_start [] 0 (record_registers s.threads ++ rest) e) (λ p l.
      then-reads (λ xs q. got (begun xs s.vars) q) (threads-read f.threads h.threads_start [] p rest l) (λ q m.
      record {
        place = q;
        reads = ap (λ (os : List Owner). got (record { state = record { threads = s.threads; vars = s.vars; owners = os }; tick = 0 }) q)
            (sym h.owners_start);
        left = m;
      }))
    where
      begun : List RunThread → List ℤ → Replay
      begun xs vs = record { state = record { threads = xs; vars = vs; owners = replicate g.locks none }; tick = 0 }

  -- ---- events

  -- an event at most 65,535 ticks after the last is given to the rule for runs with its own tick
  pub event-given : (g : Program) (at : ℕ) (s : RunState) (c : ℕ) (v : Event) → c ≤ v.tick → v.tick ≤ c + 65535 → (rest : Bytes)
      → drop at r ≡ event_field v ++ rest → follow_event g r at (record { state = s; tick = c }) ≡ at_field at (at + 3 + 3) (given g s v)
  unfolding follow_event and_then replay
  event-given g at s c v after soon rest e =
      let k = clock_at v.tick in
      let x : Replay = record { state = s; tick = c } in
      let there = event-there r at rest v e in
      ap (λ (z : Got ℕ). and_then z (λ _ q. at_field at q (replay g x (byte r (at + 3)) (num16 r (at + 4)))))
      (field-reads 33 3 r at true 3 there.field tt)
      ∙ (λ j. at_field at (at + 3 + 3) (replay g x (there.thread_is j) (there.clock_is j)))
      ∙ ap (λ (w : ℕ). at_field at (at + 3 + 3) (if ltb v.thread (length g.threads) then replayed w (step g s v.thread w) else fault no_such_name))
      (tick_recovered c v.tick after soon)

  module _ (g : Program) {vars locks : ℕ} (brief : Each (ThreadFits vars locks) g.threads) where
    -- an event of the run
    event-read : (at : ℕ) (s : RunState) (c : ℕ) → Latest g s c → (v : Event) → T (is_event g s v.thread v.tick) → (rest : Bytes)
        → drop at r ≡ event_field v ++ rest
        → follow_event g r at (record { state = s; tick = c }) ≡ at_field at (at + 3 + 3) (replayed v.tick (step g s v.thread v.tick))
    event-read at s c l v i rest e =
        let (after, soon) = event-gap g brief s c l v i in
        event-given g at s c v after soon rest e ∙ ap (at_field at (at + 3 + 3)) (given-there g s v (live-there g s v.thread (event-ends g s v.thread v.tick i).lives))

    -- what is followed behind an event that happens
    event-on : (at : ℕ) (s : RunState) (c : ℕ) → Latest g s c → (v : Event) (o : Outcome) → step g s v.thread v.tick ≡ o → Happens o
        → (rest : Bytes) → drop at r ≡ event_field v ++ rest
        → follow_from g r at (record { state = s; tick = c }) ≡ and_then (at_field at (at + 3 + 3) (replayed v.tick o)) (λ y q. follow_from g r q y)
    event-on at s c l v o q h rest e =
        let n : at < length r = omega (arith, length-drop at r, ap length e) in
        from_on g r at (record { state = s; tick = c }) n
        ∙ ap (λ (z : Got Replay). and_then z (λ y q. follow_from g r q y))
        (event-read at s c l v (happened g s v o q h) rest e ∙ ap (λ (o : Outcome). at_field at (at + 3 + 3) (replayed v.tick o)) q)

    event-next : (at : ℕ) (s x : RunState) (c : ℕ) → Latest g s c → (v : Event) → step g s v.thread v.tick ≡ next x
        → (rest : Bytes) → drop at r ≡ event_field v ++ rest
        → follow_from g r at (record { state = s; tick = c }) ≡ follow_from g r (at + 3 + 3) (record { state = x; tick = v.tick })
    unfolding and_then at_field replayed
    event-next at s x c l v q rest e = event-on at s c l v (next x) q tt rest e

    -- following goes on behind the events of a list that leaves a state
    pub events-read : (es : List Event) (at : ℕ) (s x : RunState) (c : ℕ) → Latest g s c → play g s es ≡ next x
        → (rest : Bytes) → drop at r ≡ record_events es ++ rest
        → (q : ℕ) × (follow_from g r at (record { state = s; tick = c }) ≡ follow_from g r q (record { state = x; tick = last_tick c es })) × (drop q r ≡ rest)
    unfolding play record_events
    events-read [] at s x c l p rest e = let same : s ≡ x = cc in (at, ap (λ (y : RunState). follow_from g r at (record { state = y; tick = c })) same, e)
    events-read (v ∷ es) at s x c l p rest e =
        let (y, q, more) = continued (step g s v.thread v.tick) es (λ y. play g y es) x p in
        let tail = e ∙ append_assoc (event_field v) (record_events es) rest in
        let behind = (event-there r at (record_events es ++ rest) v tail).behind in
        let (end, on, left) = events-read es (at + 3 + 3) y x v.tick (step-latest g s c l v y q) more rest behind in
        (end, event-next at s y c l v q (record_events es ++ rest) tail ∙ on, left)
