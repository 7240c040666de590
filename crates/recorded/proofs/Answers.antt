-- What the answer says: refusal 0 is given for the record of a run of the sheet and for nothing else, and judges the state that it leaves;
-- a finished record of a sheet of which demand 3 holds ends inside its label; and what a refused record is told.
use mathlib.Core.Path.{◌≡◌, refl, sym, ap, ◌∙◌, subst}
use mathlib.Core.List.{List, ◌∷◌, [], ◌++◌}
use Prim.Native.Nat.{ℕ, ◌+◌, ◌≤◌, ◌<◌}
use native.Mathlib.Omega.{arith}
use lib.Dec.{T}
use lib.ListN.{length}
use borrow.Author.Tests.{lt-leb}
use Rattle.rules.specs.Refusal.{Refusal, too_long}
use Rattle.rules.specs.Program.{Program}
use Rattle.rules.specs.Format.{Bytes, Got, bad, got, need, read_sheet}
use Rattle.rules.specs.Run.{RunState, Event, no_result, next, play, Happens, IsRun, finished, greatest_clock, Starts}
use Rattle.rules.specs.Demands.{HoldsOfRun}
use Rattle.rules.proofs.Refusal.{positive}
use Rattle.rules.specs.Fits.{ProgramFits}
use Rattle.rules.proofs.Encoding.{reads_written}
use Rattle.rules.proofs.Latest.{start-latest}
use Rattle.rules.proofs.IfAt.{IfAt}
use Rattle.recorded.specs.Follow.{longest_record, Replay, follow_record, the_record, Answer, leaves, refused, answer_of, follow_with, follow}
use Rattle.recorded.specs.Recorder.{event_field, record_of, last_tick}
use Rattle.recorded.specs.Claims.{RunOf, Refuses, IsRunOf, EndsInLabel}
use Rattle.recorded.proofs.Gaps.{play-latest}
use Rattle.recorded.proofs.Says.{RecordSays, record-says}
use Rattle.recorded.proofs.Runs as W
use Rattle.recorded.proofs.Refusals.{finished-unrefused}

-- ---- every run is followed

module _ (sheet : Bytes) (g : Program) (s : RunState) (h : RunOf sheet g s) where
  by-record : (r : Bytes) (x : Got Replay) → follow_record g r ≡ x → follow sheet r ≡ answer_of g x
  unfolding follow follow_with
  by-record r x e = ap (follow_with r) h.reads ∙ ap (answer_of g) e

  fits : ProgramFits g
  fits = (reads_written sheet h.are_bytes g h.end h.reads).0.fits

  module _ (es : List Event) (x : RunState) (p : play g s es ≡ next x) where
    pub run_replayed : length (record_of s es) ≤ longest_record → (q : ℕ) × (follow_record g (record_of s es) ≡ got (record { state = x; tick = last_tick 0 es }) q)
    run_replayed short = W.run_replayed g fits s h.starts es x p short

    pub run_followed : length (record_of s es) ≤ longest_record → follow sheet (record_of s es) ≡ leaves (finished g x) (last_tick 0 es)
    unfolding answer_of
    run_followed short = by-record (record_of s es) _ (run_replayed short).1

    pub event_refused : (v : Event) → last_tick 0 es ≤ v.tick → v.tick ≤ last_tick 0 es + 65535 → (q : Refusal) → Refuses g x v q
        → (rest : Bytes) → let r = record_of s es ++ (event_field v ++ rest) in length r ≤ longest_record → follow sheet r ≡ refused the_record q (length (record_of s es))
    unfolding answer_of
    event_refused v after soon q why rest short =
        by-record (record_of s es ++ (event_field v ++ rest)) _ (W.event_refused g fits s h.starts es x p v after soon q why rest short)

  pub fault_followed : (es : List Event) (v : Event) (q : Refusal) → play g s (es ++ v ∷ []) ≡ no_result q → length (record_of s (es ++ v ∷ [])) ≤ longest_record
      → follow sheet (record_of s (es ++ v ∷ [])) ≡ refused the_record q (length (record_of s es))
  unfolding answer_of
  fault_followed es v q p short = by-record (record_of s (es ++ v ∷ [])) _ (W.fault_followed g fits s h.starts es v q p short)

-- "then 9, place 0": the record is not read
pub too_long_lem : (sheet r : Bytes) (g : Program) (end : ℕ) → read_sheet sheet ≡ got g end → longest_record < length r → follow sheet r ≡ refused the_record too_long 0
unfolding follow follow_with follow_record need answer_of
too_long_lem sheet r g end e h = rw (e, lt-leb (length r) longest_record h)

-- ---- refusal 0 is a run

module _ (sheet r : Bytes) where
  record-run : (g : Program) (end : ℕ) → read_sheet sheet ≡ got g end → (x : Got Replay) → IfAt (RecordSays r g) x
      → (answer_of g x).refusal ≡ 0 → IsRunOf sheet r (answer_of g x)
  unfolding answer_of
  record-run g end q (bad n p) says z = absurd (positive n z)
  record-run g end q (got y e) says z = record {
    program = g;
    end = end;
    reads = q;
    start = says.start;
    starts = says.starts;
    events = says.events;
    state = y.state;
    plays = says.plays;
    recorded = says.recorded;
    short_enough = says.short_enough;
    answers = ap (leaves (finished g y.state)) says.tick_is;
    latest = says.tick_is
        ∙ sym (play-latest g says.events says.start y.state 0 (start-latest g says.start says.starts) says.plays).latest;
  }

  sheet-run : (x : Got Program) → read_sheet sheet ≡ x → (follow_with r x).refusal ≡ 0 → IsRunOf sheet r (follow_with r x)
  unfolding follow_with
  sheet-run (bad n p) q z = absurd (positive n z)
  sheet-run (got g end) q z = record-run g end q (follow_record g r) (record-says r g) z

  pub followed_run : (follow sheet r).refusal ≡ 0 → IsRunOf sheet r (follow sheet r)
  unfolding follow
  followed_run z = sheet-run (read_sheet sheet) refl z

-- ---- "A finished record of an accepted sheet ends inside its label."

-- a run that leaves a finished state ends inside the label, where demand 3 holds of it
run-in-label : (g : Program) (s : RunState) (es : List Event) (x : RunState) → (IsRun g s es → HoldsOfRun g s es) → play g s es ≡ next x → T (finished g x)
    → (g.header.label_low ≤ greatest_clock x.threads) × (greatest_clock x.threads ≤ g.header.label_high)
run-in-label g s es x holds p t =
    let h = holds (subst Happens (sym p) tt) in
    let same : h.state ≡ x = let e : next h.state ≡ next x = sym h.has_result ∙ p in cc in
    let f : T (finished g h.state) = subst (λ (y : RunState). T (finished g y)) (sym same) t in
    subst (λ (y : RunState). (g.header.label_low ≤ greatest_clock y.threads) × (greatest_clock y.threads ≤ g.header.label_high)) same
    (h.above_label_low f, h.below_label_high f)

pub in_label : (sheet r : Bytes) → EndsInLabel sheet (follow sheet r)
in_label sheet r h t =
    let f = followed_run sheet r (finished-unrefused sheet r t) in
    let g = h.program in
    let same : f.program ≡ g = let e : got f.program f.end ≡ got g h.end = sym f.reads ∙ h.reads in cc in
    let starts : Starts g f.start = subst (λ (p : Program). Starts p f.start) same f.starts in
    let plays : play g f.start f.events ≡ next f.state = subst (λ (p : Program). play p f.start f.events ≡ next f.state) same f.plays in
    let is-done : finished f.program f.state ≡ (follow sheet r).finished = ap (λ (a : Answer). a.finished) (sym f.answers) in
    let done : T (finished g f.state) = subst (λ (p : Program). T (finished p f.state)) same (subst T (sym is-done) t) in
    let (low, high) = run-in-label g f.start f.events f.state (h.every_run f.start starts f.events) plays done in
    let last = f.latest in
    record { program = g; end = h.end; reads = h.reads; from_label_lem = omega arith; to_label = omega arith }
