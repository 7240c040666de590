-- Laws of a turn: what the events from one thread on come to, from those of the later threads.
use Rattle.std.specs.Prelude.{if◌then◌else◌, None, Result, Ok, Err}
use mathlib.Core.Path.{◌≡◌, refl, ap, ◌∙◌}
use mathlib.Core.Bool.{Bool, true, false}
use mathlib.Core.List.{List, ◌∷◌}
use Prim.Native.Nat.{ℕ, suc, ◌+◌, ◌<◌, max}
use lib.Dec.{leb}
use lib.ListN.{length, get_or}
use lib.Seq.{drop-cons}
use Rattle.rules.specs.Refusal as R
use Rattle.rules.specs.Program.{is_halt, Program, no_thread}
use Rattle.rules.specs.Search as S
use Rattle.rules.specs.Search.{ThreadState, Live, live_from, statement_at, Next, unread, states, Turn, refused, ended, follow, before, effect, events}
use Rattle.refusal.specs.Shape.{fault_at}
use Rattle.refusal.specs.declared.Refusal.{Refusal}
use Rattle.refusal.specs.declared.Fault.{Fault}
use Rattle.reader.specs.Facts.{statement_in}
use Rattle.state.specs.Shape.{Sizes}
use Rattle.event.specs.Stack.{Grows, Leaves}
use Rattle.event.specs.declared.stack.Stack.{Stack}
use Rattle.event.proofs.PushLaws.{then-pushed}
use Rattle.search.specs.Taken.{live_after}
use Rattle.search.specs.Turn.{Makes, Turns, over_of}

-- ---- the live threads from thread t on

module _ (g : Program) (s : S.State) (t : ℕ) (d : ThreadState) (inside : t < length g.threads) (same : t < length s.threads) where
  abbrev here : ThreadState
  here = get_or s.threads t d

  abbrev at-it : Live
  at-it = record { thread = t; here = here; statement = statement_in g t here.at }

  pub live-step : live_after g s t ≡ (if is_halt (statement_in g t here.at).action then live_after g s
      (suc t) else at-it ∷ live_after g s (suc t))
  unfolding live_from statement_at
  live-step = rw (drop-cons g.threads t no_thread inside, drop-cons s.threads t d same)

-- ---- the events from thread t on

-- a halted thread has none
pub events-halted : (s : S.State) (latest bound : ℕ) (b : Bool) (v : Live) (vs : List Live) → b ≡ true
    → events s latest bound (if b then vs else v ∷ vs) ≡ events s latest bound vs
events-halted s latest bound b v vs e = rw e

-- nor has one that is passed over
pub events-passed : (s : S.State) (latest bound : ℕ) (b : Bool) (v : Live) (vs : List Live) → b ≡ false
    → leb (max latest (v.here.low + v.statement.least)) bound ≡ false → events s latest bound
    (if b then vs else v ∷ vs) ≡ events s latest bound vs
unfolding events
events-passed s latest bound b v vs e f = rw (e, events, f)

pub events-before : (s : S.State) (latest bound : ℕ) (b : Bool) (v : Live) (vs : List Live) → b ≡ false
    → leb (max latest (v.here.low + v.statement.least)) bound ≡ true
    → events s latest bound (if b then vs else v ∷ vs)
    ≡ before v.statement.place (effect s v.thread v.here (max latest (v.here.low + v.statement.least)) bound v.statement.action)
    (events s latest bound vs)
unfolding events
events-before s latest bound b v vs e f = rw (e, events, f)

-- ---- what is made

module _ (z : Sizes) (a b c : Stack) (same : a.slots ≡ b.slots) where
  makes-length : (m : Result (Unit {0}) Fault) (t : Turn) → Makes z a b m t → length b.work.now ≡ length a.work.now
  makes-length m (refused r p) w = w.1
  makes-length m (ended x y) w = absurd w
  makes-length m (follow xs) w = w.1.same_length

  -- a fault of the first thread is the turn's
  fault-before : (m : Result (Unit {0}) Fault) (t : Turn) (p : ℕ) (q : R.Refusal) → Makes z a b m t → length c.work.now ≡ length b.work.now
      → Makes z a c (Err (fault_at q p)) (before p (unread q) t)
  unfolding before
  fault-before m t p q w l = (refl, l ∙ makes-length m t w)

  -- else a fault of a later one is
  kept-before : (f : Fault) (t : Turn) (p : ℕ) (xs : List S.State) → Makes z a b (Err f) t → length c.work.now ≡ length b.work.now
      → Makes z a c (Err f) (before p (states xs) t)
  unfolding before
  kept-before f (refused q n) p xs w l = (w.0, l ∙ w.1)
  kept-before f (ended x y) p xs w l = absurd w
  kept-before f (follow ys) p xs w l = let e = w.0 in absurd cc

  -- else its states go on top of those of the later ones
  pushed-before : (t : Turn) (p : ℕ) (xs : List S.State) → Makes z a b (Ok tt) t → Grows z b c xs → Makes z a c (Ok tt) (before p (states xs) t)
  unfolding before
  pushed-before (refused q n) p xs w u = let e = w.0 in absurd cc
  pushed-before (ended x y) p xs w u = absurd w
  pushed-before (follow ys) p xs w u = (refl, then-pushed w.1 (rw (← same) at u))

  -- the same by what the code makes of a thread's event
  pub over-makes : (m : Result (Unit {0}) Fault) (t : Turn) (p : ℕ) (r : Result (Unit {0}) Refusal) (n : Next) → Makes z a b m t
      → Leaves z b c r n → Makes z a c (over_of m r p) (before p n t)
  over-makes m t p r (unread q) w l = rw l.0 (fault-before m t p q w (ap length l.1.0))
  over-makes (Err f) t p r (states xs) w l = rw l.0 (kept-before f t p xs w l.1.same_length)
  over-makes (Ok u) t p r (states xs) w l = rw l.0 (pushed-before t p xs w l.1)

-- and of all of them
module _ (z : Sizes) (a b : Stack) where
  pub turns-failed : (f : Fault) (t : Turn) → Makes z a b (Err f) t → Turns z a b (Err f) t
  turns-failed f (refused r p) w = (cc w.0, w.1)
  turns-failed f (ended x y) w = absurd w
  turns-failed f (follow xs) w = let e = w.0 in absurd cc

  pub turns-made : (t : Turn) → Makes z a b (Ok tt) t → Turns z a b (Ok None) t
  turns-made (refused r p) w = let e = w.0 in absurd cc
  turns-made (ended x y) w = absurd w
  turns-made (follow xs) w = (refl, w.1)
