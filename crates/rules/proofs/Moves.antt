-- What the new states of a turn are, for any state: in each one thread has moved, and the low of its clock is later and within the
-- limit; and there are at most two of them for each thread.
use Rattle.std.specs.Prelude.{if◌then◌else◌}
use mathlib.Core.Path.{◌≡◌, refl, ◌∙◌, ap}
use mathlib.Core.Option.{Option, none, some}
use mathlib.Core.List.{List, [], ◌∷◌, ◌++◌}
use Prim.Native.Nat.{ℕ, suc, ◌+◌, ◌*◌, ◌≤◌, ◌<◌, max}
use native.Mathlib.Omega.{arith}
use lib.Dec.{leb, ltb, leb→le, nltb→le}
use lib.ListN.{length, get_or, set, length-append}
use Rattle.rules.specs.Base.{all, Each, nil, ◌&◌}
use Rattle.rules.specs.Refusal.{stuck, past_limit, Result, value, fault}
use Rattle.rules.specs.Interval.{Interval}
use Rattle.rules.specs.Program.{Action, halt, skip, assign, branch, store, load, unlock, lock, is_halt, Thread, Program}
use Rattle.rules.specs.Lock.{Owner}
use Rattle.rules.specs.Expression.{Regs, evaluate, all_parts, narrow_yes, narrow_no}
use Rattle.rules.specs.Search.{ThreadState, State, Live, Next, unread, states, moved, from_value, unless_empty, branches, effect, Turn, refused, ended, follow, before, events, live_from, statement_at, greatest_low, turn_bound, waits, turn_of, turn}
use Rattle.rules.proofs.Base.{if-ind, each_map, each_both}
use Rattle.rules.proofs.Format.{ThreadSays, statement-timed}

-- ---- the effect of one statement

-- the state y is s with thread t replaced by one whose clock's low is low
record Moved (s : State) (t low : ℕ) (y : State) : Type 0 where
  pub mover : ThreadState
  pub is_set : y.threads ≡ set s.threads t mover
  pub at_low : mover.low ≡ low

-- at most two states, each with a property
abbrev FewNext : (State → Type 0) → Next → Type 0
FewNext P (unread r) = Unit {0}
FewNext P (states xs) = Each P xs × (length xs ≤ 2)

next_map : {P Q : State → Type 0} (o : Next) → ((y : State) → P y → Q y) → FewNext P o → FewNext Q o
next_map (unread r) f h = tt
next_map (states xs) f h = (each_map f h.0, h.1)

module _ (s : State) (t : ℕ) (x : ThreadState) (low high : ℕ) where
  abbrev P : State → Type 0
  P = Moved s t low

  move : (at : ℕ) (rs : Regs) (vs : List Interval) (os : List Owner) → P (moved s t at low high rs vs os)
  unfolding moved
  move at rs vs os = record { mover = record { at = at; low = low; high = high; regs = rs }; is_set = refl; at_low = refl }

  one : (y : State) → P y → FewNext P (states (y ∷ []))
  one y p = (p & nil, omega arith)

  value-moves : (f : Interval → State) → ((i : Interval) → P (f i)) → (o : Result Interval) → FewNext P (from_value f o)
  unfolding from_value
  value-moves f h (fault r) = tt
  value-moves f h (value i) = one (f i) (h i)

  branches-move : (f g : Regs → State) → ((rs : Regs) → P (f rs)) → ((rs : Regs) → P (g rs)) → (o : Result (Unit {0})) (j m : Option Regs) → FewNext P (branches f g o j m)
  unfolding branches unless_empty
  branches-move f g h k (fault r) j m = tt
  branches-move f g h k (value u) none none = (nil, omega arith)
  branches-move f g h k (value u) none (some ss) = (k ss & nil, omega arith)
  branches-move f g h k (value u) (some rs) none = (h rs & nil, omega arith)
  branches-move f g h k (value u) (some rs) (some ss) = (h rs & k ss & nil, omega arith)

  effect-moves : (a : Action) → FewNext P (effect s t x low high a)
  unfolding effect
  effect-moves halt = (nil, omega arith)
  effect-moves skip = one _ (move _ _ _ _)
  effect-moves (assign r a) = value-moves _ (λ i. move _ _ _ _) (evaluate a x.regs)
  effect-moves (branch to c) = branches-move _ _ (λ rs. move _ rs _ _) (λ rs. move _ rs _ _) (all_parts c x.regs) (narrow_yes c x.regs) (narrow_no c x.regs)
  effect-moves (store r v) = one _ (move _ _ _ _)
  effect-moves (load r v) = one _ (move _ _ _ _)
  effect-moves (unlock l) = one _ (move _ _ _ _)
  effect-moves (lock l) = one _ (move _ _ _ _)

-- ---- the live threads

abbrev pub no_thread_state : ThreadState
no_thread_state = record { at = 0; low = 0; high = 0; regs = [] }

-- the clock's low of a thread
abbrev pub low_of : State → ℕ → ℕ
low_of s t = (get_or s.threads t no_thread_state).low

record LiveSays (s : State) (v : Live) : Type 0 where
  pub there : v.thread < length s.threads
  pub is_here : get_or s.threads v.thread no_thread_state ≡ v.here
  pub takes_time : 1 ≤ v.statement.least

module _ (s : State) where
  live-from : (n : ℕ) (ts : List Thread) (ps : List ThreadState) → Each ThreadSays ts → n + length ps ≡ length s.threads
      → ((k : ℕ) → get_or s.threads (n + k) no_thread_state ≡ get_or ps k no_thread_state)
      → (Each (LiveSays s) (live_from n ts ps)) × (length (live_from n ts ps) ≤ length ts)
  unfolding live_from statement_at
  live-from n [] ps says e h = (nil, omega arith)
  live-from n (t ∷ ts) [] says e h = (nil, omega arith)
  live-from n (t ∷ ts) (x ∷ ps) (say & says) e h =
      let st = statement_at t x in
      let rest = live-from (suc n) ts ps says (omega arith) (λ i. let q : suc n + i ≡ n + suc i = omega arith in ap (λ (j : ℕ). get_or s.threads j no_thread_state) q ∙ h (suc i)) in
      if-ind (is_halt st.action) (live_from (suc n) ts ps) (record { thread = n; here = x; statement = st } ∷ live_from (suc n) ts ps)
      (λ vs. Each (LiveSays s) vs × (length vs ≤ suc (length ts)))
      (λ _. (rest.0, let b = rest.1 in omega arith))
      (λ l. (
        record {
          there = omega arith;
          is_here = (let q : n ≡ n + 0 = omega arith in ap (λ (j : ℕ). get_or s.threads j no_thread_state) q ∙ h 0);
          takes_time = (statement-timed (t ∷ ts) (say & says) 0 x.at).takes_time l;
        } & rest.0,
        let b = rest.1 in omega arith,
      ))

-- ---- the turn

-- thread number `thread` has moved
pub record Follows (g : Program) (s y : State) : Type 0 where
  pub thread : ℕ
  pub mover : ThreadState
  pub there : thread < length s.threads
  pub is_set : y.threads ≡ set s.threads thread mover
  pub later : low_of s thread < mover.low
  pub in_limit : mover.low ≤ g.header.limit

-- at most n new states, each with a property
abbrev pub FewTurn : (State → Type 0) → ℕ → Turn → Type 0
FewTurn P n (refused r p) = Unit {0}
FewTurn P n (ended a b) = Unit {0}
FewTurn P n (follow xs) = Each P xs × (length xs ≤ n)

module _ (P : State → Type 0) where
  few-both : (xs ys : List State) (n : ℕ) → Each P xs × (length xs ≤ 2) → Each P ys × (length ys ≤ n) → Each P (xs ++ ys) × (length (xs ++ ys) ≤ 2 + n)
  few-both xs ys n h k = (each_both xs ys h.0 k.0, let a = length-append xs ys in let b = h.1 in let c = k.1 in omega arith)

  few-before : (q : ℕ) (o : Next) (n : ℕ) (t : Turn) → FewNext P o → FewTurn P n t → FewTurn P (2 + n) (before q o t)
  unfolding before
  few-before q (unread r) n t h k = tt
  few-before q (states xs) n (refused r p) h k = tt
  few-before q (states xs) n (ended a b) h k = tt
  few-before q (states xs) n (follow ys) h k = few-both xs ys n h k

  few-more : (n m : ℕ) (t : Turn) → n ≤ m → FewTurn P n t → FewTurn P m t
  few-more n m (refused r p) l h = tt
  few-more n m (ended a b) l h = tt
  few-more n m (follow xs) l h = (h.0, let k = h.1 in omega arith)

module _ (g : Program) (s : State) where
  event-follows : (from bound : ℕ) (v : Live) → LiveSays s v → v.here.low + v.statement.least ≤ from → from ≤ bound → bound ≤ g.header.limit → (y : State)
      → Moved s v.thread from y → Follows g s y
  event-follows from bound v l a b c y m =
      let h : low_of s v.thread ≡ v.here.low = ap (λ (p : ThreadState). p.low) l.is_here in
      let z = m.at_low in
      let o = l.takes_time in
      record { thread = v.thread; mover = m.mover; there = l.there; is_set = m.is_set; later = omega arith; in_limit = omega arith }

  events-follow : (latest bound : ℕ) → bound ≤ g.header.limit → (vs : List Live) → Each (LiveSays s) vs → FewTurn (Follows g s) (2 * length vs) (events s latest bound vs)
  unfolding events
  events-follow latest bound b [] nil = (nil, omega arith)
  events-follow latest bound b (v ∷ vs) (l & ls) =
      let from = max latest (v.here.low + v.statement.least) in
      let o = effect s v.thread v.here from bound v.statement.action in
      let later = events s latest bound vs in
      let rest = events-follow latest bound b vs ls in
      if-ind (leb from bound) (before v.statement.place o later) later (FewTurn (Follows g s) (2 * suc (length vs)))
      (λ t. few-more (Follows g s) (2 + 2 * length vs) (2 * suc (length vs)) (before v.statement.place o later) (omega arith)
      (few-before (Follows g s) v.statement.place o (2 * length vs) later
      (next_map o (event-follows from bound v l (omega arith) (leb→le from bound t) b) (effect-moves s v.thread v.here from bound v.statement.action)) rest))
      (λ t. few-more (Follows g s) (2 * length vs) (2 * suc (length vs)) later (omega arith) rest)

  live-follow : (vs : List Live) → Each (LiveSays s) vs → FewTurn (Follows g s) (2 * length vs) (turn_of g s vs)
  unfolding turn_of
  live-follow [] l = tt
  live-follow (v ∷ vs) l =
      let bound = turn_bound v vs in
      let es = events s (greatest_low s.threads) bound (v ∷ vs) in
      if-ind (all (waits s.owners) (v ∷ vs)) (refused stuck 0) (if ltb g.header.limit bound then refused past_limit 0 else es) (FewTurn (Follows g s) (2 * suc (length vs))) (λ _. tt)
      (λ _. if-ind (ltb g.header.limit bound) (refused past_limit 0) es (FewTurn (Follows g s) (2 * suc (length vs))) (λ _. tt)
      (λ b. events-follow (greatest_low s.threads) bound (nltb→le g.header.limit bound b) (v ∷ vs) l))

  pub turn-follows : Each ThreadSays g.threads → FewTurn (Follows g s) (2 * length g.threads) (turn g s)
  unfolding turn
  turn-follows says =
      let vs = live_from 0 g.threads s.threads in
      let l = live-from s 0 g.threads s.threads says (omega arith) (λ k. let q : 0 + k ≡ k = omega arith in ap (λ (j : ℕ). get_or s.threads j no_thread_state) q) in
      few-more (Follows g s) (2 * length vs) (2 * length g.threads) (turn_of g s vs) (let b = l.1 in omega arith) (live-follow vs l.0)
