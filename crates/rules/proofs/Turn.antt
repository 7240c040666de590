-- One turn, for any state of the search and any state of a run in it: every event of the run is covered by a state that the
-- turn makes and lies within the limit; a run that has finished lies between the ends of a turn that has ended.
use Rattle.std.specs.Prelude.{if◌then◌else◌}
use mathlib.Core.Path.{◌≡◌, refl, sym, ap, ◌∙◌, subst}
use mathlib.Core.Bool.{not}
use mathlib.Core.List.{List, [], ◌∷◌}
use Prim.Native.Nat.{ℕ, zero, suc, ◌+◌, ◌≤◌, ◌<◌, max, zero-le}
use native.Mathlib.Nat.{le_trans, le_of_suc-le-suc, not-suc-le-zero}
use native.Mathlib.Omega.{arith}
use lib.Dec.{T, T_not, leb, ltb, le→leb, nltb→le}
use lib.ListN.{length, get_or}
use Rattle.rules.specs.Base.{all, Each, nil, ◌&◌}
use Rattle.rules.specs.Refusal.{stuck, past_limit, Result}
use Rattle.rules.specs.Program.{Statement, Thread, Program, is_halt, no_statement, no_thread}
use Rattle.rules.specs.Search.{ThreadState, State, Live, Next, unread, states, Turn, refused, ended, follow, effect, before, events, live_from, statement_at, greatest_low, greatest_high, turn_bound, turn_of, turn, waits}
use Rattle.rules.specs.Run.{RunThread, RunState, no_run_thread, act, thread_of, statement_of, live, finished, greatest_clock}
use Rattle.rules.proofs.Base.{if-ind, all-below-elim}
use Rattle.rules.proofs.Event.{Ends, acted, live-there}
use Rattle.rules.proofs.Cover.{ThreadIn, ThreadsIn, no_threads, one_thread, In, Covers, CoversNext, covers-left, covers-right, effect-covers}

-- the statement of the thread at index k
abbrev stmt : List Thread → List RunThread → ℕ → Statement
stmt ts xs k = get_or (get_or ts k no_thread).statements (get_or xs k no_run_thread).at no_statement

same-statement : (t : Thread) (x : RunThread) (p : ThreadState) → ThreadIn x p → get_or t.statements x.at no_statement ≡ statement_at t p
unfolding statement_at
same-statement t x p h = ap (λ (k : ℕ). get_or t.statements k no_statement) h.same_at

-- ---- the states of one thread's event among those of the turn

abbrev CoversTurn : Program → Result RunState → Turn → Type 0
CoversTurn g o (refused r p) = Unit {0}
CoversTurn g o (ended a b) = Unit {0}
CoversTurn g o (follow xs) = Covers g o xs

before-left : (g : Program) (o : Result RunState) (p : ℕ) (n : Next) (t : Turn) → CoversNext g o n → CoversTurn g o (before p n t)
unfolding before
before-left g o p (unread r) t h = tt
before-left g o p (states xs) (refused r q) h = tt
before-left g o p (states xs) (ended a b) h = tt
before-left g o p (states xs) (follow ys) h = covers-left g o xs ys h

before-right : (g : Program) (o : Result RunState) (p : ℕ) (n : Next) (t : Turn) → CoversTurn g o t → CoversTurn g o (before p n t)
unfolding before
before-right g o p (unread r) t h = tt
before-right g o p (states xs) (refused r q) h = tt
before-right g o p (states xs) (ended a b) h = tt
before-right g o p (states xs) (follow ys) h = covers-right g o xs ys h

module _ (g : Program) (s : RunState) (y : State) (into : In g s y) (latest bound e : ℕ) (l : latest ≤ e) (u : e ≤ bound) where
  -- the thread that comes first, and one that comes later
  first-covers : (o : Result RunState) (v : Live) (vs : List Live) → max latest (v.here.low + v.statement.least) ≤ bound
      → CoversNext g o (effect y v.thread v.here (max latest (v.here.low + v.statement.least)) bound v.statement.action)
      → CoversTurn g o (events y latest bound (v ∷ vs))
  unfolding events
  first-covers o v vs h k =
      let from = max latest (v.here.low + v.statement.least) in
      let n = effect y v.thread v.here from bound v.statement.action in
      if-ind (leb from bound) (before v.statement.place n (events y latest bound vs)) (events y latest bound vs) (CoversTurn g o)
      (λ t. before-left g o v.statement.place n (events y latest bound vs) k)
      (λ t. absurd (T_not (leb from bound) t (le→leb from bound h)))

  later-covers : (o : Result RunState) (v : Live) (vs : List Live) → CoversTurn g o (events y latest bound vs) → CoversTurn g o (events y latest bound (v ∷ vs))
  unfolding events
  later-covers o v vs k =
      let from = max latest (v.here.low + v.statement.least) in
      let n = effect y v.thread v.here from bound v.statement.action in
      if-ind (leb from bound) (before v.statement.place n (events y latest bound vs)) (events y latest bound vs) (CoversTurn g o)
      (λ t. before-right g o v.statement.place n (events y latest bound vs) k) (λ t. k)

  head-covers : (n : ℕ) (th : Thread) (x : RunThread) (p : ThreadState) (ts : List Thread) (ps : List ThreadState) → ThreadIn x p → (st : Statement) → statement_at th p ≡ st
      → T (not (is_halt st.action)) → x.clock + st.least ≤ e → CoversTurn g (act s n x e st.action) (events y latest bound (live_from n (th ∷ ts) (p ∷ ps)))
  unfolding live_from
  head-covers n th x p ts ps h st q b c =
      let v : Live = record { thread = n; here = p; statement = st } in
      let lo : p.low ≤ x.clock = h.from_low in
      let m : max latest (p.low + st.least) ≤ e = omega arith in
      rw (q, live_from) (if-ind (is_halt st.action) (live_from (suc n) ts ps) (v ∷ live_from (suc n) ts ps) (λ vs. CoversTurn g (act s n x e st.action) (events y latest bound vs))
      (λ t. absurd (T_not (is_halt st.action) b t))
      (λ t. first-covers (act s n x e st.action) v (live_from (suc n) ts ps) (le_trans m u)
      (effect-covers g s y into n x p h (max latest (p.low + st.least)) bound e m u st.action b)))

  tail-covers : (o : Result RunState) (n : ℕ) (th : Thread) (p : ThreadState) (ts : List Thread) (ps : List ThreadState)
      → CoversTurn g o (events y latest bound (live_from (suc n) ts ps)) → CoversTurn g o (events y latest bound (live_from n (th ∷ ts) (p ∷ ps)))
  unfolding live_from
  tail-covers o n th p ts ps k =
      let st : Statement = statement_at th p in
      let v : Live = record { thread = n; here = p; statement = st } in
      if-ind (is_halt st.action) (live_from (suc n) ts ps) (v ∷ live_from (suc n) ts ps) (λ vs. CoversTurn g o (events y latest bound vs))
      (λ t. k) (λ t. later-covers o v (live_from (suc n) ts ps) k)

  events-cover : (n : ℕ) {ts : List Thread} {xs : List RunThread} {ps : List ThreadState} → ThreadsIn ts xs ps → (k t : ℕ) → t ≡ n + k → k < length ts
      → T (not (is_halt (stmt ts xs k).action)) → (get_or xs k no_run_thread).clock + (stmt ts xs k).least ≤ e
      → CoversTurn g (act s t (get_or xs k no_run_thread) e (stmt ts xs k).action) (events y latest bound (live_from n ts ps))
  events-cover n no_threads k t q a b c = absurd (not-suc-le-zero a)
  events-cover n (one_thread {t = th} {x} {p} {ts} {xs} {ps} h r) zero t q a b c =
      let z : n ≡ t = omega arith in
      subst (λ (m : ℕ). CoversTurn g (act s m x e (get_or th.statements x.at no_statement).action) (events y latest bound (live_from n (th ∷ ts) (p ∷ ps)))) z
      (head-covers n th x p ts ps h (get_or th.statements x.at no_statement) (sym (same-statement th x p h)) b c)
  events-cover n (one_thread {t = th} {x} {p} {ts} {xs} {ps} h r) (suc k) t q a b c =
      tail-covers (act s t (get_or xs k no_run_thread) e (stmt ts xs k).action) n th p ts ps (events-cover (suc n) r k t (omega arith) (le_of_suc-le-suc a) b c)

-- ---- over the threads

low-le : (e : ℕ) {ts : List Thread} {xs : List RunThread} {ps : List ThreadState} → ThreadsIn ts xs ps
    → ((k : ℕ) → k < length ts → (get_or xs k no_run_thread).clock ≤ e) → greatest_low ps ≤ e
unfolding greatest_low
low-le e no_threads h = zero-le
low-le e (one_thread i r) h = let a = i.from_low in omega (arith, h 0 (omega arith), low-le e r (λ k b. h (suc k) (omega arith)))

clock-ends : {ts : List Thread} {xs : List RunThread} {ps : List ThreadState} → ThreadsIn ts xs ps → (greatest_low ps ≤ greatest_clock xs) × (greatest_clock xs ≤ greatest_high ps)
unfolding greatest_low greatest_high greatest_clock
clock-ends no_threads = (zero-le, zero-le)
clock-ends (one_thread i r) = let a = i.from_low in let b = i.to_high in let c = clock-ends r in (omega arith, omega arith)

-- tick e lies within what each live thread may take
abbrev Within : ℕ → Live → Type 0
Within e v = e ≤ v.here.high + v.statement.greatest

live-within : (e n : ℕ) {ts : List Thread} {xs : List RunThread} {ps : List ThreadState} → ThreadsIn ts xs ps
    → ((k : ℕ) → k < length ts → T (not (is_halt (stmt ts xs k).action)) → e ≤ (get_or xs k no_run_thread).clock + (stmt ts xs k).greatest)
    → Each (Within e) (live_from n ts ps)
unfolding live_from
live-within e n no_threads h = nil
live-within e n (one_thread {t} {x} {p} {ts} {xs} {ps} i r) h =
    let st = statement_at t p in
    let rest = live-within e (suc n) r (λ k b. h (suc k) (omega arith)) in
    if-ind (is_halt st.action) (live_from (suc n) ts ps) (record { thread = n; here = p; statement = st } ∷ live_from (suc n) ts ps) (Each (Within e))
    (λ a. rest)
    (λ a. (let b = i.to_high in
    let c : e ≤ x.clock + st.greatest = subst (λ (z : Statement). T (not (is_halt z.action)) → e ≤ x.clock + z.greatest) (same-statement t x p i) (h 0 (omega arith)) a in
    omega arith) & rest)

bound-le : (e : ℕ) (v : Live) (vs : List Live) → Each (Within e) (v ∷ vs) → e ≤ turn_bound v vs
unfolding turn_bound
bound-le e v [] (h & r) = h
bound-le e v (w ∷ ws) (h & r) = omega (arith, bound-le e w ws r)

none-live : (n : ℕ) {ts : List Thread} {xs : List RunThread} {ps : List ThreadState} → ThreadsIn ts xs ps
    → ((k : ℕ) → k < length ts → T (not (not (is_halt (stmt ts xs k).action)))) → live_from n ts ps ≡ []
unfolding live_from
none-live n no_threads h = refl
none-live n (one_thread {t} {x} {p} {ts} {xs} {ps} i r) h =
    let st = statement_at t p in
    if-ind (is_halt st.action) (live_from (suc n) ts ps) (record { thread = n; here = p; statement = st } ∷ live_from (suc n) ts ps) (λ vs. vs ≡ [])
    (λ a. none-live (suc n) r (λ k b. h (suc k) (omega arith)))
    (λ a. absurd (T_not (not (is_halt st.action)) (subst (λ (z : Statement). T (not (not (is_halt z.action)))) (same-statement t x p i) (h 0 (omega arith))) a))

cons-not-nil : {v : Live} {vs : List Live} → v ∷ vs ≡ [] → ⊥
cons-not-nil e = let z : ◌≡◌ {A = ℕ} 0 1 = cc in omega arith

some-live : (n : ℕ) {ts : List Thread} {xs : List RunThread} {ps : List ThreadState} → ThreadsIn ts xs ps → (k : ℕ) → k < length ts
    → T (not (is_halt (stmt ts xs k).action)) → live_from n ts ps ≡ [] → ⊥
unfolding live_from
some-live n no_threads k a b = λ q. not-suc-le-zero a
some-live n (one_thread {t} {x} {p} {ts} {xs} {ps} i r) zero a b =
    let st = statement_at t p in
    if-ind (is_halt st.action) (live_from (suc n) ts ps) (record { thread = n; here = p; statement = st } ∷ live_from (suc n) ts ps) (λ vs. vs ≡ [] → ⊥)
    (λ c q. T_not (is_halt st.action) (subst (λ (z : Statement). T (not (is_halt z.action))) (same-statement t x p i) b) c)
    (λ c q. cons-not-nil q)
some-live n (one_thread {t} {x} {p} {ts} {xs} {ps} i r) (suc k) a b =
    let st = statement_at t p in
    if-ind (is_halt st.action) (live_from (suc n) ts ps) (record { thread = n; here = p; statement = st } ∷ live_from (suc n) ts ps) (λ vs. vs ≡ [] → ⊥)
    (λ c q. some-live (suc n) r k (le_of_suc-le-suc a) b q)
    (λ c q. cons-not-nil q)

-- ---- the turn

abbrev NotEnded : Turn → Type 0
NotEnded (refused r p) = Unit {0}
NotEnded (ended a b) = ⊥
NotEnded (follow xs) = Unit {0}

before-not : (p : ℕ) (n : Next) (t : Turn) → NotEnded t → NotEnded (before p n t)
unfolding before
before-not p (unread r) t h = tt
before-not p (states xs) (refused r q) h = tt
before-not p (states xs) (ended a b) h = h
before-not p (states xs) (follow ys) h = tt

events-not : (y : State) (latest bound : ℕ) (vs : List Live) → NotEnded (events y latest bound vs)
unfolding events
events-not y latest bound [] = tt
events-not y latest bound (v ∷ vs) =
    let from = max latest (v.here.low + v.statement.least) in
    let n = effect y v.thread v.here from bound v.statement.action in
    let h = events-not y latest bound vs in
    if-ind (leb from bound) (before v.statement.place n (events y latest bound vs)) (events y latest bound vs) NotEnded
    (λ t. before-not v.statement.place n (events y latest bound vs) h) (λ t. h)

-- what a turn says of a state of a run in its state
pub record AtEnd (g : Program) (s : RunState) (a b : ℕ) : Type 0 where
  pub no_event : (t e : ℕ) → Ends g s t e → ⊥
  pub above : a ≤ greatest_clock s.threads
  pub below : greatest_clock s.threads ≤ b

pub record GoesOn (g : Program) (s : RunState) (xs : List State) : Type 0 where
  pub covered : (t e : ℕ) → Ends g s t e → Covers g (acted g s t e) xs
  pub in_limit : (t e : ℕ) → Ends g s t e → e ≤ g.header.limit
  pub unfinished : T (finished g s) → ⊥

abbrev pub TurnSays : Program → RunState → Turn → Type 0
TurnSays g s (refused r p) = Unit {0}
TurnSays g s (ended a b) = AtEnd g s a b
TurnSays g s (follow xs) = GoesOn g s xs

from-events : (g : Program) (s : RunState) (r : Turn) → NotEnded r → ((t e : ℕ) → Ends g s t e → CoversTurn g (acted g s t e) r)
    → ((t e : ℕ) → Ends g s t e → e ≤ g.header.limit) → (T (finished g s) → ⊥) → TurnSays g s r
from-events g s (refused r p) n h l f = tt
from-events g s (ended a b) n h l f = absurd n
from-events g s (follow xs) n h l f = record { covered = h; in_limit = l; unfinished = f }

turn-of-says : (g : Program) (s : RunState) (y : State) → In g s y → (vs : List Live) → live_from 0 g.threads y.threads ≡ vs → TurnSays g s (turn_of g y vs)
unfolding turn_of thread_of statement_of live finished
turn-of-says g s y i [] q = record {
  no_event = λ t e h. some-live 0 i.threads_in t (live-there g s t h.lives) h.lives q;
  above = (clock-ends i.threads_in).0;
  below = (clock-ends i.threads_in).1;
}
turn-of-says g s y i (v ∷ vs) q =
    let latest = greatest_low y.threads in
    let bound = turn_bound v vs in
    let in-bound : (t e : ℕ) → Ends g s t e → e ≤ bound = λ t e h. bound-le e v vs (subst (Each (Within e)) q (live-within e 0 i.threads_in h.waited)) in
    if-ind (all (waits y.owners) (v ∷ vs)) (refused stuck 0) (if ltb g.header.limit bound then refused past_limit 0 else events y latest bound (v ∷ vs)) (TurnSays g s) (λ a. tt) (λ a.
    if-ind (ltb g.header.limit bound) (refused past_limit 0) (events y latest bound (v ∷ vs)) (TurnSays g s) (λ b. tt) (λ b.
    from-events g s (events y latest bound (v ∷ vs)) (events-not y latest bound (v ∷ vs))
    (λ t e h. subst (λ (ws : List Live). CoversTurn g (act s t (get_or s.threads t no_run_thread) e (stmt g.threads s.threads t).action) (events y latest bound ws)) q
    (events-cover g s y i latest bound e (low-le e i.threads_in h.behind) (in-bound t e h) 0 i.threads_in t t (omega arith) (live-there g s t h.lives) h.lives h.late))
    (λ t e h. le_trans (in-bound t e h) (nltb→le g.header.limit bound b))
    (λ f. cons-not-nil (sym q ∙ none-live 0 i.threads_in (all-below-elim (length g.threads) (λ t. not (live g s t)) f)))))

pub turn-says : (g : Program) (s : RunState) (y : State) → In g s y → TurnSays g s (turn g y)
unfolding turn
turn-says g s y i = turn-of-says g s y i (live_from 0 g.threads y.threads) refl
