-- The rules' state of a state: what replacing a part makes of it, and what each part is in it.
use mathlib.Core.Path.{◌≡◌, refl, ap, ◌∙◌}
use mathlib.Core.List.{List, [], ◌∷◌, map}
use mathlib.Core.Option.{none}
use Prim.Native.Nat.{ℕ, zero, suc, ◌<◌, ◌≤◌}
use native.Mathlib.Omega.{arith}
use native.Mathlib.Nat.{not-suc-le-zero, le_of_suc-le-suc}
use lib.ListN.{length, take, get_or, set, length-map, get_or-map}
use Rattle.rules.specs.Expression.{zero_interval}
use Rattle.rules.specs.Constants.{most_threads}
use Rattle.rules.specs.Program as P
use Rattle.rules.specs.Program.{Program, no_thread}
use Rattle.rules.specs.Search as S
use Rattle.interval.specs.declared.Span.{Span}
use Rattle.interval.specs.Shape.{interval_of, zero_span}
use Rattle.expression.specs.Evaluation.{regs_of}
use Rattle.state.specs.declared.Clock.{Clock}
use Rattle.state.specs.declared.Thread.{Thread}
use Rattle.state.specs.declared.State.{State}
use Rattle.state.specs.Access.{zero_thread, thread_at, var_at, owner_at, with_thread, with_var, with_owner}
use Rattle.state.specs.Shape.{owner_of, thread_of, threads_of, owners_of, Sizes, sizes_of, state_of, states_of}

-- ---- the first n of a list, each as f takes it

module _ {A B : Type 0} (f : A → B) where
  pub view-set : (n : ℕ) (l : List A) (i : ℕ) (x : A) → take n (map f (set l i x)) ≡ set (take n (map f l)) i (f x)
  view-set zero l i x = refl
  view-set (suc n) [] i x = refl
  view-set (suc n) (a ∷ l) zero x = refl
  view-set (suc n) (a ∷ l) (suc i) x = ap (λ (r : List B). f a ∷ r) (view-set n l i x)

  pub view-get : (n : ℕ) (l : List A) (i : ℕ) (d : A) → i < n → get_or (take n (map f l)) i (f d) ≡ f (get_or l i d)
  view-get zero l i d h = absurd (not-suc-le-zero h)
  view-get (suc n) [] i d h = refl
  view-get (suc n) (a ∷ l) zero d h = refl
  view-get (suc n) (a ∷ l) (suc i) d h = view-get n l i d (le_of_suc-le-suc h)

-- ---- registers and variables

pub regs-set : (n : ℕ) (l : List Span) (i : ℕ) (v : Span) → regs_of n (set l i v) ≡ set (regs_of n l) i (interval_of v)
unfolding regs_of
regs-set n l i v = view-set interval_of n l i v

pub regs-get : (n : ℕ) (l : List Span) (i : ℕ) → i < n → get_or (regs_of n l) i zero_interval ≡ interval_of (get_or l i zero_span)
unfolding regs_of
regs-get n l i h = view-get interval_of n l i zero_span h

-- ---- owners

pub owners-set : (n : ℕ) (l : List ℕ) (i o : ℕ) → owners_of n (set l i o) ≡ set (owners_of n l) i (owner_of o)
unfolding owners_of
owners-set n l i o = view-set owner_of n l i o

pub owners-get : (n : ℕ) (l : List ℕ) (i : ℕ) → i < n → get_or (owners_of n l) i none ≡ owner_of (get_or l i 0)
unfolding owners_of
owners-get n l i h = view-get owner_of n l i 0 h

-- ---- threads

pub threads-set : (ns : List ℕ) (xs : List Thread) (t : ℕ) (th : Thread) → threads_of ns (set xs t th) ≡ set (threads_of ns xs) t (thread_of (get_or ns t 0) th)
unfolding threads_of
threads-set [] xs t th = refl
threads-set (n ∷ ns) [] t th = refl
threads-set (n ∷ ns) (x ∷ xs) zero th = refl
threads-set (n ∷ ns) (x ∷ xs) (suc t) th = ap (λ (r : List S.ThreadState). thread_of n x ∷ r) (threads-set ns xs t th)

pub threads-get : (ns : List ℕ) (xs : List Thread) (t : ℕ) (d : S.ThreadState) → t < length ns → length ns ≤ length xs
    → get_or (threads_of ns xs) t d ≡ thread_of (get_or ns t 0) (get_or xs t zero_thread)
unfolding threads_of
threads-get [] xs t d h k = absurd (not-suc-le-zero h)
threads-get (n ∷ ns) [] t d h k = absurd (not-suc-le-zero k)
threads-get (n ∷ ns) (x ∷ xs) zero d h k = refl
threads-get (n ∷ ns) (x ∷ xs) (suc t) d h k = threads-get ns xs t d (le_of_suc-le-suc h) (le_of_suc-le-suc k)

pub threads-length : (ns : List ℕ) (xs : List Thread) → length ns ≤ length xs → length (threads_of ns xs) ≡ length ns
unfolding threads_of
threads-length [] xs h = refl
threads-length (n ∷ ns) [] h = absurd (not-suc-le-zero h)
threads-length (n ∷ ns) (x ∷ xs) h = ap suc (threads-length ns xs (le_of_suc-le-suc h))

pub with-thread-state : (z : Sizes) (s : State) (t : ℕ) (th : Thread)
    → state_of z (with_thread s t th)
    ≡ record { threads = set (state_of z s).threads t (thread_of (get_or z.regs t 0) th); vars = (state_of z s).vars; owners = (state_of z s).owners }
unfolding state_of
with-thread-state z s t th = λ i. record { threads = threads-set z.regs s.threads t th i; vars = regs_of z.vars s.vars; owners = owners_of z.locks s.owners }

pub with-var-state : (z : Sizes) (s : State) (v : ℕ) (span : Span)
    → state_of z (with_var s v span)
    ≡ record { threads = (state_of z s).threads; vars = set (state_of z s).vars v (interval_of span); owners = (state_of z s).owners }
unfolding state_of
with-var-state z s v span = λ i. record { threads = threads_of z.regs s.threads; vars = regs-set z.vars s.vars v span i; owners = owners_of z.locks s.owners }

pub with-owner-state : (z : Sizes) (s : State) (l o : ℕ)
    → state_of z (with_owner s l o)
    ≡ record { threads = (state_of z s).threads; vars = (state_of z s).vars; owners = set (state_of z s).owners l (owner_of o) }
unfolding state_of
with-owner-state z s l o = λ i. record { threads = threads_of z.regs s.threads; vars = regs_of z.vars s.vars; owners = owners-set z.locks s.owners l o i }

-- ---- the parts of a state

module _ (z : Sizes) (s : State) where
  pub state-thread : (t : ℕ) (d : S.ThreadState) → t < length z.regs → length z.regs ≤ most_threads → length s.threads ≡ most_threads
      → get_or (state_of z s).threads t d ≡ thread_of (get_or z.regs t 0) (thread_at s t)
  unfolding state_of
  state-thread t d h k e = threads-get z.regs s.threads t d h (omega arith)

  pub state-var : (v : ℕ) → v < z.vars → get_or (state_of z s).vars v zero_interval ≡ interval_of (var_at s v)
  unfolding state_of
  state-var v h = regs-get z.vars s.vars v h

  pub state-owner : (l : ℕ) → l < z.locks → get_or (state_of z s).owners l none ≡ owner_of (owner_at s l)
  unfolding state_of
  state-owner l h = owners-get z.locks s.owners l h

  pub state-threads-length : length z.regs ≤ most_threads → length s.threads ≡ most_threads → length (state_of z s).threads ≡ length z.regs
  unfolding state_of
  state-threads-length k e = threads-length z.regs s.threads (omega arith)

-- ---- an event: a thread moved, and with it a variable or an owner

module _ (z : Sizes) (s : State) (t at : ℕ) (clock : Clock) (regs : List Span) where
  -- the thread after its event
  abbrev stands : Thread
  stands = record { at = at; clock = clock; regs = regs }

  pub moved-state : state_of z (with_thread s t stands)
      ≡ S.moved (state_of z s) t at clock.low.0 clock.high.0 (regs_of (get_or z.regs t 0) regs) (state_of z s).vars (state_of z s).owners
  unfolding S.moved
  moved-state = with-thread-state z s t stands

  pub moved-var-state : (v : ℕ) (span : Span) → state_of z (with_var (with_thread s t stands) v span)
      ≡ S.moved (state_of z s) t at clock.low.0 clock.high.0 (regs_of (get_or z.regs t 0) regs) (set (state_of z s).vars v (interval_of span)) (state_of z s).owners
  unfolding S.moved
  moved-var-state v span =
      with-var-state z (with_thread s t stands) v span
      ∙ ap (λ (x : S.State). record { threads = x.threads; vars = set x.vars v (interval_of span); owners = x.owners }) moved-state

  pub moved-owner-state : (l o : ℕ) → state_of z (with_owner (with_thread s t stands) l o)
      ≡ S.moved (state_of z s) t at clock.low.0 clock.high.0 (regs_of (get_or z.regs t 0) regs) (state_of z s).vars (set (state_of z s).owners l (owner_of o))
  unfolding S.moved
  moved-owner-state l o =
      with-owner-state z (with_thread s t stands) l o
      ∙ ap (λ (x : S.State). record { threads = x.threads; vars = x.vars; owners = set x.owners l (owner_of o) }) moved-state

-- ---- lists of states

pub states-cons : (z : Sizes) (s : State) (xs : List State) → states_of z (s ∷ xs) ≡ state_of z s ∷ states_of z xs
unfolding states_of
states-cons z s xs = refl

pub states-nil : (z : Sizes) → states_of z [] ≡ []
unfolding states_of
states-nil z = refl

pub states-length : (z : Sizes) (xs : List State) → length (states_of z xs) ≡ length xs
unfolding states_of
states-length z xs = length-map xs (state_of z)

-- ---- the sizes of a program

pub sizes-threads : (g : Program) → length (sizes_of g).regs ≡ length g.threads
unfolding sizes_of
sizes-threads g = length-map g.threads (λ (t : P.Thread). length t.regs)

pub sizes-regs : (g : Program) (t : ℕ) → get_or (sizes_of g).regs t 0 ≡ length (get_or g.threads t no_thread).regs
unfolding sizes_of
sizes-regs g t = get_or-map (λ (x : P.Thread). length x.regs) g.threads t no_thread
