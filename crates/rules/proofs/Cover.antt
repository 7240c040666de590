-- One event covered: where a state of the search contains a state of a run, the states that the search makes for a thread's
-- event contain what the event leaves.
use Rattle.std.specs.Prelude.{if◌then◌else◌}
use mathlib.Core.Path.{◌≡◌, refl, sym, ap, subst}
use mathlib.Core.Bool.{Bool, true, false, not}
use mathlib.Core.Option.{Option, none, some}
use mathlib.Core.List.{List, [], ◌∷◌, ◌++◌}
use Prim.Native.Nat.{ℕ, zero, suc, ◌≤◌}
use lib.Dec.{T}
use lib.IntN.{ℤ}
use lib.ListN.{get_or, set}
use Rattle.rules.specs.Refusal.{Result, value, fault, on_value}
use Rattle.rules.specs.Interval.{Interval, ◌∈◌}
use Rattle.rules.specs.Program.{Action, halt, skip, assign, branch, store, load, unlock, lock, is_halt, Thread, Program}
use Rattle.rules.specs.Lock.{Owner, may_take, after_lock, after_unlock}
use Rattle.rules.specs.Expression.{Regs, evaluate, all_parts, narrow_yes, narrow_no}
use Rattle.rules.specs.Search.{ThreadState, State, Next, unread, states, effect, moved, from_value, unless_empty, branches}
use Rattle.rules.specs.Run.{RunThread, RunState, AllIn, no_values, one_value, standing, act, value_of, truth_of}
use Rattle.rules.proofs.Base.{Some, here, some_left, some_right}
use Rattle.rules.proofs.Interval.{Agree}
use Rattle.rules.proofs.Expression.{get_in, evaluate-agrees, IsValue}
use Rattle.rules.proofs.NarrowingSound.{Kept, Splits, narrowing-sound}

-- ---- a state of a run in a state of the search

pub record ThreadIn (x : RunThread) (p : ThreadState) : Type 0 where
  pub same_at : x.at ≡ p.at
  pub from_low : p.low ≤ x.clock
  pub to_high : x.clock ≤ p.high
  pub regs_in : AllIn x.regs p.regs

pub data ThreadsIn : List Thread → List RunThread → List ThreadState → Type 0 where
  no_threads : ThreadsIn [] [] []
  one_thread : {t : Thread} {x : RunThread} {p : ThreadState} {ts : List Thread} {xs : List RunThread} {ps : List ThreadState}
      → ThreadIn x p → ThreadsIn ts xs ps → ThreadsIn (t ∷ ts) (x ∷ xs) (p ∷ ps)

pub record In (g : Program) (s : RunState) (x : State) : Type 0 where
  pub threads_in : ThreadsIn g.threads s.threads x.threads
  pub vars_in : AllIn s.vars x.vars
  pub same_owners : s.owners ≡ x.owners

set-threads-in : {ts : List Thread} {xs : List RunThread} {ps : List ThreadState} → ThreadsIn ts xs ps
    → (n : ℕ) (x : RunThread) (p : ThreadState) → ThreadIn x p → ThreadsIn ts (set xs n x) (set ps n p)
set-threads-in no_threads n x p h = no_threads
set-threads-in (one_thread k t) zero x p h = one_thread h t
set-threads-in (one_thread k t) (suc n) x p h = one_thread k (set-threads-in t n x p h)

set_both : {zs : List ℤ} {is : Regs} → AllIn zs is → (r : ℕ) (z : ℤ) (i : Interval) → z ∈ i → AllIn (set zs r z) (set is r i)
set_both no_values r z i h = no_values
set_both (one_value k t) zero z i h = one_value h t
set_both (one_value k t) (suc r) z i h = one_value k (set_both t r z i h)

-- ---- what covers a result: a result that lacks a state is covered by nothing

abbrev pub Covers : Program → Result RunState → List State → Type 0
Covers g (fault r) xs = ⊥
Covers g (value s) xs = Some (In g s) xs

abbrev pub CoversNext : Program → Result RunState → Next → Type 0
CoversNext g o (unread r) = Unit {0}
CoversNext g o (states xs) = Covers g o xs

pub covers-left : (g : Program) (o : Result RunState) (xs ys : List State) → Covers g o xs → Covers g o (xs ++ ys)
covers-left g (fault r) xs ys h = h
covers-left g (value s) xs ys h = some_left ys h

pub covers-right : (g : Program) (o : Result RunState) (xs ys : List State) → Covers g o ys → Covers g o (xs ++ ys)
covers-right g (fault r) xs ys h = h
covers-right g (value s) xs ys h = some_right xs h

-- ---- the effect of one statement: thread n stands at x and at p, and its event at tick e lies in low..high

module _ (g : Program) (s : RunState) (y : State) (into : In g s y) (n : ℕ) (x : RunThread) (p : ThreadState) (at_x : ThreadIn x p)
    (low high e : ℕ) (l : low ≤ e) (u : e ≤ high) where
  put_in : (at at' : ℕ) → at ≡ at' → (zs : List ℤ) (is : Regs) → AllIn zs is → (vs : List ℤ) (ws : Regs) → AllIn vs ws → (os os' : List Owner) → os ≡ os'
      → In g (standing s n at e zs vs os) (moved y n at' low high is ws os')
  unfolding standing moved
  put_in at at' a zs is h vs ws k os os' o = record {
    threads_in = set-threads-in into.threads_in n _ _ (record { same_at = a; from_low = l; to_high = u; regs_in = h });
    vars_in = k;
    same_owners = o;
  }

  on : suc x.at ≡ suc p.at
  on = ap suc at_x.same_at

  assign-covers : (r : ℕ) (i : Result Interval) (v : Result ℤ) → Agree i v
      → CoversNext g (on_value (λ z. value (standing s n (suc x.at) e (set x.regs r z) s.vars s.owners)) v)
      (from_value (λ i. moved y n (suc p.at) low high (set p.regs r i) y.vars y.owners) i)
  unfolding on_value from_value
  assign-covers r (fault q) v h = tt
  assign-covers r (value i) (fault q) h = h
  assign-covers r (value i) (value z) h = here (put_in _ _ on _ _ (set_both at_x.regs_in r z i h) _ _ into.vars_in _ _ into.same_owners)

  kept-covers : (at at' : ℕ) → at ≡ at' → (o : Option Regs) → Kept x.regs o
      → Covers g (value (standing s n at e x.regs s.vars s.owners)) (unless_empty (λ rs. moved y n at' low high rs y.vars y.owners) o)
  unfolding unless_empty
  kept-covers at at' q none h = absurd h
  kept-covers at at' q (some js) h = here (put_in at at' q _ _ h _ _ into.vars_in _ _ into.same_owners)

  abbrev to-state : ℕ → Regs → State
  to-state at rs = moved y n at low high rs y.vars y.owners

  abbrev jumped : ℕ → Bool → Result RunState
  jumped to b = value (standing s n (if b then to else suc x.at) e x.regs s.vars s.owners)

  branch-covers : (to : ℕ) (t : Result Bool) (a : Result (Unit {0})) (j m : Option Regs) → (IsValue a → Splits t j m x.regs)
      → CoversNext g (on_value (jumped to) t) (branches (to-state to) (to-state (suc p.at)) a j m)
  unfolding on_value branches
  branch-covers to t (fault r) j m h = tt
  branch-covers to (fault r) (value v) j m h = h tt
  branch-covers to (value true) (value v) j m h =
      covers-left g (jumped to true) (unless_empty (to-state to) j) (unless_empty (to-state (suc p.at)) m) (kept-covers to to refl j (h tt))
  branch-covers to (value false) (value v) j m h =
      covers-right g (jumped to false) (unless_empty (to-state to) j) (unless_empty (to-state (suc p.at)) m)
      (kept-covers (suc x.at) (suc p.at) on m (h tt))

  lock-at : (b : Bool) → (if b then suc x.at else x.at) ≡ (if b then suc p.at else p.at)
  lock-at true = on
  lock-at false = at_x.same_at

  pub effect-covers : (a : Action) → T (not (is_halt a)) → CoversNext g (act s n x e a) (effect y n p low high a)
  unfolding act effect is_halt
  effect-covers halt t = absurd t
  effect-covers skip t = here (put_in _ _ on _ _ at_x.regs_in _ _ into.vars_in _ _ into.same_owners)
  effect-covers (assign r a) t = assign-covers r (evaluate a p.regs) (value_of a x.regs) (evaluate-agrees a at_x.regs_in)
  effect-covers (branch to c) t =
      branch-covers to (truth_of c x.regs) (all_parts c p.regs) (narrow_yes c p.regs) (narrow_no c p.regs)
      (narrowing-sound c p.regs x.regs at_x.regs_in)
  effect-covers (store r v) t =
      here (put_in _ _ on _ _ at_x.regs_in _ _ (set_both into.vars_in v _ _ (get_in at_x.regs_in r)) _ _ into.same_owners)
  effect-covers (load r v) t =
      here (put_in _ _ on _ _ (set_both at_x.regs_in r _ _ (get_in into.vars_in v)) _ _ into.vars_in _ _ into.same_owners)
  effect-covers (unlock k) t =
      here (put_in _ _ on _ _ at_x.regs_in _ _ into.vars_in _ _
      (ap (λ (os : List Owner). set os k (after_unlock n (get_or os k none))) into.same_owners))
  effect-covers (lock k) t =
      here (subst (λ (os : List Owner). In g (standing s n (if may_take n (get_or os k none) then suc x.at else x.at) e x.regs s.vars (set os k (after_lock n (get_or os k none))))
      (moved y n (if may_take n (get_or y.owners k none) then suc p.at else p.at) low high p.regs y.vars (set y.owners k (after_lock n (get_or y.owners k none)))))
      (sym into.same_owners)
      (put_in _ _ (lock-at (may_take n (get_or y.owners k none))) _ _ at_x.regs_in _ _ into.vars_in _ _ refl))
