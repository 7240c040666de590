-- The event of a thread: its owners, the state that it makes, and what the rules' effect is there. Assumes nothing.
use Rattle.std.specs.Prelude.{if◌then◌else◌, Ok, Err}
use mathlib.Core.Path.{◌≡◌, refl, sym, ap, subst, ◌∙◌}
use mathlib.Core.Bool.{true, false}
use mathlib.Core.Option.{Option, none}
use mathlib.Core.List.{List, [], ◌∷◌}
use Prim.Native.Nat.{ℕ, zero, suc, ◌<◌}
use lib.Dec.{eqb, eqb-suc-suc}
use lib.ListN.{get_or, set}
use lib.Seq.{set-get_or}
use lib.IntN.{ℤ}
use borrow.Author.Tests.{eq-eqb, ne_eqb}
use Rattle.rules.specs.Refusal.{value, fault}
use Rattle.rules.specs.Program as P
use Rattle.rules.specs.Lock.{may_take, after_unlock, after_lock}
use Rattle.rules.specs.Expression.{Regs, evaluate, all_parts, narrow_yes, narrow_no}
use Rattle.rules.specs.Search as S
use Rattle.rules.specs.Search.{effect, from_value, branches, unless_empty}
use Rattle.refusal.specs.Shape.{rule_of}
use Rattle.refusal.proofs.Laws.{refusal-of-rule}
use Rattle.refusal.specs.declared.Refusal.{Refusal}
use Rattle.interval.specs.declared.Span.{Span}
use Rattle.interval.specs.Shape.{interval_of}
use Rattle.expression.specs.Evaluation.{regs_of}
use Rattle.state.specs.declared.Thread.{Thread}
use Rattle.state.specs.declared.State.{State}
use Rattle.state.specs.declared.moves.Move.{Move}
use Rattle.state.specs.Access.{thread_at, owner_at, with_var, with_owner}
use Rattle.state.specs.Cells.{decode}
use Rattle.state.specs.Move.{moved_to}
use Rattle.state.specs.Shape.{Sizes, owner_of, thread_of, state_of}
use Rattle.state.proofs.Shape.{state-owner, moved-state, moved-var-state, moved-owner-state}
use Rattle.event.specs.declared.act.Event.{Event}
use Rattle.event.specs.Push.{Pushed}
use Rattle.event.specs.Act.{Acts, move_to, moved_by, moved_with}
use Rattle.event.proofs.PushLaws.{then-pushed}

-- ---- owners

pub free-may : (t o : ℕ) → o ≡ 0 → eqb o 0 ≡ may_take t (owner_of o)
unfolding may_take
free-may t o e = rw e

pub owned-may : (t o : ℕ) → (o ≡ 0 → ⊥) → eqb o (suc t) ≡ may_take t (owner_of o)
unfolding may_take
owned-may t zero h = absurd (h refl)
owned-may t (suc u) h = eqb-suc-suc u t

pub freed : (t o : ℕ) → o ≡ suc t → none ≡ after_unlock t (owner_of o)
unfolding after_unlock
freed t o e = rw (e, eq-eqb t t refl)

pub kept-owner : (t o : ℕ) → (o ≡ suc t → ⊥) → owner_of o ≡ after_unlock t (owner_of o)
unfolding after_unlock
kept-owner t zero h = refl
kept-owner t (suc u) h = rw (ne_eqb u t (λ e. h (ap suc e)))

-- ---- the state that an event makes

module _ (s : State) (v : Event) (at : ℕ) (regs : List Span) (z : Sizes) where
  moved-is : state_of z (moved_to s (move_to v at) regs) ≡ moved_by z s v at (regs_of (get_or z.regs v.thread 0) regs)
  moved-is = moved-state z s v.thread at (record { low = v.from; high = v.to }) regs

module _ (s : State) (v : Event) (at : ℕ) (z : Sizes) where
  moved-var-is : (k : ℕ) (i : Span) → state_of z (with_var (moved_to s (move_to v at) (thread_at s v.thread).regs) k i)
      ≡ moved_with z s v at (set (state_of z s).vars k (interval_of i)) (state_of z s).owners
  moved-var-is k i = moved-var-state z s v.thread at (record { low = v.from; high = v.to }) (thread_at s v.thread).regs k i

  moved-owner-is : (l o : ℕ) → state_of z (with_owner (moved_to s (move_to v at) (thread_at s v.thread).regs) l o)
      ≡ moved_with z s v at (state_of z s).vars (set (state_of z s).owners l (owner_of o))
  moved-owner-is l o = moved-owner-state z s v.thread at (record { low = v.from; high = v.to }) (thread_at s v.thread).regs l o

pub pushed-as : {z : Sizes} {slots : ℕ} {b c : List ℤ} {h k : ℕ} {x y : S.State} → x ≡ y → Pushed z slots b c h k (x ∷ []) → Pushed z slots b c h k (y ∷ [])
pushed-as {z} {slots} {b} {c} {h} {k} e p = subst (λ (w : S.State). Pushed z slots b c h k (w ∷ [])) e p

-- what a move wrote into a slot is the state in which the mover stands there, with registers by its number, a variable or an owner
module _ {z : Sizes} {slots : ℕ} {b c : List ℤ} {h k : ℕ} (new : List ℤ) {m : Move} (s : State) (v : Event) (at : ℕ) (is : m ≡ move_to v at)
    (p : Pushed z slots b c h k (state_of z (decode new) ∷ [])) where
  pub moved-pushed : (regs : ℕ → List Span) → decode new ≡ moved_to s m (regs m.thread)
      → Pushed z slots b c h k (moved_by z s v at (regs_of (get_or z.regs v.thread 0) (regs v.thread)) ∷ [])
  moved-pushed regs e = pushed-as (ap (state_of z) (e ∙ ap (λ (x : Move). moved_to s x (regs x.thread)) is) ∙ moved-is s v at (regs v.thread) z) p

  pub variable-pushed : (x : ℕ) (i : Span) → decode new ≡ with_var (moved_to s m (thread_at s m.thread).regs) x i
      → Pushed z slots b c h k (moved_with z s v at (set (state_of z s).vars x (interval_of i)) (state_of z s).owners ∷ [])
  variable-pushed x i e =
      pushed-as (ap (state_of z) (e ∙ ap (λ (y : Move). with_var (moved_to s y (thread_at s y.thread).regs) x i) is) ∙ moved-var-is s v at z x i) p

  pub owner-pushed : (l o : ℕ) → decode new ≡ with_owner (moved_to s m (thread_at s m.thread).regs) l o
      → Pushed z slots b c h k (moved_with z s v at (state_of z s).vars (set (state_of z s).owners l (owner_of o)) ∷ [])
  owner-pushed l o e =
      pushed-as (ap (state_of z) (e ∙ ap (λ (y : Move). with_owner (moved_to s y (thread_at s y.thread).regs) l o) is) ∙ moved-owner-is s v at z l o) p

-- ---- locks

module _ (z : Sizes) (s : State) (v : Event) (l : ℕ) (there : l < z.locks) where
  abbrev x : Thread
  x = thread_at s v.thread

  -- the rules' state after an event at an unlock and at a lock, by the owner that was
  abbrev pub unlocked_from : Option ℕ → S.State
  unlocked_from o = S.moved (state_of z s) v.thread (suc x.at) v.from.0 v.to.0 (regs_of (get_or z.regs v.thread 0) x.regs) (state_of z s).vars (set (state_of z s).owners l (after_unlock v.thread o))

  abbrev pub locked_from : Option ℕ → S.State
  locked_from o =
      S.moved (state_of z s) v.thread (if may_take v.thread o then suc x.at else x.at) v.from.0 v.to.0
      (regs_of (get_or z.regs v.thread 0) x.regs) (state_of z s).vars (set (state_of z s).owners l (after_lock v.thread o))

  pub unlocks : (o : ℕ) → owner_of o ≡ after_unlock v.thread (owner_of (owner_at s l))
      → moved_with z s v (suc x.at) (state_of z s).vars (set (state_of z s).owners l (owner_of o)) ≡ unlocked_from (get_or (state_of z s).owners l none)
  unlocks o eo = rw (state-owner z s l there, eo)

  pub locks : (o : ℕ) → o ≡ suc v.thread → may_take v.thread (owner_of (owner_at s l)) ≡ true
      → moved_with z s v (suc x.at) (state_of z s).vars (set (state_of z s).owners l (owner_of o)) ≡ locked_from (get_or (state_of z s).owners l none)
  unfolding after_lock
  locks o eo may = rw (state-owner z s l there, may, eo)

  pub waits-on : (at : ℕ) → at ≡ x.at → may_take v.thread (owner_of (owner_at s l)) ≡ false
      → moved_by z s v at (regs_of (get_or z.regs v.thread 0) x.regs) ≡ locked_from (get_or (state_of z s).owners l none)
  unfolding after_lock
  waits-on at ea may =
      let e : may_take v.thread (get_or (state_of z s).owners l none) ≡ false = ap (may_take v.thread) (state-owner z s l there) ∙ may in
      rw (e, ea, set-get_or (state_of z s).owners l none)

-- ---- expressions

module _ (z : Sizes) (slots : ℕ) (b : List ℤ) (h : ℕ) (s : State) (v : Event) (x : Thread) where
  -- an assignment of a, and a branch on a
  module _ (r : ℕ) (a : P.Arith) where
    pub assign-faults : (q : Refusal) → fault (rule_of q) ≡ evaluate a (regs_of v.registers x.regs)
        → Acts z slots b b h h (Err q) (effect (state_of z s) v.thread (thread_of v.registers x) v.from.0 v.to.0 (P.assign r a))
    unfolding effect from_value
    assign-faults q e = rw (sym e) (ap Err (sym (refusal-of-rule q)), (refl, refl))

    pub assigns : (c : List ℤ) (k : ℕ) (i : Span) → get_or z.regs v.thread 0 ≡ v.registers
        → value (interval_of i) ≡ evaluate a (regs_of v.registers x.regs)
        → Pushed z slots b c h k (moved_by z s v (suc x.at) (set (regs_of (get_or z.regs v.thread 0) x.regs) r (interval_of i)) ∷ [])
        → Acts z slots b c h k (Ok tt) (effect (state_of z s) v.thread (thread_of v.registers x) v.from.0 v.to.0 (P.assign r a))
    unfolding effect from_value
    assigns c k i n e p = rw (sym e) (refl, rw n at p)

  module _ (to : ℕ) (a : P.Condition) where
    pub branch-faults : (q : Refusal) → fault (rule_of q) ≡ all_parts a (regs_of v.registers x.regs)
        → Acts z slots b b h h (Err q) (effect (state_of z s) v.thread (thread_of v.registers x) v.from.0 v.to.0 (P.branch to a))
    unfolding effect branches
    branch-faults q e = rw (sym e) (ap Err (sym (refusal-of-rule q)), (refl, refl))

    pub branches-on : (c d : List ℤ) (k m on : ℕ) (taken passed : ℕ → Option Regs) → get_or z.regs v.thread 0 ≡ v.registers → on ≡ suc x.at
        → value tt ≡ all_parts a (regs_of v.registers x.regs)
        → taken v.registers ≡ narrow_yes a (regs_of v.registers x.regs)
        → passed v.registers ≡ narrow_no a (regs_of v.registers x.regs)
        → Pushed z slots b c h k (unless_empty (λ rs. moved_by z s v on rs) (passed (get_or z.regs v.thread 0)))
        → Pushed z slots c d k m (unless_empty (λ rs. moved_by z s v to rs) (taken (get_or z.regs v.thread 0)))
        → Acts z slots b d h m (Ok tt) (effect (state_of z s) v.thread (thread_of v.registers x) v.from.0 v.to.0 (P.branch to a))
    unfolding effect branches
    branches-on c d k m on taken passed n eo e ey en p q =
        let p' : Pushed z slots b c h k (unless_empty (λ rs. moved_by z s v (suc x.at) rs) (narrow_no a (regs_of v.registers x.regs))) =
        subst (λ (o : Option Regs). Pushed z slots b c h k (unless_empty (λ rs. moved_by z s v (suc x.at) rs) o)) (ap passed n ∙ en)
        (subst (λ (i : ℕ). Pushed z slots b c h k (unless_empty (λ rs. moved_by z s v i rs) (passed (get_or z.regs v.thread 0)))) eo p) in
        let q' : Pushed z slots c d k m (unless_empty (λ rs. moved_by z s v to rs) (narrow_yes a (regs_of v.registers x.regs))) =
        subst (λ (o : Option Regs). Pushed z slots c d k m (unless_empty (λ rs. moved_by z s v to rs) o)) (ap taken n ∙ ey) q in
        rw (sym e) (refl, then-pushed p' q')
