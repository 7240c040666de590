-- What each statement does to the replay state is what it does in the rules. Assumes nothing.
use Rattle.std.specs.Prelude.{if◌then◌else◌, Result, Ok, Err}
use Rattle.std.proofs.Common.{◌≡◌, ℕ, suc, ◌+◌, ◌<◌, ◌≤◌, Bool, true, false, List, length, get_or, set, ℤ, sym, refl, ap, subst, ◌∙◌, arith}
use mathlib.Core.Option.{none}
use lib.Seq.{set-get_or}
use Rattle.rules.specs.Constants.{deepest, most_statements, most_registers, most_variables, most_locks}
use Rattle.rules.specs.Refusal as Ref
use Rattle.rules.specs.Refusal.{value, fault, on_value}
use Rattle.rules.specs.Program as P
use Rattle.rules.specs.Program.{is_halt}
use Rattle.rules.specs.Lock.{Owner, may_take, after_lock, after_unlock}
use Rattle.rules.specs.Format.{Bytes, got, read_arith, read_condition}
use Rattle.rules.specs.Run.{RunState, standing, act, value_of, truth_of}
use Rattle.refusal.specs.declared.Refusal.{Refusal}
use Rattle.refusal.specs.Shape.{rule_of}
use Rattle.interval.specs.declared.Val.{Val}
use Rattle.field.specs.Decoded.{body_end}
use Rattle.field.specs.declared.decoding.Action.{Action}
use Rattle.field.specs.declared.decoding.Action.TheVariants.{Halt, Skip, Assign, Branch, Store, Load, Unlock, Lock}
use Rattle.reader.specs.Facts.{program_in}
use Rattle.state.specs.Shape.{Sizes, sizes_of, owner_of, owners_of}
use Rattle.state.proofs.Shape.{owners-set, owners-get}
use Rattle.event.specs.Fetch.{names_of, Fetches, OfProgram}
use Rattle.event.specs.declared.fetch.Fetched.{Fetched}
use Rattle.event.proofs.fetch.Asks.{Means, fetched, sizes-are, skip-asks, assign-asks, branch-asks, store_asks, load_asks, unlock-asks, lock-asks}
use Rattle.record.specs.Known.{values_of}
use Rattle.record.specs.Replay.{zero_val, thread_at, thread_of, state_of, replay_of, after, stood}
use Rattle.record.specs.Act.{at_tick, Acts, Sized, Stands}
use Rattle.record.specs.declared.replay.RunThread.{RunThread}
use Rattle.record.specs.declared.replay.Replay.{Replay}
use Rattle.record.specs.declared.act.Event.{Event}
use Rattle.record.proofs.replay.Laws.{values-set, values-get}

module _ (z : Sizes) (x : Replay) (v : Event) (sz : Sized z v) where
  abbrev th : RunThread
  th = thread_at x v.thread

  abbrev e : ℕ
  e = v.tick.0

  -- what the rules make of an action
  abbrev does : P.Action → Ref.Result RunState
  does a = act (state_of z x) v.thread (thread_of v.registers th) e a

  -- the rules' state in which the thread stands so
  abbrev there : ℕ → List ℤ → List ℤ → List Owner → RunState
  there at rs vs os = standing (state_of z x) v.thread at e rs vs os

  -- a fault of the arithmetic
  pub assign-faults : (f : Refusal) (i : ℕ) (a : P.Arith) → fault (rule_of f) ≡ value_of a (values_of v.registers th.regs) → Acts z x v (P.assign i a) (Err f)
  unfolding act on_value
  assign-faults f i a h = rw (sym h)

  pub branch-faults : (f : Refusal) (to : ℕ) (a : P.Condition) → fault (rule_of f) ≡ truth_of a (values_of v.registers th.regs) → Acts z x v (P.branch to a) (Err f)
  unfolding act on_value
  branch-faults f to a h = rw (sym h)

  module _ (y : Replay) where
    acted : (a : P.Action) (at : ℕ) (regs vars : List Val) (owners : List ℕ)
        → replay_of z y ≡ stood z x v.thread at e regs vars owners
        → does a ≡ value (there at (values_of v.registers regs) (values_of z.vars vars) (owners_of z.locks owners))
        → Acts z x v a (Ok y)
    unfolding on_value
    acted a at regs vars owners q d =
        ap value q
        ∙ ap (λ (n : ℕ). value (after e (there at (values_of n regs) (values_of z.vars vars) (owners_of z.locks owners)))) sz
        ∙ sym (ap (at_tick e) d)

    pub skips : replay_of z y ≡ stood z x v.thread (suc th.at) e th.regs x.vars x.owners → Acts z x v P.skip (Ok y)
    skips q = acted P.skip (suc th.at) th.regs x.vars x.owners q (unfold act state_of in refl)

    pub assigns : (i : ℕ) (a : P.Arith) (k : Val) → value k.0 ≡ value_of a (values_of v.registers th.regs)
        → replay_of z y ≡ stood z x v.thread (suc th.at) e (set th.regs i k) x.vars x.owners → Acts z x v (P.assign i a) (Ok y)
    assigns i a k h q =
        acted (P.assign i a) (suc th.at) (set th.regs i k) x.vars x.owners q
        (unfold act on_value state_of in rw (sym h, values-set v.registers th.regs i k))

    pub branches : (to : ℕ) (a : P.Condition) (b : Bool) (at : ℕ) → value b ≡ truth_of a (values_of v.registers th.regs) → at ≡ (if b then to else suc th.at)
        → replay_of z y ≡ stood z x v.thread at e th.regs x.vars x.owners → Acts z x v (P.branch to a) (Ok y)
    branches to a b at h i q =
        acted (P.branch to a) at th.regs x.vars x.owners q (unfold act on_value state_of in rw (sym h, i))

    pub stores : (i k : ℕ) → i < v.registers
        → replay_of z y ≡ stood z x v.thread (suc th.at) e th.regs (set x.vars k (get_or th.regs i zero_val)) x.owners → Acts z x v (P.store i k) (Ok y)
    stores i k h q =
        acted (P.store i k) (suc th.at) th.regs (set x.vars k (get_or th.regs i zero_val)) x.owners q
        (unfold act state_of in rw (values-get v.registers th.regs i h, values-set z.vars x.vars k (get_or th.regs i zero_val)))

    pub loads : (i k : ℕ) → k < z.vars
        → replay_of z y ≡ stood z x v.thread (suc th.at) e (set th.regs i (get_or x.vars k zero_val)) x.vars x.owners → Acts z x v (P.load i k) (Ok y)
    loads i k h q =
        acted (P.load i k) (suc th.at) (set th.regs i (get_or x.vars k zero_val)) x.vars x.owners q
        (unfold act state_of in rw (values-get z.vars x.vars k h, values-set v.registers th.regs i (get_or x.vars k zero_val)))

    module _ (l : ℕ) (h : l < z.locks) where
      pub unlocks : (o : ℕ) → owner_of o ≡ after_unlock v.thread (owner_of (get_or x.owners l 0))
          → replay_of z y ≡ stood z x v.thread (suc th.at) e th.regs x.vars (set x.owners l o) → Acts z x v (P.unlock l) (Ok y)
      unlocks o f q =
          acted (P.unlock l) (suc th.at) th.regs x.vars (set x.owners l o) q
          (unfold act state_of in rw (owners-get z.locks x.owners l h, owners-set z.locks x.owners l o, f))

      pub locks : (o : ℕ) → o ≡ suc v.thread → may_take v.thread (owner_of (get_or x.owners l 0)) ≡ true
          → replay_of z y ≡ stood z x v.thread (suc th.at) e th.regs x.vars (set x.owners l o) → Acts z x v (P.lock l) (Ok y)
      locks o f m q =
          acted (P.lock l) (suc th.at) th.regs x.vars (set x.owners l o) q
          (unfold act after_lock state_of in rw (owners-get z.locks x.owners l h, m, owners-set z.locks x.owners l o, f))

      waits-does : (at : ℕ) → at ≡ th.at → may_take v.thread (owner_of (get_or x.owners l 0)) ≡ false
          → does (P.lock l) ≡ value (there at (values_of v.registers th.regs) (values_of z.vars x.vars) (owners_of z.locks x.owners))
      unfolding act after_lock state_of
      waits-does at f m =
          let may : may_take v.thread (get_or (owners_of z.locks x.owners) l none) ≡ false = ap (may_take v.thread) (owners-get z.locks x.owners l h) ∙ m in
          rw (may, f, set-get_or (owners_of z.locks x.owners) l none)

      pub waits : (at : ℕ) → at ≡ th.at → may_take v.thread (owner_of (get_or x.owners l 0)) ≡ false
          → replay_of z y ≡ stood z x v.thread at e th.regs x.vars x.owners → Acts z x v (P.lock l) (Ok y)
      waits at f m q = acted (P.lock l) at th.regs x.vars x.owners q (waits-does at f m)

-- ---- the statement that was fetched

module _ {b : Bytes} (x : Replay) (v : Event) {f : Fetched} (o : OfProgram (program_in b) v.thread v.registers)
    {s : P.Statement} (w : Fetches b (names_of (program_in b) v.thread) (thread_at x v.thread).at s f) where
  abbrev g : P.Program
  g = program_in b

  abbrev z : Sizes
  z = sizes_of g

  abbrev at : ℕ
  at = (thread_at x v.thread).at

  sized : Sized z v
  sized = sizes-are b v.thread v.registers o

  stands : at < most_statements → Stands x v
  stands h = (omega (arith, o.there, o.threads_few), h)

  means : (k : Action) → f.statement.action ≡ k → Means b (names_of g v.thread) (s.place + 9) (body_end b s.place) k s.action
  means k e = fetched b (names_of g v.thread) at s f k w e

  -- what it asks
  pub skip-asked : f.statement.action ≡ Skip → Stands x v
  skip-asked e = stands (skip-asks b v.thread v.registers at s f o w e)

  module _ {i p q : ℕ} where
    pub assign-asked : f.statement.action ≡ Assign i p q → Stands x v × ((i < most_registers) × ((v.registers ≤ most_registers) × (q ≤ length b)))
    assign-asked e = let k = assign-asks b v.thread v.registers at s f o w i p q e in (stands k.0, k.1)

    pub branch-asked : f.statement.action ≡ Branch i p q → Stands x v × ((i < most_statements) × ((v.registers ≤ most_registers) × (q ≤ length b)))
    branch-asked e = let k = branch-asks b v.thread v.registers at s f o w i p q e in (stands k.0, k.1)

  module _ {i k : ℕ} where
    pub store-asked : f.statement.action ≡ Store i k → Stands x v × ((i < most_registers) × (k < most_variables))
    store-asked e = let m = store_asks b v.thread v.registers at s f o w i k e in (stands m.0, m.1)

    pub load-asked : f.statement.action ≡ Load i k → Stands x v × ((i < most_registers) × (k < most_variables))
    load-asked e = let m = load_asks b v.thread v.registers at s f o w i k e in (stands m.0, m.1)

  module _ {l : ℕ} where
    pub unlock-asked : f.statement.action ≡ Unlock l → Stands x v × (l < most_locks)
    unlock-asked e = let m = unlock-asks b v.thread v.registers at s f o w l e in (stands m.0, m.1)

    pub lock-asked : f.statement.action ≡ Lock l → Stands x v × (l < most_locks)
    lock-asked e = let m = lock-asks b v.thread v.registers at s f o w l e in (stands m.0, m.1)

  -- what it does
  pub halt-out : f.statement.action ≡ Halt → is_halt s.action ≡ false → ⊥
  unfolding is_halt
  halt-out e l = let n : true ≡ false = sym (ap is_halt (means Halt e)) ∙ l in cc

  module _ (y : Result Replay Refusal) where
    pub skip-acts : f.statement.action ≡ Skip → ((z : Sizes) → Sized z v → Acts z x v P.skip y) → Acts z x v s.action y
    skip-acts e h = rw (means Skip e) (h z sized)

    module _ {i p q : ℕ} where
      pub assign-acts : f.statement.action ≡ Assign i p q
          → ((z : Sizes) (a : P.Arith) → Sized z v → read_arith deepest b q v.registers p ≡ got a q → Acts z x v (P.assign i a) y) → Acts z x v s.action y
      assign-acts e h =
          let m = means (Assign i p q) e in
          rw m.1.0 (h z m.0 sized (subst (λ (n : ℕ). read_arith deepest b q n p ≡ got m.0 q) (sym o.registers) m.1.1.1.1))

      pub branch-acts : f.statement.action ≡ Branch i p q
          → ((z : Sizes) (a : P.Condition) → Sized z v → read_condition deepest b q v.registers p ≡ got a q → Acts z x v (P.branch i a) y) → Acts z x v s.action y
      branch-acts e h =
          let m = means (Branch i p q) e in
          rw m.1.0 (h z m.0 sized (subst (λ (n : ℕ). read_condition deepest b q n p ≡ got m.0 q) (sym o.registers) m.1.1.1.1))

    module _ {i k : ℕ} where
      pub store-acts : f.statement.action ≡ Store i k → ((z : Sizes) → Sized z v → i < v.registers → Acts z x v (P.store i k) y) → Acts z x v s.action y
      store-acts e h = let m = means (Store i k) e in rw m.0 (h z sized (rw o.registers m.1.0))

      pub load-acts : f.statement.action ≡ Load i k → ((z : Sizes) → Sized z v → k < z.vars → Acts z x v (P.load i k) y) → Acts z x v s.action y
      unfolding sizes_of
      load-acts e h = let m = means (Load i k) e in rw m.0 (h z sized m.1.1)

    module _ {l : ℕ} where
      pub unlock-acts : f.statement.action ≡ Unlock l → ((z : Sizes) → Sized z v → l < z.locks → Acts z x v (P.unlock l) y) → Acts z x v s.action y
      unfolding sizes_of
      unlock-acts e h = let m = means (Unlock l) e in rw m.0 (h z sized m.1)

      pub lock-acts : f.statement.action ≡ Lock l → ((z : Sizes) → Sized z v → l < z.locks → Acts z x v (P.lock l) y) → Acts z x v s.action y
      unfolding sizes_of
      lock-acts e h = let m = means (Lock l) e in rw m.0 (h z sized m.1)
