-- What a statement that was fetched means in the rules, and what its action may ask of a thread of the program.
use mathlib.Core.Path.{◌≡◌, refl, sym, ap, subst, ◌∙◌}
use mathlib.Core.Bool.{false}
use mathlib.Core.List.{List}
use Prim.Native.Nat.{ℕ, ◌+◌, ◌≤◌, ◌<◌}
use native.Mathlib.Omega.{arith}
use lib.ListN.{length, get_or}
use Rattle.rules.specs.Constants.{deepest, most_statements, most_registers, most_variables, most_locks}
use Rattle.rules.specs.Program as P
use Rattle.rules.specs.Program.{is_halt, Statement, Program}
use Rattle.rules.specs.Format.{Bytes, Names, got, read_arith, read_condition}
use Rattle.field.specs.Decoded.{body_end, action_of}
use Rattle.field.specs.declared.decoding.Action.{Action}
use Rattle.field.specs.declared.decoding.Action.TheVariants.{Halt, Skip, Assign, Branch, Store, Load, Unlock, Lock}
use Rattle.reader.specs.Index.{no_entry}
use Rattle.reader.specs.Facts.{program_in, thread_in, Named, Targets, Expresses}
use Rattle.reader.specs.declared.threads.ThreadEntry.{ThreadEntry}
use Rattle.reader.proofs.Facts.{thread-in}
use Rattle.state.specs.Shape.{sizes_of}
use Rattle.state.proofs.Shape.{sizes-regs}
use Rattle.event.specs.declared.plan.Plan.{Plan}
use Rattle.event.specs.declared.fetch.Fetched.{Fetched}
use Rattle.event.specs.Plan.{Planned}
use Rattle.event.specs.Fetch.{names_of, Fetches, OfProgram}

-- the code's action k is the rules' action x, with what is known of it
abbrev pub Means : Bytes → Names → ℕ → ℕ → Action → P.Action → Type 0
Means s ns p e Halt x = x ≡ P.halt
Means s ns p e Skip x = x ≡ P.skip
Means s ns p e (Assign r at end) x = (a : P.Arith) × ((x ≡ P.assign r a) × ((r < ns.regs) × ((end ≡ e) × (read_arith deepest s end ns.regs at ≡ got a end))))
Means s ns p e (Branch t at end) x = (a : P.Condition) × ((x ≡ P.branch t a) × ((t < most_statements) × ((end ≡ e) × (read_condition deepest s end ns.regs at ≡ got a end))))
Means s ns p e (Store r k) x = (x ≡ P.store r k) × ((r < ns.regs) × (k < ns.vars))
Means s ns p e (Load r k) x = (x ≡ P.load r k) × ((r < ns.regs) × (k < ns.vars))
Means s ns p e (Unlock l) x = (x ≡ P.unlock l) × (l < ns.locks)
Means s ns p e (Lock l) x = (x ≡ P.lock l) × (l < ns.locks)

module _ (s : Bytes) (ns : Names) where
  means : (p e : ℕ) (a : P.Action) → Named ns a → Targets most_statements a → Expresses s ns.regs p e a → Means s ns p e (action_of p e a) a
  unfolding action_of
  means p e P.halt n t x = refl
  means p e P.skip n t x = refl
  means p e (P.assign r a) n t x = (a, (refl, (n, (refl, x))))
  means p e (P.branch to c) n t x = (c, (refl, (t, (refl, x))))
  means p e (P.store r v) n t x = (refl, n)
  means p e (P.load r v) n t x = (refl, n)
  means p e (P.unlock l) n t x = (refl, n)
  means p e (P.lock l) n t x = (refl, n)

  pub fetched : (at : ℕ) (x : Statement) (f : Fetched) (k : Action) → Fetches s ns at x f → f.statement.action ≡ k → Means s ns (x.place + 9) (body_end s x.place) k x.action
  fetched at x f k w e =
      subst (λ (i : Action). Means s ns (x.place + 9) (body_end s x.place) i x.action) (sym w.action ∙ e)
      (means (x.place + 9) (body_end s x.place) x.action w.named w.targets w.expresses)

-- ---- a thread of the program

pub sizes-are : (s : Bytes) (t n : ℕ) → OfProgram (program_in s) t n → get_or (sizes_of (program_in s)).regs t 0 ≡ n
sizes-are s t n o = sizes-regs (program_in s) t ∙ sym o.registers

pub of-program : (s : Bytes) (g : Program) (p : Plan) (places : List ℕ) → Planned s g p places → (t : ℕ) → t < length g.threads
    → OfProgram g t (get_or p.entries t no_entry).registers
of-program s g p places r t there =
    let e : (get_or p.entries t no_entry).registers ≡ length (thread_in g t).regs = ap (λ (i : ThreadEntry). i.registers) (r.entries t there) in
    record {
      there = there;
      registers = e;
      threads_few = r.facts.threads_few;
      regs_few = let a = (thread-in r.facts t there).regs_few in omega arith;
      vars_few = r.facts.vars_few;
      locks_few = r.facts.locks_few;
    }

-- what each of its statements asks
module _ (s : Bytes) (t n at : ℕ) (x : Statement) (f : Fetched) (o : OfProgram (program_in s) t n) (w : Fetches s (names_of (program_in s) t) at x f) where
  pub skip-asks : f.statement.action ≡ Skip → at < most_statements
  unfolding is_halt
  skip-asks e = w.inside (ap is_halt (fetched s (names_of (program_in s) t) at x f Skip w e))

  pub assign-asks : (r p e : ℕ) → f.statement.action ≡ Assign r p e → (at < most_statements) × ((r < most_registers) × ((n ≤ most_registers) × (e ≤ length s)))
  unfolding is_halt
  assign-asks r p e k =
      let m = fetched s (names_of (program_in s) t) at x f (Assign r p e) w k in
      let live : is_halt x.action ≡ false = ap is_halt m.1.0 in
      (w.inside live, (omega (arith, m.1.1.0, o.registers, o.regs_few), (o.regs_few, omega (arith, m.1.1.1.0, w.body live))))

  pub branch-asks : (to p e : ℕ) → f.statement.action ≡ Branch to p e → (at < most_statements) × ((to < most_statements) × ((n ≤ most_registers) × (e ≤ length s)))
  unfolding is_halt
  branch-asks to p e k =
      let m = fetched s (names_of (program_in s) t) at x f (Branch to p e) w k in
      let live : is_halt x.action ≡ false = ap is_halt m.1.0 in
      (w.inside live, (m.1.1.0, (o.regs_few, omega (arith, m.1.1.1.0, w.body live))))

  pub store_asks : (r k : ℕ) → f.statement.action ≡ Store r k → (at < most_statements) × ((r < most_registers) × (k < most_variables))
  unfolding is_halt
  store_asks r k e =
      let m = fetched s (names_of (program_in s) t) at x f (Store r k) w e in
      (w.inside (ap is_halt m.0), (omega (arith, m.1.0, o.registers, o.regs_few), omega (arith, m.1.1, o.vars_few)))

  pub load_asks : (r k : ℕ) → f.statement.action ≡ Load r k → (at < most_statements) × ((r < most_registers) × (k < most_variables))
  unfolding is_halt
  load_asks r k e =
      let m = fetched s (names_of (program_in s) t) at x f (Load r k) w e in
      (w.inside (ap is_halt m.0), (omega (arith, m.1.0, o.registers, o.regs_few), omega (arith, m.1.1, o.vars_few)))

  pub unlock-asks : (l : ℕ) → f.statement.action ≡ Unlock l → (at < most_statements) × (l < most_locks)
  unfolding is_halt
  unlock-asks l e =
      let m = fetched s (names_of (program_in s) t) at x f (Unlock l) w e in
      (w.inside (ap is_halt m.0), omega (arith, m.1, o.locks_few))

  pub lock-asks : (l : ℕ) → f.statement.action ≡ Lock l → (at < most_statements) × (l < most_locks)
  unfolding is_halt
  lock-asks l e =
      let m = fetched s (names_of (program_in s) t) at x f (Lock l) w e in
      (w.inside (ap is_halt m.0), omega (arith, m.1, o.locks_few))
