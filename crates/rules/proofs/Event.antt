-- Laws of one event of a timed run: what makes an event, and what its step leaves.
use Rattle.std.specs.Prelude.{if◌then◌else◌}
use mathlib.Core.Path.{◌≡◌, refl, subst}
use mathlib.Core.Bool.{Bool, not, ◌&&◌, ◌||◌}
use mathlib.Core.Option.{none}
use mathlib.Core.List.{List}
use Prim.Native.Nat.{ℕ, suc, ◌+◌, ◌≤◌, ◌<◌}
use native.Mathlib.Decide.{dec_lt}
use native.Mathlib.Omega.{arith}
use lib.Dec.{T, leb, leb→le, le→leb}
use lib.IntN.{ℤ}
use lib.ListN.{length, get_or, set, get_or-eq_default}
use Rattle.rules.specs.Base.{all_below}
use Rattle.rules.specs.Refusal.{Result, value, fault, on_value}
use Rattle.rules.specs.Program.{Action, halt, skip, assign, branch, store, load, unlock, lock, is_halt, Thread, Program, no_statement, no_thread}
use Rattle.rules.specs.Lock.{may_take}
use Rattle.rules.specs.Run.{RunThread, RunState, act, standing, value_of, truth_of, thread_of, statement_of, live, is_event, Outcome, not_event, no_result, next, outcome, step}
use Rattle.rules.proofs.Base.{if-ind, and_left, and_right, and_both, or_elim, or-intro, all-below-elim, all-below-intro}

-- ---- what an event is

pub record Ends (g : Program) (s : RunState) (t e : ℕ) : Type 0 where
  pub lives : T (live g s t)
  pub late : (thread_of s t).clock + (statement_of g s t).least ≤ e
  pub soon : e ≤ (thread_of s t).clock + (statement_of g s t).greatest
  pub behind : (u : ℕ) → u < length g.threads → (thread_of s u).clock ≤ e
  pub waited : (u : ℕ) → u < length g.threads → T (live g s u) → e ≤ (thread_of s u).clock + (statement_of g s u).greatest

module _ (g : Program) (s : RunState) (t e : ℕ) where
  abbrev from : Bool
  from = leb ((thread_of s t).clock + (statement_of g s t).least) e

  abbrev up_to : Bool
  up_to = leb e ((thread_of s t).clock + (statement_of g s t).greatest)

  abbrev past : ℕ → Bool
  past u = leb (thread_of s u).clock e

  abbrev ahead : ℕ → Bool
  ahead u = leb e ((thread_of s u).clock + (statement_of g s u).greatest)

  abbrev all_past : Bool
  all_past = all_below (length g.threads) past

  abbrev all_ahead : Bool
  all_ahead = all_below (length g.threads) (λ u. not (live g s u) || ahead u)

  pub event-ends : T (is_event g s t e) → Ends g s t e
  unfolding is_event
  event-ends h =
      let times = and_left (from && up_to) (all_past && all_ahead) (and_right (live g s t) ((from && up_to) && (all_past && all_ahead)) h) in
      let clocks = and_right (from && up_to) (all_past && all_ahead) (and_right (live g s t) ((from && up_to) && (all_past && all_ahead)) h) in
      record {
        lives = and_left (live g s t) ((from && up_to) && (all_past && all_ahead)) h;
        late = leb→le ((thread_of s t).clock + (statement_of g s t).least) e (and_left from up_to times);
        soon = leb→le e ((thread_of s t).clock + (statement_of g s t).greatest) (and_right from up_to times);
        behind = λ u k. leb→le (thread_of s u).clock e (all-below-elim (length g.threads) past (and_left all_past all_ahead clocks) u k);
        waited = λ u k l. leb→le e ((thread_of s u).clock + (statement_of g s u).greatest)
            (or_elim (live g s u) (ahead u) (all-below-elim (length g.threads) (λ u. not (live g s u) || ahead u) (and_right all_past all_ahead clocks) u k) l);
      }

  pub ends-event : Ends g s t e → T (is_event g s t e)
  unfolding is_event
  ends-event h =
      and_both (live g s t) ((from && up_to) && (all_past && all_ahead)) h.lives
      (and_both (from && up_to) (all_past && all_ahead) (and_both from up_to (le→leb _ e h.late) (le→leb e _ h.soon))
      (and_both all_past all_ahead (all-below-intro (length g.threads) past (λ u k. le→leb _ e (h.behind u k)))
      (all-below-intro (length g.threads) (λ u. not (live g s u) || ahead u) (λ u k. or-intro (live g s u) (ahead u) (λ l. le→leb e _ (h.waited u k l))))))

-- a live thread is one of the sheet's
pub live-there : (g : Program) (s : RunState) (t : ℕ) → T (live g s t) → t < length g.threads
unfolding live statement_of is_halt
live-there g s t h = elim (dec_lt t (length g.threads)) [
  | yes k ↦ k
  | no k ↦
      let q : get_or g.threads t no_thread ≡ no_thread = get_or-eq_default g.threads no_thread (omega arith) in
      absurd (subst (λ (z : Thread). T (not (is_halt (get_or z.statements (thread_of s t).at no_statement).action))) q h)
]

-- ---- a step: what its outcome says

abbrev pub acted : Program → RunState → ℕ → ℕ → Result RunState
acted g s t e = act s t (thread_of s t) e (statement_of g s t).action

abbrev pub StepSays : Program → RunState → ℕ → ℕ → Outcome → Type 0
StepSays g s t e not_event = Unit {0}
StepSays g s t e (no_result r) = T (is_event g s t e) × (acted g s t e ≡ fault r)
StepSays g s t e (next s') = T (is_event g s t e) × (acted g s t e ≡ value s')

pub step-says : (g : Program) (s : RunState) (t e : ℕ) → StepSays g s t e (step g s t e)
unfolding step outcome
step-says g s t e =
    if-ind (is_event g s t e) (outcome (acted g s t e)) not_event (StepSays g s t e) (λ h. by h (acted g s t e) refl) (λ _. tt)
  where
    by : T (is_event g s t e) → (r : Result RunState) → acted g s t e ≡ r → StepSays g s t e (outcome r)
    by h (fault r) q = (h, q)
    by h (value s') q = (h, q)

-- the mover alone stands elsewhere, and its clock is the tick
abbrev pub Stands : RunState → ℕ → ℕ → Result RunState → Type 0
Stands s t e (fault r) = Unit {0}
Stands s t e (value s') = (at : ℕ) × (zs : List ℤ) × (s'.threads ≡ set s.threads t (record { at = at; clock = e; regs = zs }))

value-stands : {A : Type 0} (s : RunState) (t e : ℕ) (o : Result A) (f : A → Result RunState) → ((a : A) → Stands s t e (f a)) → Stands s t e (on_value f o)
unfolding on_value
value-stands s t e (fault r) f h = tt
value-stands s t e (value a) f h = h a

pub act-stands : (s : RunState) (t : ℕ) (x : RunThread) (e : ℕ) (a : Action) → T (not (is_halt a)) → Stands s t e (act s t x e a)
unfolding act standing is_halt
act-stands s t x e halt l = absurd l
act-stands s t x e skip l = (suc x.at, x.regs, refl)
act-stands s t x e (assign r a) l =
    value-stands s t e (value_of a x.regs) (λ z. value (standing s t (suc x.at) e (set x.regs r z) s.vars s.owners)) (λ z. (suc x.at, set x.regs r z, refl))
act-stands s t x e (branch to c) l =
    value-stands s t e (truth_of c x.regs) (λ b. value (standing s t (if b then to else suc x.at) e x.regs s.vars s.owners))
    (λ b. (if b then to else suc x.at, x.regs, refl))
act-stands s t x e (store r v) l = (suc x.at, x.regs, refl)
act-stands s t x e (load r v) l = (suc x.at, _, refl)
act-stands s t x e (unlock k) l = (suc x.at, x.regs, refl)
act-stands s t x e (lock k) l = (if may_take t (get_or s.owners k none) then suc x.at else x.at, x.regs, refl)
