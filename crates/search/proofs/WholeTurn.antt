-- A whole turn, by what the survey of the threads gave.
use Rattle.std.specs.Prelude.{Some, None}
use mathlib.Core.Path.{◌≡◌, refl, sym, ap, ◌∙◌}
use mathlib.Core.Bool.{true, false}
use mathlib.Core.List.{List, [], ◌∷◌}
use Prim.Native.Nat.{ℕ, suc, ◌≤◌, ◌<◌}
use native.Mathlib.Omega.{arith}
use borrow.Author.Tests.{lt-ltb, le-ltb}
use lib.Dec.{lit<}
use lib.ListN.{length, get_or}
use Rattle.rules.specs.Base.{all}
use Rattle.rules.specs.Constants.{half32, most_threads, greatest_limit}
use Rattle.rules.specs.Refusal.{stuck, past_limit}
use Rattle.rules.specs.Format.{Bytes}
use Rattle.rules.specs.Program.{Program}
use Rattle.rules.specs.Search as S
use Rattle.rules.specs.Search.{Live, refused, ended, events, greatest_low, greatest_high, turn_bound, waits, turn_of, turn}
use Rattle.state.specs.Access.{zero_thread}
use Rattle.state.specs.Cells.{AllTimed, decode}
use Rattle.state.specs.Shape.{threads_of, state_of}
use Rattle.state.specs.declared.Thread.{Thread}
use Rattle.state.proofs.Shape.{sizes-threads}
use Rattle.field.specs.Ticks.{tick}
use Rattle.event.specs.Plan.{Planned}
use Rattle.event.specs.declared.plan.Plan.{Plan}
use Rattle.field.specs.declared.ticks.Time.{Time}
use Rattle.search.specs.Taken.{program_of, sizes_in, rules_state, live_in}
use Rattle.search.specs.Survey.{bound_of, SurveysFrom}
use Rattle.search.specs.Turn.{events_in}
use Rattle.search.specs.declared.survey.Survey.{Survey}
use Rattle.search.specs.declared.taken.Taken.{Taken}

-- the bound of some live threads
bound-same : (v : Live) (vs : List Live) (bound : Time) → bound_of (v ∷ vs) ≡ Some bound → turn_bound v vs ≡ bound.0
bound-same v vs bound e = let f : tick (turn_bound v vs) ≡ bound = cc e in ap (λ (t : Time). t.0) f

-- the rules' turn, by its tests
turn-none : (g : Program) (x : S.State) (vs : List Live) → bound_of vs ≡ None → turn_of g x vs ≡ ended (greatest_low x.threads)
    (greatest_high x.threads)
unfolding turn_of
turn-none g x [] e = refl
turn-none g x (v ∷ vs) e = absurd (cc e)

turn-wait : (g : Program) (x : S.State) (vs : List Live) (bound : Time) → bound_of vs ≡ Some bound → all (waits x.owners) vs ≡ true
    → turn_of g x vs ≡ refused stuck 0
unfolding turn_of
turn-wait g x [] bound e f = absurd (cc e)
turn-wait g x (v ∷ vs) bound e f = rw f

turn-limit : (g : Program) (x : S.State) (vs : List Live) (bound : Time) → bound_of vs ≡ Some bound → all (waits x.owners) vs ≡ false
    → g.header.limit < bound.0
    → turn_of g x vs ≡ refused past_limit 0
unfolding turn_of
turn-limit g x [] bound e f l = absurd (cc e)
turn-limit g x (v ∷ vs) bound e f l =
    let same : turn_bound v vs ≡ bound.0 = bound-same v vs bound e in
    rw (f, lt-ltb g.header.limit (turn_bound v vs) (omega arith))

turn-goes : (g : Program) (x : S.State) (vs : List Live) (bound : Time) → bound_of vs ≡ Some bound → all (waits x.owners) vs ≡ false
    → bound.0 ≤ g.header.limit
    → turn_of g x vs ≡ events x (greatest_low x.threads) bound.0 vs
unfolding turn_of
turn-goes g x [] bound e f l = absurd (cc e)
turn-goes g x (v ∷ vs) bound e f l =
    let same : turn_bound v vs ≡ bound.0 = bound-same v vs bound e in
    rw (f, le-ltb g.header.limit (turn_bound v vs) (omega arith), same)

module _ (x : Taken) (v : Survey) (sv : SurveysFrom x 0 v) where
  turn_is : turn (program_of x) (rules_state x) ≡ turn_of (program_of x) (rules_state x) (live_in x 0)
  unfolding turn
  turn_is = refl

  pub turn-ended : v.bound ≡ None → turn (program_of x) (rules_state x) ≡ ended v.low.0 v.high.0
  turn-ended e = turn_is ∙ turn-none (program_of x) (rules_state x) (live_in x 0) (sym sv.bound_is ∙ e) ∙
      (λ i. ended (sym sv.low_is i) (sym sv.high_is i))

  module _ (bound : Time) (live : v.bound ≡ Some bound) where
    pub turn-stuck : v.waiting ≡ true → turn (program_of x) (rules_state x) ≡ refused stuck 0
    turn-stuck f = turn_is ∙ turn-wait (program_of x) (rules_state x) (live_in x 0) bound (sym sv.bound_is ∙ live) (sym sv.waiting_is ∙ f)

    pub turn-past : v.waiting ≡ false → (program_of x).header.limit < bound.0 → turn (program_of x) (rules_state x) ≡ refused past_limit 0
    turn-past f l = turn_is ∙ turn-limit (program_of x) (rules_state x) (live_in x 0) bound (sym sv.bound_is ∙ live)
        (sym sv.waiting_is ∙ f) l

    pub turn-follows : v.waiting ≡ false → bound.0 ≤ (program_of x).header.limit → turn (program_of x)
        (rules_state x) ≡ events_in x v.low.0 bound.0 0
    turn-follows f l =
        turn_is ∙ turn-goes (program_of x) (rules_state x) (live_in x 0) bound (sym sv.bound_is ∙ live) (sym sv.waiting_is ∙ f) l
        ∙ ap (λ (n : ℕ). events (rules_state x) n bound.0 (live_in x 0)) (sym sv.low_is)

-- ---- the numbers are small

pub limit-small : (bs : Bytes) (g : Program) (p : Plan) (places : List ℕ) → Planned bs g p places → p.limit.0 < half32
limit-small bs g p places r = let a = r.limit in let b = r.facts.header.limit_most in let c : greatest_limit < half32 = lit< tt in omega
    arith

low_of : (ns : List ℕ) (xs : List Thread) → ((t : ℕ) → t < length ns → (get_or xs t zero_thread).clock.low.0 < half32) → greatest_low
    (threads_of ns xs) < half32
unfolding threads_of greatest_low
low_of [] xs h = lit< tt
low_of (n ∷ ns) [] h = lit< tt
low_of (n ∷ ns) (y ∷ ys) h =
    let first : y.clock.low.0 < half32 = h 0 (omega arith) in
    let rest : greatest_low (threads_of ns ys) < half32 = low_of ns ys (λ t k. h (suc t) (omega arith)) in
    omega arith

pub low_small : (x : Taken) → AllTimed (decode x.cells.now) → length (program_of x).threads ≤ most_threads → (v : Survey)
    → SurveysFrom x 0 v → v.low.0 < half32
unfolding state_of
low_small x timed few v sv =
    let n = sizes-threads (program_of x) in
    let low = low_of (sizes_in x).regs (decode x.cells.now).threads (λ t k. (timed.timed t (omega arith)).low) in
    let is = sv.low_is in
    omega arith
