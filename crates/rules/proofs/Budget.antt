-- How much budget is enough, and what a larger budget or work buffer keeps: the claims of `specs/Budget.antt`, proved.
use mathlib.Core.Path.{◌≡◌, refl, sym, ap, ◌∙◌, subst}
use mathlib.Core.List.{List}
use Prim.Native.Nat.{ℕ, suc, ◌*◌, ◌/◌, ◌≤◌, ◌<◌}
use native.Mathlib.Nat.{le_trans, mul-le-mul_left}
use native.Mathlib.Omega.{arith}
use lib.ListN.{length}
use Rattle.rules.specs.Refusal.{out_of_steps}
use Rattle.rules.specs.Constants.{greatest_budget, numbers_per_state}
use Rattle.rules.specs.Program.{Program}
use Rattle.rules.specs.Format.{Bytes, Got, got}
use Rattle.rules.specs.Run.{RunState, Event, IsRun, Starts}
use Rattle.rules.specs.Search.{Stepper, search_step, from_by, search_from, Answer, answer_by, answer_with, answer}
use Rattle.rules.specs.Demands.{HoldsOfRun}
use Rattle.rules.specs.Budget.{AnyBut, budget_in, with_budget, KeptByBudget, KeptWithBudget, powers, enough_for, EnoughInTheSheet, FewEvents, GreatestLimit, BudgetClaims}
use Rattle.rules.proofs.Demands.{accepted_holds}
use Rattle.rules.proofs.Worked.{budgets_hold}
use Rattle.rules.proofs.Loop.{Keeps, step_keeps}
use Rattle.rules.proofs.Kept.{answers_by, program-kept, larger_buffer, larger_budget_of_program, as_program}
use Rattle.rules.proofs.Rebudgeted.{reads-rebudgeted}
use Rattle.rules.proofs.BudgetBytes.{field-says, written-budget, written_same}
use Rattle.rules.proofs.Powers.{powers-up}
use Rattle.rules.proofs.Enough.{enough_never_meets, search_never_meets}

-- ---- a larger budget in the sheet's bytes, for any step that does not look at the budget

budget-kept : (step : Program → ℕ → Stepper) → Keeps step → KeptByBudget (answers_by step)
budget-kept step keeps s t n (g, e, q) same larger in-range h =
    let answers : Got Program → Answer = answer_by (from_by step) (n / numbers_per_state) in
    let more = subst (λ (b : ℕ). b ≤ budget_in t) (sym (field-says s g e q).budget_is) larger in
    ap answers (reads-rebudgeted s t same larger in-range g e q)
    ∙ program-kept step keeps g e (n / numbers_per_state) (budget_in t) more (λ k. h (ap (λ (x : Got Program). (answers x).refusal) q ∙ k))
    ∙ ap answers (sym q)

larger_budget : KeptByBudget answer
unfolding answer answer_with search_from
larger_budget = budget-kept search_step step_keeps

written-kept : (answers : Bytes → ℕ → Answer) → KeptByBudget answers → KeptWithBudget answers
written-kept answers law s n b (g, e, q) larger in-range h =
    let long = (field-says s g e q).long in
    let w = written-budget b s long in
    law s (with_budget b s) n (g, e, q) (written_same b s long) (subst (λ (c : ℕ). budget_in s ≤ c) (sym w) larger) (subst (λ (c : ℕ). c ≤ greatest_budget) (sym w) in-range) h

-- ---- a sheet whose own budget is enough

enough_in_the_sheet : EnoughInTheSheet
enough_in_the_sheet s n g end q h = subst (AnyBut out_of_steps) (sym (as_program s n g end q)) (enough_never_meets s g end q n g.header.budget h)

-- ---- the events of a run

few_events : FewEvents
few_events s n a g end q x h es i =
    let k = accepted_holds s n a in
    let p : got k.program k.end ≡ got g end = sym k.reads ∙ q in
    let e : k.program ≡ g = cc in
    of-program k.program e k.every_run
  where
    of-program : (g' : Program) → g' ≡ g → ((x : RunState) → Starts g' x → (es : List Event) → IsRun g' x es → HoldsOfRun g' x es) → length es ≤ length g.threads * g.header.limit
    of-program g' e f = (subst (λ (y : Program). (x : RunState) → Starts y x → (es : List Event) → IsRun y x es → HoldsOfRun y x es) e f x h es i).few_events

-- ---- the greatest limits

greatest-limit : (n limit sum : ℕ) → enough_for n limit ≡ sum → sum ≤ greatest_budget → greatest_budget < enough_for n (suc limit) → GreatestLimit n limit sum
greatest-limit n limit sum e h next = record {
  sum_is = e;
  is_allowed = h;
  no_later_one = λ later l. le_trans next (powers-up (2 * n) (n * suc limit) (n * later) (mul-le-mul_left n l));
}

-- ---- the claim

pub budget-claims : BudgetClaims
unfolding powers
budget-claims = record {
  larger_budget = larger_budget;
  larger_budget_written = written-kept answer larger_budget;
  larger_buffer = larger_buffer;
  as_program = as_program;
  larger_budget_of_program = larger_budget_of_program;
  enough_never_meets = enough_never_meets;
  enough_in_the_sheet = enough_in_the_sheet;
  search_never_meets = search_never_meets;
  few_events = few_events;
  one_thread = greatest-limit 1 22 8388607 refl (omega arith) (omega arith);
  two_threads = greatest-limit 2 5 1398101 refl (omega arith) (omega arith);
  three_threads = greatest-limit 3 2 55987 refl (omega arith) (omega arith);
  four_threads = greatest-limit 4 1 4681 refl (omega arith) (omega arith);
  budgets_hold = budgets_hold;
}
