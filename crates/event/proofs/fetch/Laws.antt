-- A statement fetched by its number is the program's statement, or none.
use mathlib.Core.Path.{◌≡◌, refl, sym, ap, subst}
use mathlib.Core.Bool.{false}
use mathlib.Core.List.{List}
use Prim.Native.Nat.{ℕ, ◌+◌, ◌*◌, ◌≤◌, ◌<◌}
use native.Mathlib.Omega.{arith}
use lib.ListN.{length, get_or, get_or-eq_default}
use Rattle.rules.specs.Constants.{most_threads, most_statements}
use Rattle.rules.specs.Program as R
use Rattle.rules.specs.Program.{is_halt, no_statement}
use Rattle.rules.specs.Format.{Bytes, Names}
use Rattle.field.specs.Ticks.{tick}
use Rattle.field.specs.Decoded.{action_of}
use Rattle.field.specs.declared.decoding.Action.TheVariants.{Halt}
use Rattle.reader.specs.Index.{no_entry}
use Rattle.reader.specs.Facts.{program_in, thread_in, statement_in, StatementFacts, Targets}
use Rattle.reader.proofs.Facts.{thread-in, statement-in, target-in}
use Rattle.event.specs.declared.plan.Plan.{Plan}
use Rattle.event.specs.declared.fetch.Fetched.{Fetched}
use Rattle.event.specs.Plan.{Ready}
use Rattle.event.specs.Fetch.{names_of, Fetches}

-- ---- no statement

not-halt : {A : Type 0} → is_halt R.halt ≡ false → A
unfolding is_halt
not-halt h = let z : ◌≡◌ {A = ℕ} 0 1 = cc in absurd (omega arith)

pub none-fetches : (s : Bytes) (ns : Names) (at : ℕ) → Fetches s ns at no_statement (record { place = 0; statement = record { least = tick 0; greatest = tick 0; action = Halt } })
unfolding action_of
none-fetches s ns at = record {
  place = refl;
  least = refl;
  greatest = refl;
  least_small = omega arith;
  greatest_small = omega arith;
  action = refl;
  named = tt;
  targets = tt;
  expresses = tt;
  body = λ h. not-halt h;
  inside = λ h. not-halt h;
}

-- ---- statement k of thread t

targets-more : (n m : ℕ) (o : R.Action) → n ≤ m → Targets n o → Targets m o
targets-more n m R.halt h w = tt
targets-more n m R.skip h w = tt
targets-more n m (R.assign r a) h w = tt
targets-more n m (R.branch t c) h w = omega arith
targets-more n m (R.store r v) h w = tt
targets-more n m (R.load r v) h w = tt
targets-more n m (R.unlock l) h w = tt
targets-more n m (R.lock l) h w = tt

module _ {s : Bytes} {p : Plan} {places : List ℕ} (w : Ready s p places) (t k : ℕ) (b : t < length (program_in s).threads) where
  count_is : (get_or p.entries t no_entry).statements ≡ length (thread_in (program_in s) t).statements
  count_is = ap (λ e. e.statements) (w.entries t b)

  -- there is none
  pub none-there : {f : Fetched} → (get_or p.entries t no_entry).statements ≤ k → ((s : Bytes) (ns : Names) (at : ℕ) → Fetches s ns at no_statement f)
      → Fetches s (names_of (program_in s) t) k (statement_in (program_in s) t k) f
  none-there {f} h e =
      let past : length (thread_in (program_in s) t).statements ≤ k = omega (arith, count_is) in
      subst (λ x. Fetches s (names_of (program_in s) t) k x f) (sym (get_or-eq_default (thread_in (program_in s) t).statements no_statement past))
      (e s (names_of (program_in s) t) k)

  -- there is one
  module _ (h : k < (get_or p.entries t no_entry).statements) where
    counted : k < length (thread_in (program_in s) t).statements
    counted = omega (arith, count_is)

    few : k < most_statements
    few = omega (arith, counted, (thread-in w.facts t b).few)

    place_is : get_or places (t * most_statements + k) 0 ≡ (statement_in (program_in s) t k).place
    place_is = w.places_are t k b counted

    pub index-small : t * most_statements + k < most_threads * most_statements
    index-small = omega (arith, few, w.facts.threads_few)

    pub place-head : get_or places (t * most_statements + k) 0 + 8 ≤ length s
    place-head = omega (arith, place_is, (statement-in w.facts t b k counted).head)

    pub one-there : {f : Fetched}
        → ((ns : Names) (at : ℕ) (x : R.Statement) → get_or places (t * most_statements + k) 0 ≡ x.place → at < most_statements → StatementFacts ns s x
        → Targets most_statements x.action → Fetches s ns at x f)
        → Fetches s (names_of (program_in s) t) k (statement_in (program_in s) t k) f
    one-there e =
        e (names_of (program_in s) t) k (statement_in (program_in s) t k) place_is few (statement-in w.facts t b k counted)
        (targets-more (length (thread_in (program_in s) t).statements) most_statements (statement_in (program_in s) t k).action
        (thread-in w.facts t b).few (target-in w.facts t b k counted))
