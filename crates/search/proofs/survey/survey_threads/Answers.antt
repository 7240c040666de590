-- What the search leaves of `search::survey::survey_threads`.
use mathlib.Core.Path.{◌≡◌, refl}
use Prim.Native.Nat.{suc, ◌-◌, ◌<◌}
use native.Mathlib.Omega.{arith}
use lib.ListN.{length, length-set, replicate}
use Rattle.std.specs.Prelude.{None}
use Rattle.rules.specs.Constants.{most_threads}
use Rattle.search.specs.Taken.{program_of}
use Rattle.search.proofs.survey.Laws.{fetched-lock, survey-start, survey-more, earliest-start, earliest-more}
use Rattle.search.proofs.survey.survey_threads.Goals as goal

pub loop-t-init : goal.loop-t-init
loop-t-init c =
    let x = c.args.taken.now in
    let count = c.requires.threads in
    record {
      inside = omega arith;
      surveys = survey-start x c.requires x.plan.threads (omega arith);
      four = refl;
      earliest = earliest-start x x.plan.threads (replicate most_threads None) (omega arith);
    }

pub with_thread-survey-requires : goal.with_thread-survey-requires
with_thread-survey-requires c =
    let few = c.requires.facts.threads_few in
    let inside = c.loop-t.invariant.inside in (
      omega arith,
      (
        c.clock_of-clock.ensures.1.1,
        (
          c.fetch-f.ensures.greatest_small,
          fetched-lock c.requires.facts.locks_few
              c.fetch-f.ensures,
        ),
      ),
    )

pub loop-t-preserved : goal.loop-t-preserved
loop-t-preserved c =
    let x = c.args.taken.now in
    let t = c.loop-t.t - 1 in
    let few = c.requires.facts.threads_few in
    let at = c.loop-t.invariant in
    let inside = at.inside in
    let four = at.four in
    let there : t < length (program_of x).threads = omega arith in
    let next : suc t ≡ c.loop-t.t = omega arith in
    record {
      inside = omega arith;
      surveys = rw (c.with_thread-survey.ensures, c.clock_of-clock.ensures.0)
          (survey-more x c.requires t there c.fetch-f.result c.loop-t.survey c.fetch-f.ensures (rw next at.surveys));
      four = simp length-set four;
      earliest = earliest-more x t c.loop-t.earliest c.earliest_tick.result (omega arith) c.fetch-f.ensures
          (rw (← c.clock_of-clock.ensures.0) c.earliest_tick.ensures) (rw next at.earliest);
    }
