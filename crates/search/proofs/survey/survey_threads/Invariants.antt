-- What the loop of `search::survey::survey_threads` keeps.
use mathlib.Core.Path.{◌≡◌}
use lib.ListN.{length}
use Prim.Native.Nat.{◌≤◌}
use Rattle.rules.specs.Constants.{most_threads}
use Rattle.search.specs.Taken.{program_of}
use Rattle.search.specs.Survey.{SurveysFrom, EarliestFrom}
use Rattle.search.proofs.survey.survey_threads.Given as goal

abbrev pub invariant-loop-t : goal.invariant-loop-t
invariant-loop-t l = record {
  inside : l.t ≤ length (program_of l.taken).threads;
  surveys : SurveysFrom l.taken l.t l.survey;
  four : length l.earliest ≡ most_threads;
  earliest : EarliestFrom l.taken l.t l.earliest;
}
