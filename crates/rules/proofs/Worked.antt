-- The starred sheets of 01, the facts and examples beside them, the worked runs, faults, quotients and budgets, proved by
-- computing the rules on them.
use mathlib.Core.Path.{refl}
use Rattle.rules.specs.Base.{Each, nil, ◌&◌}
use Rattle.rules.specs.Worked.{Holds, table, StarredSheets}
use Rattle.rules.specs.Edges.{row_of, edges, EdgesHold}
use Rattle.rules.specs.Examples.{examples, ExamplesHold}
use Rattle.rules.specs.Runs.{Plays, runs, RunsPlay}
use Rattle.rules.specs.Faults.{faults, run_faults}
use Rattle.rules.specs.Division.{quotients, quotient_runs}
use Rattle.rules.specs.Budget.{with_budget, powers, budgets}
use Rattle.rules.proofs.Compute.{every-rule}

pub starred-sheets : StarredSheets
unfolding table every-rule
starred-sheets = record {
  all_hold = refl & refl & refl & refl & refl & refl & refl & refl & refl & refl & refl & refl & refl & refl & refl & refl & refl & refl & refl & nil;
  notation_is_right = refl;
}

pub edges-hold : EdgesHold
unfolding edges row_of every-rule
edges-hold = refl & refl & refl & refl & refl & refl & refl & refl & refl & refl & refl & refl & refl & refl & refl & refl & refl & refl & refl & refl & refl & refl & refl & refl & refl & refl & nil

pub examples-hold : ExamplesHold
unfolding examples every-rule
examples-hold = refl & refl & refl & refl & refl & refl & refl & refl & nil

pub runs-play : RunsPlay
unfolding runs every-rule
runs-play = refl & refl & refl & refl & refl & refl & refl & refl & refl & refl & refl & refl & refl & refl & refl & refl & refl & refl & nil

pub faults_told : Each Holds faults
unfolding faults every-rule
faults_told = refl & refl & refl & refl & refl & refl & refl & refl & refl & refl & refl & refl & refl & refl & refl & refl & refl & refl & refl & refl & refl & refl & refl & refl & refl & refl & refl & nil

pub run_faults_told : Each Plays run_faults
unfolding run_faults every-rule
run_faults_told = refl & refl & refl & refl & refl & refl & refl & nil

pub quotients_hold : Each Holds quotients
unfolding quotients every-rule
quotients_hold = refl & refl & refl & refl & refl & refl & refl & refl & refl & refl & refl & refl & refl & refl & refl & refl & refl & refl & refl & refl & refl & refl & nil

pub quotient_runs_play : Each Plays quotient_runs
unfolding quotient_runs every-rule
quotient_runs_play = refl & refl & refl & refl & refl & refl & nil

pub budgets_hold : Each Holds budgets
unfolding budgets with_budget powers every-rule
budgets_hold = refl & refl & refl & refl & refl & refl & refl & refl & refl & refl & refl & refl & refl & refl & refl & refl & nil
