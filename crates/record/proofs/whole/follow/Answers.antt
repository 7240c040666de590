-- What the search leaves of `record::whole::follow`.
use Rattle.std.proofs.Common.{sym, ◌∙◌}
use Rattle.recorded.specs.Follow as F
use Rattle.record.proofs.whole.Start.{sheet-refused, promised}
use Rattle.record.proofs.whole.follow.Goals as goal

pub returns-in-Err-clause-result_value : goal.returns-in-Err-clause-result_value
returns-in-Err-clause-result_value c =
    c.refused.ensures ∙ sheet-refused c.args.sheet.now c.args.recorded.now c.in-Err.f (sym c.in-Err.ensures)

pub returns-in-Ok-clause-result_value : goal.returns-in-Ok-clause-result_value
unfolding F.follow
returns-in-Ok-clause-result_value c = c.follow_index.ensures

pub returns-in-Ok-clause-ends_in_label : goal.returns-in-Ok-clause-ends_in_label
unfolding F.follow
returns-in-Ok-clause-ends_in_label c = (promised c.args.sheet.now c.args.recorded.now _ c.follow_index.ensures).1.0
