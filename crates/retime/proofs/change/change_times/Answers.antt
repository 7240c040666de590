-- What the search leaves of `retime::change::change_times`.
use Rattle.std.proofs.Common.{rules}
use Rattle.rules.proofs.FieldAt.{all-below}
use Rattle.retimed.proofs.Claims.{reads-retimed}
use Rattle.retimed.proofs.TakeBack.{comes_back}
use Rattle.retime.proofs.change.change_times.Goals as goal

pub returns-clause-reads_retimed : goal.returns-clause-reads_retimed
returns-clause-reads_retimed c =
    let a = c.args in
    reads-retimed a.sheet.now (all-below a.sheet.now (λ p. search rules)) a.asked.thread a.asked.statement a.asked.least a.asked.greatest

pub returns-clause-comes_back : goal.returns-clause-comes_back
returns-clause-comes_back c =
    let a = c.args in
    comes_back a.sheet.now (all-below a.sheet.now (λ p. search rules)) a.asked.thread a.asked.statement a.asked.least a.asked.greatest
