-- What the search leaves of `record::starting::start_replay`.
use Rattle.std.proofs.lemmas.Result.{err_from_is_err_and}
use Rattle.record.proofs.starting.Laws.{vars-refused, threads-refused, started}
use Rattle.record.proofs.starting.start_replay.Goals as goal

pub returns-in_err-vars-clause-result_value : goal.returns-in_err-vars-clause-result_value
returns-in_err-vars-clause-result_value c =
    let a = c.args in
    let p = err_from_is_err_and c.from_residual.result c.from_residual.ensures.1 in
    rw (p.1, p.2) (vars-refused a.sheet.now c.requires.0 a.first.now c.requires.1 a.r.now c.in_err-vars.ensures)

pub returns-in_err-threads-clause-result_value : goal.returns-in_err-threads-clause-result_value
returns-in_err-threads-clause-result_value c =
    let a = c.args in
    let p = err_from_is_err_and c.from_residual-in_err-threads.result c.from_residual-in_err-threads.ensures.1 in
    rw (p.1, p.2) (threads-refused a.sheet.now c.requires.0 a.first.now c.requires.1 a.r.now c.in_ok-vars.vars c.in_ok-vars.at
    c.in_ok-vars.ensures c.in_err-threads.ensures)

pub returns-clause-result_value : goal.returns-clause-result_value
returns-clause-result_value c =
    let a = c.args in
    started a.sheet.now c.requires.0 a.first.now c.requires.1 a.r.now c.in_ok-vars.vars c.in_ok-vars.at c.in_ok-vars.ensures
    c.in_ok-threads.threads c.in_ok-threads.at c.in_ok-threads.ensures
