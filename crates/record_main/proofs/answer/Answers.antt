-- What the search leaves of `record_main::answer`.
use native.Mathlib.Omega.{arith}
use Rattle.std.proofs.Common.{◌≡◌, rules}
use Rattle.recorded.specs.Follow.{bit}
use Rattle.record.specs.Shape.{followed_of}
use Rattle.record_main.proofs.Laws.{line-as, line-fits, printed-written}
use Rattle.record_main.proofs.answer.Goals as goal

pub returns-clause-writes : goal.returns-clause-writes
returns-clause-writes c =
    let a = c.args in
    let x = followed_of c.follow-a.result in
    let d : c.from-2.result ≡ bit c.follow-a.result.finished = search rules in
    printed-written a.sheet.now a.recorded.now x c.follow-a.ensures.result_value _ _ _
    (line-as x _ _ c.from.ensures d _ _ _ c.put_line.ensures.writes)

pub returns-clause-upper_bound : goal.returns-clause-upper_bound
returns-clause-upper_bound c =
    let g = c.follow-a.type_inv in
    let x = followed_of c.follow-a.result in
    let d : c.from-2.result ≡ bit c.follow-a.result.finished = search rules in
    line-fits x (omega arith) (omega arith) (omega arith) _ _ _ c.requires
    (line-as x _ _ c.from.ensures d _ _ _ c.put_line.ensures.writes)
