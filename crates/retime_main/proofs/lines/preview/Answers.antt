-- What the search leaves of `retime_main::lines::preview`.
use mathlib.Core.Path.{refl, ap}
use native.Mathlib.Omega.{arith}
use lib.ListN.{length}
use Rattle.label.specs.Shape.{answer_of}
use Rattle.writing.proofs.Five.{five-length}
use Rattle.retime_main.proofs.Laws.{previewed, two-written, two-fit}
use Rattle.retime_main.proofs.lines.preview.Goals as goal

pub returns-clause-writes : goal.returns-clause-writes
returns-clause-writes c =
    let a = c.args in
    let checked = c.check-now in
    let previews = c.preview_times-then in
    let x = answer_of checked.result in
    let y = answer_of previews.result in
    let v = c.put_answer-second.ensures in
    let w = c.put_answer.ensures in
    two-written x y _ _ _ _ _ v w a.sheet.now a.a.thread a.a.statement a.a.least a.a.greatest checked.ensures.follows_the_rules
    (previewed _ _ _ _ _ _ _ y previews.ensures.result_value refl (ap length checked.ensures.all_zeros))

pub returns-clause-upper_bound : goal.returns-clause-upper_bound
returns-clause-upper_bound c =
    let checked = c.check-now in
    let previews = c.preview_times-then in
    let ok = checked.type_inv in
    let okay = previews.type_inv in
    let x = answer_of checked.result in
    let y = answer_of previews.result in
    let v = c.put_answer-second.ensures in
    let w = c.put_answer.ensures in
    two-fit x y _ _ _ _ _ v w (five-length x (omega arith) (omega arith) (omega arith) (omega arith) (omega arith))
    (five-length y (omega arith) (omega arith) (omega arith) (omega arith) (omega arith)) c.requires
