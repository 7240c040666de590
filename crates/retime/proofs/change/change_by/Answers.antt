-- What the search leaves of `retime::change::change_by`.
use Rattle.std.proofs.Common.{sym, ◌∙◌}
use Rattle.retimed.proofs.Change.{statement-absent}
use Rattle.retime.proofs.Finding.{found-there, found_none}
use Rattle.retime.proofs.Changing.{may_write, found-made, found-off, given-placeless}
use Rattle.retime.proofs.change.change_by.Goals as goal

pub returns-in_default : goal.returns-in_default
returns-in_default c =
    let a = c.args in
    let (g, e, r, n) = found_none a.sheet.now c.requires a.asked.thread a.asked.statement c.in_default.ensures in
    given-placeless a.sheet.now a.asked.thread a.asked.statement a.asked.least a.asked.greatest c.from.ensures
    (statement-absent a.sheet.now a.asked.thread a.asked.statement _ g e r n)

pub returns-then-not-may_have : goal.returns-then-not-may_have
returns-then-not-may_have c =
    let a = c.args in
    let w = found-there a.sheet.now c.requires a.asked.thread a.asked.statement c.in-Some.ensures in
    given-placeless a.sheet.now a.asked.thread a.asked.statement a.asked.least a.asked.greatest c.from-then-not-may_have.ensures
    (found-off w a.asked.least a.asked.greatest (sym c.may_have.ensures ∙ c.if-not-may_have.true))

pub write_times-requires : goal.write_times-requires
write_times-requires c =
    let a = c.args in
    let w = found-there a.sheet.now c.requires a.asked.thread a.asked.statement c.in-Some.ensures in
    may_write w a.asked.least a.asked.greatest (sym c.may_have.ensures ∙ c.if-not-may_have.false)

pub returns : goal.returns
returns c =
    let a = c.args in
    let w = found-there a.sheet.now c.requires a.asked.thread a.asked.statement c.in-Some.ensures in
    found-made w a.asked.least a.asked.greatest (sym c.may_have.ensures ∙ c.if-not-may_have.false) c.write_times.ensures
