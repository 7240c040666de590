-- What the search leaves of `retime::back::take_back_by`.
use Rattle.std.proofs.Common.{sym, ◌∙◌}
use Rattle.retimed.proofs.Change.{statement-absent}
use Rattle.retime.specs.Shape.{change_of}
use Rattle.retime.proofs.Finding.{found-there, found_none}
use Rattle.retime.proofs.Changing.{may_write}
use Rattle.retime.proofs.TakingBack.{back-placeless, found-off, found-since, found_back}
use Rattle.retime.proofs.back.take_back_by.Goals as goal

pub returns-in_default : goal.returns-in_default
returns-in_default c =
    let s = c.args.sheet.now in
    let d = change_of c.args.change in
    let (g, e, r, n) = found_none s c.requires d.thread d.statement c.in_default.ensures in
    back-placeless s d c.from.ensures (statement-absent s d.thread d.statement _ g e r n)

pub returns-then-not-may_have : goal.returns-then-not-may_have
returns-then-not-may_have c =
    let s = c.args.sheet.now in
    let d = change_of c.args.change in
    let w = found-there s c.requires d.thread d.statement c.in-Some.ensures in
    back-placeless s d c.from-then-not-may_have.ensures (found-off s d w (sym c.may_have.ensures ∙ c.if-not-may_have.true))

pub returns-then-not-shows : goal.returns-then-not-shows
returns-then-not-shows c =
    let s = c.args.sheet.now in
    let d = change_of c.args.change in
    let w = found-there s c.requires d.thread d.statement c.in-Some.ensures in
    back-placeless s d c.from-then-not-shows.ensures
    (found-since s d w (sym c.may_have.ensures ∙ c.if-not-may_have.false) (sym c.shows.ensures ∙ c.if-not-shows.true))

pub write_times-requires : goal.write_times-requires
write_times-requires c =
    let s = c.args.sheet.now in
    let d = change_of c.args.change in
    let w = found-there s c.requires d.thread d.statement c.in-Some.ensures in
    may_write w d.old_least d.old_greatest (sym c.may_have.ensures ∙ c.if-not-may_have.false)

pub returns : goal.returns
returns c =
    let s = c.args.sheet.now in
    let d = change_of c.args.change in
    let w = found-there s c.requires d.thread d.statement c.in-Some.ensures in
    found_back s d w (sym c.may_have.ensures ∙ c.if-not-may_have.false) (sym c.shows.ensures ∙ c.if-not-shows.false) c.write_times.ensures
