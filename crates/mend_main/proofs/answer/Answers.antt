-- What the search leaves of `mend_main::answer`.
use Rattle.std.proofs.Common.{◌≡◌, ℕ, length, replicate, sym}
use Rattle.std.proofs.lemmas.List.{length-replicate, length-take-le}
use Rattle.mend_main.proofs.Laws.{sheet-told, sheet-inside, list-inside, text-told, text-inside}
use Rattle.mend_main.specs.Text.{lent_numbers}
use Rattle.mend_main.proofs.answer.Goals as goal

lent : length {A = ℕ} (replicate lent_numbers 0) ≡ lent_numbers
lent = length-replicate {A = ℕ} lent_numbers 0

pub slice_bounds-changes-end : goal.slice_bounds-changes-end
slice_bounds-changes-end c =
    list-inside c.args.sheet.now c.mend_sheet-m.ensures.changes_after c.requires.0 lent

pub slice_bounds-put_changes-end : goal.slice_bounds-put_changes-end
slice_bounds-put_changes-end c =
    sym (length-take-le _ _ (list-inside c.args.sheet.now c.mend_sheet-m.ensures.changes_after c.requires.0 lent))

pub returns-clause-mended_after : goal.returns-clause-mended_after
returns-clause-mended_after c =
    sheet-told c.args.sheet.now c.mend_sheet-m.ensures.changes_after c.requires.0 lent

pub returns-clause-written_in_bounds : goal.returns-clause-written_in_bounds
returns-clause-written_in_bounds c =
    sheet-inside c.args.sheet.now c.mend_sheet-m.ensures.changes_after c.requires.0 lent

pub returns-clause-writes : goal.returns-clause-writes
returns-clause-writes c =
    text-told c.args.sheet.now c.mend_sheet-m.ensures.changes_after c.requires.0 lent
    _ _ _ _ _ c.put_line-end.ensures.writes c.put_changes-said.ensures.writes

pub returns-clause-said_in_bounds : goal.returns-clause-said_in_bounds
returns-clause-said_in_bounds c =
    let line = c.put_line-end.ensures in
    let list = c.put_changes-said.ensures in
    text-inside c.args.sheet.now c.mend_sheet-m.ensures.changes_after c.requires.0 lent
    _ _ _ _ _ line.writes list.writes c.requires.1 line.upper_bound list.upper_bound
