-- What the search leaves of `retime_main::lines::put_sheet`.
use Rattle.retime_main.proofs.Laws.{no-sheet, that-sheet}
use Rattle.retime_main.proofs.lines.put_sheet.Goals as goal

pub returns-then-refusal-ne0 : goal.returns-then-refusal-ne0
returns-then-refusal-ne0 c =
    no-sheet _ _ _ _ c.if-refusal-ne0.true

pub returns : goal.returns
returns c =
    that-sheet _ _ _ _ _ _ c.if-refusal-ne0.false c.put_bytes.ensures
