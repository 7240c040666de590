-- What the search leaves of `retime_main::lines::take_back_in`.
use mathlib.Core.Path.{◌≡◌, ap, ◌∙◌}
use native.Mathlib.Omega.{arith}
use lib.ListN.{length}
use Rattle.rules.specs.Base.{nil, ◌&◌}
use Rattle.writing.specs.Out.{out_of, write}
use Rattle.writing.proofs.Written.{then-writes}
use Rattle.retimed.specs.TakeBack.{TakenBack}
use Rattle.retime_main.specs.Line.{back_text, written_back}
use Rattle.retime_main.proofs.Laws.{text-fits}
use borrow.Author.Rules.{rules}
use Rattle.retime_main.proofs.lines.take_back_in.Goals as goal

pub returns-clause-writes : goal.returns-clause-writes
unfolding written_back back_text
returns-clause-writes c =
    let a = c.args in
    let e = c.take_back-b.ensures.sheet_after in
    let line = c.put_line-end.ensures.writes in
    let w = then-writes _ _ _ _ _ _ _ _ line c.put_sheet.ensures in
    w ∙ ap (λ (x : TakenBack). write (back_text x) (out_of a.out.now 0)) e

pub returns-clause-upper_bound : goal.returns-clause-upper_bound
unfolding written_back back_text
returns-clause-upper_bound c =
    let a = c.args in
    let ok = c.take_back-b.type_inv in
    let e = c.take_back-b.ensures.sheet_after in
    let same : length c.take_back-b.new.sheet ≡ length a.sheet.now = search rules in
    let pre = c.requires in
    let line = c.put_line-end.ensures.writes in
    let w = then-writes _ _ _ _ _ _ _ _ line c.put_sheet.ensures in
    text-fits _ (omega arith & omega arith & nil) (omega arith) _ _ (omega (arith, pre.0)) _ _ _ pre.1 w
