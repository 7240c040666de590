-- What the search leaves of `retime_main::lines::change`.
use mathlib.Core.Path.{◌≡◌, ap, ◌∙◌}
use native.Mathlib.Omega.{arith}
use lib.ListN.{length}
use Rattle.rules.specs.Base.{nil, ◌&◌}
use Rattle.writing.specs.Out.{out_of, write}
use Rattle.writing.proofs.Written.{then-writes}
use Rattle.retimed.specs.Retime.{Changed}
use Rattle.retime_main.specs.Line.{change_text, written}
use Rattle.retime_main.proofs.Laws.{text-fits}
use borrow.Author.Rules.{rules}
use Rattle.retime_main.proofs.lines.change.Goals as goal

pub returns-clause-writes : goal.returns-clause-writes
unfolding written change_text
returns-clause-writes c =
    let a = c.args in
    let e = c.change_times-c.ensures.sheet_after in
    let w = then-writes _ _ _ _ _ _ _ _ c.put_change-end.ensures c.put_sheet.ensures in
    w ∙ ap (λ (x : Changed). write (change_text x) (out_of a.out.now 0)) e

pub returns-clause-upper_bound : goal.returns-clause-upper_bound
unfolding written change_text
returns-clause-upper_bound c =
    let a = c.args in
    let ok = c.change_times-c.type_inv in
    let e = c.change_times-c.ensures.sheet_after in
    let same : length c.change_times-c.new.sheet ≡ length a.sheet.now = search rules in
    let pre = c.requires in
    let w = then-writes _ _ _ _ _ _ _ _ c.put_change-end.ensures c.put_sheet.ensures in
    text-fits _ (omega arith & omega arith & omega arith & omega arith & omega arith & omega arith & omega arith & omega arith & nil)
    (omega arith) _ _ (omega (arith, pre.0)) _ _ _ pre.1 w
