-- What the search leaves of `print::zumbeiry_print`.
use Rattle.std.proofs.Common.{ap, ◌∙◌}
use Rattle.rules.specs.Base.{at_front}
use Rattle.printed.specs.Print.{Printing}
use Rattle.writing.specs.Out.{three}
use Rattle.print.proofs.zumbeiry_print.Goals as goal

pub returns-clause-three_in : goal.returns-clause-three_in
returns-clause-three_in c =
    let is = c.print_sheet-x.ensures.text_after in
    record {
      refusal_is = ap (λ (x : Printing). x.refusal) is;
      numbers_are = (rw c.from.ensures at c.put_front.ensures) ∙ ap (λ (x : Printing). at_front (three x.refusal x.place x.written) c.args.answer.now) is;
    }

pub returns-clause-leaves : goal.returns-clause-leaves
returns-clause-leaves c = ap (λ (x : Printing). x.text) c.print_sheet-x.ensures.text_after

pub returns-clause-prints_well : goal.returns-clause-prints_well
returns-clause-prints_well c = c.print_sheet-x.ensures.prints_well
