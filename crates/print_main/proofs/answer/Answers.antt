-- What the search leaves of `print_main::answer`.
use Rattle.print_main.proofs.Laws.{lent-answer, told_text, told-inside, told_line}
use Rattle.print_main.proofs.answer.Goals as goal

pub returns : goal.returns
returns c =
    let s = c.args.sheet.now in
    let is = lent-answer s _ c.print_sheet-x.ensures.text_after c.requires.0 in
    let line = c.put_refusal-said.ensures in
    record {
      text_after = told_text s _ is;
      written_in_bounds = told-inside s _ is;
      writes = told_line s _ is _ _ _ line.writes;
      said_in_bounds = line.upper_bound c.requires.1;
    }
