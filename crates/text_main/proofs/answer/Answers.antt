-- What the search leaves of `text_main::answer`.
use Rattle.text_main.proofs.Laws.{lent-answer, told-sheet, told-inside, told_line}
use Rattle.text_main.proofs.answer.Goals as goal

pub returns : goal.returns
returns c =
    let s = c.args.text.now in
    let is = lent-answer s _ c.convert_text-x.ensures.sheet_after c.requires.0 in
    let line = c.put_refusal-said.ensures in
    record {
      sheet_after = told-sheet s _ is;
      written_in_bounds = told-inside s _ is;
      writes = told_line s _ is _ _ _ line.writes;
      said_in_bounds = line.upper_bound c.requires.1;
    }
