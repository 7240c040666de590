-- What the search opens where the code reads: the rules' readers of a line, and what is said of what was read and written.
use Rattle.rules.specs.Encoding as E
use Rattle.text.specs.Words as W
use Rattle.text.specs.Lines as L
use Rattle.text.specs.Convert as C
use Rattle.scan.specs.Writing as S
use Rattle.lines.specs.Writing.{Acts, Lines}

unfoldable pub readings : Unit {0}
unfolding W.then_read W.map_read W.line_end W.newline L.range L.head_line L.transfer L.jump L.assignment
    E.code_of E.encode_operands C.action_fits S.Builds Acts Lines
readings = tt
