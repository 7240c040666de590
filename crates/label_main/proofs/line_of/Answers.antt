-- What the search leaves of `label_main::line_of`.
use native.Mathlib.Omega.{arith}
use Rattle.rules.specs.Product.{line}
use Rattle.label.specs.Shape.{answer_of}
use Rattle.writing.proofs.Five.{five-length}
use Rattle.label_main.proofs.Laws.{line-holds}
use Rattle.label_main.proofs.line_of.Goals as goal

pub returns : goal.returns
returns c =
    let a = c.args.a in
    let short = five-length (answer_of a) (omega arith) (omega arith) (omega arith) (omega arith) (omega arith) in
    line-holds (line (answer_of a)) _ short c.put_five-length.ensures
