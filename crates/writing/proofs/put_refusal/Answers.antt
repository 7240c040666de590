-- What the search leaves of `writing::put_refusal`.
use Rattle.writing.proofs.Line.{no-refusal, one-refusal}
use Rattle.writing.proofs.put_refusal.Goals as goal

pub returns-then-refusal-eq0-clause-writes : goal.returns-then-refusal-eq0-clause-writes
returns-then-refusal-eq0-clause-writes c =
    no-refusal _ _ _ c.if-refusal-eq0.true

pub returns-clause-writes : goal.returns-clause-writes
returns-clause-writes c =
    one-refusal _ _ c.if-refusal-eq0.false _ _ _ c.put_line.ensures.writes
