-- What the search leaves of `lines::line::halt_at`.
use Rattle.lines.proofs.WordLines.{halt-put}
use Rattle.lines.proofs.line.halt_at.Goals as goal

pub returns-clause-lines : goal.returns-clause-lines
returns-clause-lines c =
    halt-put _ _ _ c.in_ok-end.ensures.reads _ _ _ _ _ c.in_ok-place.ensures.reads c.put_front.ensures c.past.ensures
