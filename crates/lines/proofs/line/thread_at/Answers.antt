-- What the search leaves of `lines::line::thread_at`.
use Rattle.lines.proofs.WordLines.{thread-put}
use Rattle.lines.proofs.line.thread_at.Goals as goal

pub returns-clause-lines : goal.returns-clause-lines
returns-clause-lines c =
    thread-put _ _ _ c.in_ok-end.ensures.reads _ _ _ _ _ c.in_ok-place.ensures.reads c.registers_ahead.ensures c.put_one.ensures
    c.past.ensures
