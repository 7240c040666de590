-- What the search leaves of `lines::line::locks_at`.
use Rattle.lines.proofs.LineLaws.{locks-put}
use Rattle.lines.proofs.line.locks_at.Goals as goal

pub returns-clause-lines : goal.returns-clause-lines
returns-clause-lines c =
    locks-put _ _ _ _ _ _ _ _ c.in_ok-n.ensures.result_value c.put_small_field.ensures c.past.ensures
