-- What the search leaves of `lines::line::values_at`.
use Rattle.lines.proofs.LineLaws.{range-put}
use Rattle.lines.proofs.line.values_at.Goals as goal

pub returns-clause-lines : goal.returns-clause-lines
returns-clause-lines c =
    rw c.fits.ensures (range-put _ _ _ _ _ _ _ _ _ _ c.in_ok-x.ensures.result_value c.put_pair.ensures c.past.ensures)
