-- What the search leaves of `mend::writer::put_halt`.
use Rattle.mend.proofs.writer.Laws.{halt-put, none-put}
use Rattle.mend.proofs.writer.put_halt.Goals as goal

pub returns-in_default : goal.returns-in_default
returns-in_default c =
    none-put _ _ _ _ _ cc

pub returns : goal.returns
returns c =
    halt-put _ _ _ _ _ (cc) c.put_bytes.ensures c.put_change.ensures
