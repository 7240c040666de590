-- What the search leaves of `writing::put_element`.
use Rattle.writing.proofs.Written.{put_in, put_out}
use Rattle.writing.proofs.put_element.Goals as goal

pub returns-then-at-out : goal.returns-then-at-out
returns-then-at-out g c =
    put_in _ _ _ c.if-at-out.true

pub returns : goal.returns
returns g c =
    put_out _ _ _ c.if-at-out.false
