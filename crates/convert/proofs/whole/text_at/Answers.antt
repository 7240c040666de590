-- What the search leaves of `convert::whole::text_at`.
use Rattle.convert.proofs.TextLaws.{text-made}
use Rattle.convert.proofs.whole.text_at.Goals as goal

pub returns-clause-makes : goal.returns-clause-makes
returns-clause-makes c =
    text-made _ _ _ _ _ _ c.in_ok-h.ensures.heads c.head_at.auto.out _ _ c.args.target _ _ c.settled-first.ensures.so_far
    c.lines_at.ensures.made_from
