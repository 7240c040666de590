-- What the search leaves of `notation::conditions::nots_at`.
use Rattle.scan.proofs.WordLaws.{byte-same, byte-other}
use Rattle.notation.proofs.NotLaws.{nots-start, nots-end, nots-more}
use Rattle.notation.proofs.conditions.nots_at.Goals as goal

pub loop-out-init : goal.loop-out-init
loop-out-init c =
    let on = c.spaces_end.ensures.onward in
    nots-start _ _ _ _ _ c.spaces_end.ensures.reads on.0 on.1 c.requires.1 c.requires.2

pub loop-out-preserved : goal.loop-out-preserved
loop-out-preserved c =
    let m = byte-same _ _ _ c.get.result c.get.ensures.lookup.3 c.loop-out-test.ensures in
    let on = c.spaces_end-in-loop-out.ensures.onward in
    nots-more c.loop-out.invariant _ m.0 m.1 c.put.ensures c.put.auto.out c.past.ensures c.spaces_end-in-loop-out.ensures.reads on.0 on.1

pub returns : goal.returns
returns c = nots-end c.loop-out.invariant (byte-other _ _ _ c.get.result c.get.ensures.lookup.3 c.loop-out-test.ensures)
