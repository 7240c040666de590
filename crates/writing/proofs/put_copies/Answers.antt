-- What the search leaves of `writing::put_copies`.
use Rattle.std.proofs.Common.{◌≡◌, ◌<◌, length, arith}
use Rattle.writing.proofs.Written.{repeat-none, repeat-next, repeat-all}
use Rattle.writing.proofs.put_copies.Goals as goal

pub loop-i-init : goal.loop-i-init
loop-i-init g c =
    (omega arith, repeat-none _ _ _)

pub loop-i-preserved : goal.loop-i-preserved
loop-i-preserved g c =
    let room : c.loop-i.i < length c.loop-i.out = omega arith in
    (omega arith, repeat-next _ _ _ _ _ c.loop-i.auto.i room c.loop-i.invariant.1)

pub returns : goal.returns
returns g c =
    let end : c.loop-i.i ≡ c.max.result = omega arith in
    rw (← end) (repeat-all _ _ _ _ _ c.loop-i-test.false c.loop-i.invariant.0 c.loop-i.invariant.1)
