-- What the search leaves of `writing::put_line`.
use Rattle.std.proofs.Common.{◌+◌, ◌<◌, length, arith}
use Rattle.writing.proofs.Line.{number-at, last-at, none_left, line-bounded}
use Rattle.writing.proofs.put_line.Goals as goal
use Rattle.writing.proofs.put_line.Goals.{then-i-numbers, else-i-numbers}

pub loop-i-preserved : goal.loop-i-preserved
loop-i-preserved c m r w =
    c.loop-i.invariant m r (elim c.if-i-numbers.branch [
      | then-i-numbers b ↦ last-at _ _ _ _ _ _ _ _ b.if-i-numbers.true (rw b.behind-is at c.put_number-at.ensures) w
      | else-i-numbers b ↦
          let more : c.loop-i.i + 1 < length c.args.numbers.now = omega arith in
          number-at _ _ _ _ _ _ _ _ more (rw b.behind-is at c.put_number-at.ensures) w
    ])

pub returns : goal.returns
returns c =
    let w = c.loop-i.invariant _ _ (none_left _ _ c.loop-i-test.false _ _) in
    record { writes = w; upper_bound = line-bounded c.args.numbers.now (λ i. let f = c.type_inv.numbers i in omega arith) _ _ _ _ w }
