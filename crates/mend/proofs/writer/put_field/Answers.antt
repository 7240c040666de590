-- What the search leaves of `mend::writer::put_field`.
use Rattle.mend.proofs.writer.Laws.{ends-room, field-exchanged, field-copied}
use native.Mathlib.Omega.{arith}
use Rattle.mend.proofs.writer.put_field.Goals as goal

pub put_exchanged-requires : goal.put_exchanged-requires
put_exchanged-requires c =
    let arg = c.args in (
      omega arith,
      let h = ends-room arg.s.now arg.at c.is_reversed.ensures c.if-is_reversed.true c.low_end.ensures c.end_size.ensures
          in let e = c.behind-end.ensures in omega arith,
      let e = c.behind-end.ensures in let g = c.requires in omega arith,
    )

pub returns-then-is_reversed : goal.returns-then-is_reversed
returns-then-is_reversed c =
    let arg = c.args in
    field-exchanged arg.s.now arg.at c.is_reversed.ensures arg.out.now arg.list.now arg.ends c.if-is_reversed.true c.behind-end.ensures
    c.low_end.ensures c.end_size.ensures c.put_exchanged.ensures c.put_change.ensures

pub returns : goal.returns
returns c =
    let arg = c.args in
    field-copied arg.s.now arg.at c.is_reversed.ensures arg.out.now arg.list.now arg.ends c.if-is_reversed.false c.behind-end.ensures
    c.put_bytes.ensures
