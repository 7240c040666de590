-- What the search leaves of `mend::place::original_place`.
use Rattle.std.proofs.Common.{arith, refl}
use Rattle.mended.specs.Mend.{mended}
use Rattle.mend.proofs.place.Laws.{turn-found, turn_end, turn-field, next-ends}
use Rattle.mend.proofs.writer.Laws.{field-within}
use Rattle.mend.proofs.place.original_place.Goals as goal

pub loop-q-init : goal.loop-q-init
unfolding mended
loop-q-init c =
    (omega arith, c.requires, tt, refl)

pub returns-in-Break : goal.returns-in-Break
returns-in-Break c =
    let i = c.loop-q.invariant in
    turn-found c.args.s.now c.loop-q.last c.loop-q.at c.loop-q.p i.0 i.2 i.3 cc

pub returns-then-not-whole_field_at : goal.returns-then-not-whole_field_at
returns-then-not-whole_field_at c =
    let i = c.loop-q.invariant in
    turn_end c.args.s.now c.loop-q.last c.loop-q.at c.loop-q.p i.0 i.2 i.3 (cc) c.whole_field_at.ensures c.if-not-whole_field_at.true

pub loop-q-preserved : goal.loop-q-preserved
loop-q-preserved c =
    let i = c.loop-q.invariant in
    let e = c.behind-at.ensures in
    rw e (
      field-within c.args.s.now c.loop-q.at (cc),
      i.1,
      next-ends _ _ c.open_after-last.ensures.last,
      turn-field c.args.s.now c.loop-q.last c.loop-q.at c.loop-q.p i.0 i.2 i.3 (cc) c.whole_field_at.ensures c.if-not-whole_field_at.false
          c.open_after-last.ensures.last,
    )
