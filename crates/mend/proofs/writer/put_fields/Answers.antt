-- What the search leaves of `mend::writer::put_fields`.
use mathlib.Core.Path.{refl}
use native.Mathlib.Omega.{arith}
use borrow.Author.Rules.{rules}
use Rattle.mend.proofs.Outcome.{end-inside, written_bytes}
use Rattle.mend.proofs.writer.Laws.{field-within, so-far-none, so-far-field, so-far-end, rest_put}
use Rattle.mend.proofs.writer.put_fields.Goals as goal

pub loop-out-init : goal.loop-out-init
loop-out-init c =
    (omega arith, tt, c.requires, refl, refl, so-far-none _)

pub returns-then-not-whole_field_at : goal.returns-then-not-whole_field_at
returns-then-not-whole_field_at c =
    let i = c.loop-out.invariant in
    let p = so-far-end _ i.5 i.0 c.whole_field_at.ensures c.put_halt-ends.ensures c.if-not-whole_field_at.true
    (rest_put c.args.s.now c.loop-out.at _ _ _ c.put_bytes.ensures) in
    record { puts = p; front = λ room. (end-inside c.args.s.now p i.2 room, written_bytes c.args.s.now p i.2 room) }

pub loop-out-preserved : goal.loop-out-preserved
loop-out-preserved c =
    let i = c.loop-out.invariant in
    let e = c.behind-at.ensures in
    rw e (
      field-within c.args.s.now c.loop-out.at (cc),
      c.open_after-last.ensures.inside,
      i.2,
      search rules,
      search rules,
      so-far-field _ i.5 i.0 c.whole_field_at.ensures c.put_halt-ends.ensures c.if-not-whole_field_at.false c.put_field-ends.ensures
          c.open_after-last.ensures.last,
    )
