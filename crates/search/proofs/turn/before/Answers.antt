-- What the search leaves of `search::turn::before`.
use mathlib.Core.Path.{◌≡◌, sym, ◌∙◌}
use Prim.Native.Nat.{◌≤◌, ◌<◌, max}
use native.Mathlib.Omega.{arith}
use Rattle.std.proofs.Common.{rules}
use Rattle.search.proofs.EventLaws.{act-asks, event-makes, fetched-for, none-halted, none-late}
use Rattle.search.proofs.turn.before.Goals as goal

pub returns-in_default-clause-makes : goal.returns-in_default-clause-makes
returns-in_default-clause-makes c =
    let a = c.args in
    (λ s e k. rw (none-halted a.taken.now a.t c.requires.0 c.requires.1.0 a.latest.0 a.bound.0
    (sym c.requires.1.1.0 ∙ c.in_default.is)) k)

pub returns-then-too_late-clause-makes : goal.returns-then-too_late-clause-makes
returns-then-too_late-clause-makes c =
    let a = c.args in
    let from : c.max-from.result.0 ≡ max a.latest.0 c.in-Some.earliest.0 = search rules in
    let late : a.bound.0 < c.max-from.result.0 = search rules in
    (λ s e k. rw (none-late a.taken.now a.t c.requires.0 c.requires.1.0 a.latest.0 a.bound.0 c.in-Some.earliest
    (sym c.requires.1.1.0 ∙ c.in-Some.is) (omega arith)) k)

pub act-acted-requires : goal.act-acted-requires
act-acted-requires c =
    let a = c.args in
    let in_time : c.max-from.result.0 ≤ a.bound.0 = search rules in
    let asks = act-asks a.taken.now a.t c.requires.0 c.requires.1.0 c.fetch-f.ensures c.max-from.result.0 a.bound.0 c.event-v.ensures in_time
    c.requires.1.1.1.0 in
    record { ticks = asks.0; program = asks.1.0; fetched = asks.1.1 }

pub returns-clause-makes : goal.returns-clause-makes
returns-clause-makes c =
    let a = c.args in
    let from : c.max-from.result.0 ≡ max a.latest.0 c.in-Some.earliest.0 = search rules in
    let in_time : c.max-from.result.0 ≤ a.bound.0 = search rules in
    let fetched = fetched-for a.taken.now a.t c.requires.0 c.requires.1.0 c.fetch-f.ensures c.max-from.result.0 a.bound.0
    c.event-v.ensures in
    rw c.over.ensures (event-makes a.taken.now a.t c.requires.0 c.requires.1.0 c.fetch-f.ensures c.max-from.result.0
    a.bound.0 c.event-v.ensures a.latest.0 c.in-Some.earliest (sym c.requires.1.1.0 ∙ c.in-Some.is) from in_time
    a.stack.now c.act-acted.new.stack a.later c.act-acted.result (c.act-acted.ensures.leaves _ fetched))
