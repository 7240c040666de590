-- What the search leaves of `lines::timed::timed_at`.
use mathlib.Core.Path.{sym, ◌∙◌}
use native.Mathlib.Omega.{arith}
use Rattle.lines.specs.Writing.{Acts, Lines}
use Rattle.scan.proofs.Readings.{exits}
use Rattle.lines.proofs.ActionLaws.{and-of, and-not}
use Rattle.lines.proofs.DispatchLaws.{spaces-twice}
use Rattle.lines.proofs.TimedLaws.{timed-timeless, timed-stops, timed-endless, timed-put}
use Rattle.lines.proofs.timed.timed_at.Goals as goal

pub returns-in_err-times-clause-lines : goal.returns-in_err-times-clause-lines
unfolding Lines
returns-in_err-times-clause-lines c =
    exits (Lines _ _ _ _ _) c.from_residual.ensures.1 (timed-timeless _ c.in_err-times.ensures.result_value)

pub action_at-requires : goal.action_at-requires
action_at-requires c =
    (c.spaces_end-word.ensures.onward.1, (let e = c.spaces_end-word.ensures.reads in rw e (spaces-twice _)), omega arith, c.requires.2)

pub returns-in_err-x-clause-lines : goal.returns-in_err-x-clause-lines
unfolding Acts Lines
returns-in_err-x-clause-lines c =
    exits (Lines _ _ _ _ _) c.from_residual-in_err-x.ensures.1
    (timed-stops c.args.s.now c.args.q c.in_ok-times.times c.in_ok-times.ensures.result_value c.spaces_end-word.result
    c.spaces_end-word.ensures.reads c.in_err-x.ensures.acts)

pub returns-in_err-place-clause-lines : goal.returns-in_err-place-clause-lines
unfolding Lines
returns-in_err-place-clause-lines c =
    exits (Lines _ _ _ _ _) c.from_residual-in_err-place.ensures.1
    (timed-endless c.args.s.now c.args.q c.in_ok-times.times c.in_ok-times.ensures.result_value _ c.spaces_end-word.ensures.reads _ _ _ _
    c.in_ok-x.ensures.acts c.in_err-place.ensures.reads)

pub returns-then-is_small-clause-lines : goal.returns-then-is_small-clause-lines
returns-then-is_small-clause-lines c =
    timed-put _ _ _ c.in_ok-times.ensures.result_value _ c.spaces_end-word.ensures.reads _ _ _ _ _ c.requires.2 c.action_at.auto.out
    c.past.ensures _ _ _ c.in_ok-x.ensures.acts
    c.in_ok-place.ensures.reads c.put_timed.ensures (and-of (sym c.is_small.ensures ∙ c.if-is_small.true))

pub returns-else-is_small-clause-lines : goal.returns-else-is_small-clause-lines
returns-else-is_small-clause-lines c =
    timed-put _ _ _ c.in_ok-times.ensures.result_value _ c.spaces_end-word.ensures.reads _ _ _ _ _ c.requires.2 c.action_at.auto.out
    c.past.ensures _ _ _ c.in_ok-x.ensures.acts
    c.in_ok-place.ensures.reads c.put_timed.ensures (c.is_small.ensures ∙ and-not _ (sym c.is_small.ensures ∙ c.if-is_small.false))
