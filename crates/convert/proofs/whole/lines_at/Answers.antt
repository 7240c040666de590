-- What the search leaves of `convert::whole::lines_at`.
use mathlib.Core.Path.{sym, ◌∙◌}
use Rattle.scan.proofs.Readings.{exits}
use Rattle.convert.specs.Whole.{MadeFrom}
use Rattle.convert.proofs.LineByLine.{loop-start, loop-more, going-over, going-stop, line-further}
use Rattle.convert.proofs.whole.lines_at.Goals as goal

pub loop-due-init : goal.loop-due-init
loop-due-init c = loop-start _ _ _ _ _ c.requires.0 c.requires.1 c.requires.2 c.requires.3

pub returns-in_err-x-clause-made_from : goal.returns-in_err-x-clause-made_from
returns-in_err-x-clause-made_from c =
    λ x g. exits (MadeFrom x _ _ _ _) c.from_residual.ensures.1
    (going-stop _ _ x _ _ _ _ _ (c.loop-due.invariant.going x g) _ (sym c.is_over.ensures ∙ c.loop-due-test.true) c.in_err-x.ensures.lays)

pub loop-due-smaller : goal.loop-due-smaller
loop-due-smaller c =
    line-further _ _ _ _ c.loop-due.invariant.inside c.in_ok-x.ensures.onward_field.inside c.in_ok-x.ensures.lays.is

pub loop-due-preserved : goal.loop-due-preserved
loop-due-preserved c =
    loop-more _ _ _ _ _ _ _ _ _ c.loop-due.invariant _ _ _ _ _ _ _ c.in_ok-x.ensures.onward_field.inside c.settled-w.ensures.end_bound.0
    c.settled-w.ensures.end_bound.1 c.line_behind.auto.out c.settled-w.auto.out (sym c.is_over.ensures ∙ c.loop-due-test.true)
    c.in_ok-x.ensures.lays c.settled-w.ensures.so_far

pub returns-clause-made_from : goal.returns-clause-made_from
returns-clause-made_from c =
    λ x g. going-over _ _ x _ _ _ _ _ (c.loop-due.invariant.going x g) (sym c.is_over.ensures ∙ c.loop-due-test.false)
