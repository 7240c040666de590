-- What the search leaves of `search::turn::turn`.
use mathlib.Core.Path.{◌≡◌, refl, ap}
use Prim.Native.Nat.{◌≤◌, ◌<◌}
use native.Mathlib.Omega.{arith}
use Rattle.std.proofs.Common.{rules, Err}
use Rattle.std.proofs.lemmas.Result.{err_from_is_err_and}
use Rattle.rules.specs.Search as S
use Rattle.search.specs.Taken.{program_of, rules_state}
use Rattle.search.specs.Turn.{events_in}
use Rattle.search.proofs.TurnLaws.{turns-failed, turns-made}
use Rattle.search.proofs.WholeTurn.{turn-ended, turn-stuck, turn-past, turn-follows, limit-small, low_small}
use Rattle.search.proofs.turn.turn.Goals as goal
use Rattle.search.proofs.turn.turn.Goals.{Else-lt}

pub returns-in_default-clause-turns : goal.returns-in_default-clause-turns
returns-in_default-clause-turns c = rw (turn-ended c.args.taken.now _ c.survey_threads.ensures.surveys c.in_default.is) (refl, (refl, refl))

pub returns-then-survey-clause-turns : goal.returns-then-survey-clause-turns
returns-then-survey-clause-turns c = rw (turn-stuck c.args.taken.now _ c.survey_threads.ensures.surveys c.in-Some.bound c.in-Some.is
    c.if-survey.true) (ap Err c.from.ensures, refl)

pub returns-then-lt-clause-turns : goal.returns-then-lt-clause-turns
returns-then-lt-clause-turns c =
    let x = c.args.taken.now in
    let limit = c.requires.0.limit in
    let late : x.plan.limit.0 < c.in-Some.bound.0 = search rules in
    rw (turn-past x _ c.survey_threads.ensures.surveys c.in-Some.bound c.in-Some.is c.if-survey.false (omega arith))
    (ap Err c.from-then-lt.ensures, refl)

pub expand-requires : goal.expand-requires
expand-requires c =
    let x = c.args.taken.now in
    let small = limit-small x.sheet.now _ x.plan x.places.now c.requires.0 in
    let in_time : c.in-Some.bound.0 ≤ x.plan.limit.0 = search rules in (
      c.requires.0,
      (
        c.survey_threads.ensures.earliest_from,
        (
          omega arith,
          low_small x c.requires.1 c.requires.0.facts.threads_few _ c.survey_threads.ensures.surveys,
        ),
      ),
    )

-- the events come to the turn
events-turn : (c : Else-lt) → S.turn (program_of c.args.taken.now)
    (rules_state c.args.taken.now) ≡ events_in c.args.taken.now c.survey_threads.result.survey.low.0 c.in-Some.bound.0 0
events-turn c =
    let x = c.args.taken.now in
    let limit = c.requires.0.limit in
    let in_time : c.in-Some.bound.0 ≤ x.plan.limit.0 = search rules in
    turn-follows x _ c.survey_threads.ensures.surveys c.in-Some.bound c.in-Some.is c.if-survey.false (omega arith)

pub returns-in_err-expand-clause-turns : goal.returns-in_err-expand-clause-turns
returns-in_err-expand-clause-turns c =
    let p = err_from_is_err_and c.from_residual.result c.from_residual.ensures.1 in
    rw (p.1, p.2, events-turn (goal.at.returns-in_err-expand-clause-turns c).Else-lt)
    (turns-failed _ c.args.stack.now c.expand.new.stack _ _ c.in_err-expand.ensures.makes)

pub returns-clause-turns : goal.returns-clause-turns
returns-clause-turns c = rw (events-turn (goal.at.returns-clause-turns c).Else-lt) (turns-made _ c.args.stack.now c.expand.new.stack _ c.in_ok-expand.ensures.makes)
