-- What the search leaves of `label::check`.
use mathlib.Core.Path.{◌≡◌, ap, ◌∙◌}
use lib.ListN.{length}
use Rattle.rules.specs.Search.{answer}
use Rattle.label.specs.Shape.{answer_of, answer_to}
use Rattle.label.proofs.Laws.{answer-is, window-inside, holds-of-sheet}
use Rattle.label.proofs.check.Goals as goal
use Rattle.label.proofs.check.Goals.{After-answered}

-- the answer is that of the rules
follows : (c : After-answered) → answer_of c.answered.result ≡ answer c.args.sheet.now (length c.args.work.now)
follows c = c.answered.ensures ∙ ap answer_to c.search_sheet.ensures.result_value ∙ answer-is c.args.sheet.now (length c.args.work.now)

pub returns-clause-follows_the_rules : goal.returns-clause-follows_the_rules
returns-clause-follows_the_rules c = follows (goal.at.returns-clause-follows_the_rules c).After-answered

pub returns-clause-window_inside : goal.returns-clause-window_inside
returns-clause-window_inside c = window-inside _ _ _ (follows (goal.at.returns-clause-window_inside c).After-answered)

pub returns-clause-holds_of_sheet : goal.returns-clause-holds_of_sheet
returns-clause-holds_of_sheet c = holds-of-sheet _ _ _ (follows (goal.at.returns-clause-holds_of_sheet c).After-answered)
