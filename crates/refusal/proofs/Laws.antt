-- The code's refusals stand for those of the rules, each for its own. Assumes nothing.
use mathlib.Core.Path.{◌≡◌, refl}
use Rattle.rules.specs.Refusal as R
use Rattle.refusal.specs.Shape.{refusal_of, rule_of}
use Rattle.refusal.specs.declared.Refusal.{Refusal}
use Rattle.refusal.specs.declared.Refusal.TheVariants.{Short, OutOfTurn, BadLength, OffRange, NoSuchName, BadExpression, NoHalt, TooMany, TooLong, NoReading, Stuck, PastLimit, OutOfSteps, OutOfRoom, LabelBroken, OffScale, ChangedSince, OutputFull, Unreadable, NotRun}

pub rule-of-refusal : (r : R.Refusal) → rule_of (refusal_of r) ≡ r
rule-of-refusal R.short = refl
rule-of-refusal R.out_of_turn = refl
rule-of-refusal R.bad_length = refl
rule-of-refusal R.off_range = refl
rule-of-refusal R.no_such_name = refl
rule-of-refusal R.bad_expression = refl
rule-of-refusal R.no_halt = refl
rule-of-refusal R.too_many = refl
rule-of-refusal R.too_long = refl
rule-of-refusal R.no_reading = refl
rule-of-refusal R.stuck = refl
rule-of-refusal R.past_limit = refl
rule-of-refusal R.out_of_steps = refl
rule-of-refusal R.out_of_room = refl
rule-of-refusal R.label_broken = refl
rule-of-refusal R.off_scale = refl
rule-of-refusal R.changed_since = refl
rule-of-refusal R.output_full = refl
rule-of-refusal R.unreadable = refl
rule-of-refusal R.not_run = refl

pub refusal-of-rule : (r : Refusal) → refusal_of (rule_of r) ≡ r
refusal-of-rule Short = refl
refusal-of-rule OutOfTurn = refl
refusal-of-rule BadLength = refl
refusal-of-rule OffRange = refl
refusal-of-rule NoSuchName = refl
refusal-of-rule BadExpression = refl
refusal-of-rule NoHalt = refl
refusal-of-rule TooMany = refl
refusal-of-rule TooLong = refl
refusal-of-rule NoReading = refl
refusal-of-rule Stuck = refl
refusal-of-rule PastLimit = refl
refusal-of-rule OutOfSteps = refl
refusal-of-rule OutOfRoom = refl
refusal-of-rule LabelBroken = refl
refusal-of-rule OffScale = refl
refusal-of-rule ChangedSince = refl
refusal-of-rule OutputFull = refl
refusal-of-rule Unreadable = refl
refusal-of-rule NotRun = refl
