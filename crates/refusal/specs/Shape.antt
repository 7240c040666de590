-- The code's refusals and those of the rules: one for each of the other.
use Rattle.rules.specs.Refusal as R
use Rattle.std.specs.Prelude.{ℕ}
use Rattle.refusal.specs.declared.Fault.{Fault}
use Rattle.refusal.specs.declared.Refusal.{Refusal}
use Rattle.refusal.specs.declared.Refusal.TheVariants.{Short, OutOfTurn, BadLength, OffRange, NoSuchName, BadExpression, NoHalt, TooMany, TooLong, NoReading, Stuck, PastLimit, OutOfSteps, OutOfRoom, LabelBroken, OffScale, ChangedSince, OutputFull, Unreadable, NotRun}

-- from the rules to the code: what a function that refuses must give
abbrev pub refusal_of : R.Refusal → Refusal
refusal_of R.short = Short
refusal_of R.out_of_turn = OutOfTurn
refusal_of R.bad_length = BadLength
refusal_of R.off_range = OffRange
refusal_of R.no_such_name = NoSuchName
refusal_of R.bad_expression = BadExpression
refusal_of R.no_halt = NoHalt
refusal_of R.too_many = TooMany
refusal_of R.too_long = TooLong
refusal_of R.no_reading = NoReading
refusal_of R.stuck = Stuck
refusal_of R.past_limit = PastLimit
refusal_of R.out_of_steps = OutOfSteps
refusal_of R.out_of_room = OutOfRoom
refusal_of R.label_broken = LabelBroken
refusal_of R.off_scale = OffScale
refusal_of R.changed_since = ChangedSince
refusal_of R.output_full = OutputFull
refusal_of R.unreadable = Unreadable
refusal_of R.not_run = NotRun

-- from the code to the rules: what a refusal means
abbrev pub rule_of : Refusal → R.Refusal
rule_of Short = R.short
rule_of OutOfTurn = R.out_of_turn
rule_of BadLength = R.bad_length
rule_of OffRange = R.off_range
rule_of NoSuchName = R.no_such_name
rule_of BadExpression = R.bad_expression
rule_of NoHalt = R.no_halt
rule_of TooMany = R.too_many
rule_of TooLong = R.too_long
rule_of NoReading = R.no_reading
rule_of Stuck = R.stuck
rule_of PastLimit = R.past_limit
rule_of OutOfSteps = R.out_of_steps
rule_of OutOfRoom = R.out_of_room
rule_of LabelBroken = R.label_broken
rule_of OffScale = R.off_scale
rule_of ChangedSince = R.changed_since
rule_of OutputFull = R.output_full
rule_of Unreadable = R.unreadable
rule_of NotRun = R.not_run

-- a refusal of the rules at a place, as the code tells it
abbrev pub fault_at : R.Refusal → ℕ → Fault
fault_at r p = record { refusal = refusal_of r; place = p }

-- a refusal of the code that speaks of no place
abbrev pub fault_of : Refusal → Fault
fault_of r = record { refusal = r; place = 0 }
