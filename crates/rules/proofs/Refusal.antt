-- No refusal has the number 0, which stands for acceptance.
use mathlib.Core.Path.{◌≡◌}
use native.Mathlib.Omega.{arith}
use Rattle.rules.specs.Refusal.{Refusal, number}
use Rattle.rules.specs.Refusal.{short, out_of_turn, bad_length, off_range, no_such_name, bad_expression, no_halt, too_many, too_long, no_reading, stuck, past_limit, out_of_steps, out_of_room, label_broken, off_scale, changed_since, output_full, unreadable, not_run}

pub positive : (r : Refusal) → number r ≡ 0 → ⊥
positive short e = omega arith
positive out_of_turn e = omega arith
positive bad_length e = omega arith
positive off_range e = omega arith
positive no_such_name e = omega arith
positive bad_expression e = omega arith
positive no_halt e = omega arith
positive too_many e = omega arith
positive too_long e = omega arith
positive no_reading e = omega arith
positive stuck e = omega arith
positive past_limit e = omega arith
positive out_of_steps e = omega arith
positive out_of_room e = omega arith
positive label_broken e = omega arith
positive off_scale e = omega arith
positive changed_since e = omega arith
positive output_full e = omega arith
positive unreadable e = omega arith
positive not_run e = omega arith
