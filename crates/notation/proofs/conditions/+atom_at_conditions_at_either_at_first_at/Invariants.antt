-- What the loop over operands keeps, and what falls from call to call.
use Rattle.std.proofs.Common.{◌+◌, ◌*◌, ◌-◌, length}
use Rattle.text.specs.Notation.{conjunctions, atomic}
use Rattle.scan.specs.Waiting.{waiting}
use Rattle.notation.specs.Forms.{condition_form, start_at}
use Rattle.notation.proofs.ChainLaws.{ChainSoFar}
use Rattle.notation.proofs.conditions.+atom_at_conditions_at_either_at_first_at.Given as goal

abbrev pub decreases-atom_at : goal.decreases-atom_at
decreases-atom_at l = l.depth * 5 + 1

abbrev pub decreases-operand_at : goal.decreases-operand_at
decreases-operand_at l = l.depth * 5 + 2

abbrev pub decreases-conditions_at : goal.decreases-conditions_at
decreases-conditions_at l = l.depth * 5 + 3

abbrev pub decreases-either_at : goal.decreases-either_at
decreases-either_at l = l.depth * 5 + 4

abbrev pub decreases-first_at : goal.decreases-first_at
decreases-first_at l = l.depth * 5

abbrev pub invariant-conditions_at-loop-code : goal.invariant-conditions_at-loop-code
invariant-conditions_at-loop-code l =
    ChainSoFar condition_form conjunctions (atomic (start_at l.depth)) l.s l.at l.initial.out l.fn.first l.out (waiting l.waiting) l.all

abbrev pub decreases-conditions_at-loop-code : goal.decreases-conditions_at-loop-code
decreases-conditions_at-loop-code l = length l.s - l.all.place
