-- What the loop of `state::starting::ranges_at` keeps.
use Rattle.std.proofs.Common.{◌≡◌, length}
use Rattle.rules.specs.Constants.{most_registers}
use Rattle.expression.specs.Evaluation.{regs_of}
use Rattle.reader.specs.Facts.{ranges}
use Rattle.state.proofs.starting.ranges_at.Given as goal

abbrev pub invariant-loop-i : goal.invariant-loop-i
invariant-loop-i l = record { eight : length l.spans ≡ most_registers; read : regs_of l.i l.spans ≡ ranges l.s l.p l.i }
