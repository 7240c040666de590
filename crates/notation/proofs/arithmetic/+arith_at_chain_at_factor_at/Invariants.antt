-- What the loop over operands keeps, and what falls from call to call.
use Rattle.std.proofs.Common.{◌+◌, ◌*◌, ◌-◌, length}
use Rattle.scan.specs.Waiting.{waiting}
use Rattle.notation.specs.Forms.{arith_form, ops_at, arith_at}
use Rattle.notation.proofs.ChainLaws.{ChainSoFar}
use Rattle.notation.proofs.arithmetic.+arith_at_chain_at_factor_at.Given as goal

abbrev pub decreases-arith_at : goal.decreases-arith_at
decreases-arith_at l = l.depth * 8 + l.level * 2 + 1

abbrev pub decreases-chain_at : goal.decreases-chain_at
decreases-chain_at l = l.depth * 8 + l.level * 2

abbrev pub decreases-factor_at : goal.decreases-factor_at
decreases-factor_at l = l.depth * 8

abbrev pub invariant-chain_at-loop-code : goal.invariant-chain_at-loop-code
invariant-chain_at-loop-code l =
    ChainSoFar arith_form (ops_at l.level) (arith_at l.depth (l.level - 1)) l.s l.at l.initial.out l.fn.first l.out (waiting l.waiting) l.all

abbrev pub decreases-chain_at-loop-code : goal.decreases-chain_at-loop-code
decreases-chain_at-loop-code l = length l.s - l.all.place
