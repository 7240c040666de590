-- What the search leaves of `notation::arithmetic::leaf_at`.
use Rattle.std.proofs.Common.{arith, pos}
use Rattle.text.specs.Words.{negative}
use Rattle.text.specs.Notation.{operand}
use Rattle.scan.proofs.WordLaws.{here}
use Rattle.notation.proofs.arithmetic.leaf_at.Goals as goal

pub returns-in-45-clause-builds : goal.returns-in-45-clause-builds
unfolding operand
returns-in-45-clause-builds c = λ i k.
    let w = c.write_constant.ensures.builds _ negative _ (c.negated.ensures.reads _ _ c.number_at.ensures.reads) in
    grind (arith, here)

pub returns-in_default-clause-builds : goal.returns-in_default-clause-builds
unfolding operand
returns-in_default-clause-builds c = λ i k.
    let w = c.write_constant-in_default.ensures.builds _ pos _ (c.positive.ensures.reads _ _ c.digits_at-in_default.ensures.reads) in
    grind (arith, here)
