-- What the search leaves of `expression::number::num32_at`: the rules write the place of the last byte as one behind the third's.
use Rattle.std.specs.Prelude.{◌≡◌, ◌+◌}
use Rattle.std.proofs.Common.{ap, arith}
use Rattle.rules.specs.Format.{byte, num32}
use Rattle.expression.proofs.number.num32_at.Goals as goal

pub returns : goal.returns
unfolding num32
returns c =
    let last = ap (byte c.args.s.now) (let e : c.args.p + 2 + 1 ≡ c.args.p + 3 = omega arith in e) in
    omega (arith, c.from_be_bytes.ensures, last)
