-- What the search leaves of `writing::put_decimal`.
use mathlib.Core.Path.{ap, ◌∙◌}
use Rattle.rules.specs.Format.{Bytes}
use Rattle.writing.specs.Out.{out_of, write}
use Rattle.writing.proofs.Written.{then-writes}
use Rattle.writing.proofs.Decimal.{decimal-small, decimal-large}
use Rattle.writing.proofs.+put_decimal.Goals as goal

pub returns-then-n-lt10 : goal.returns-then-n-lt10
returns-then-n-lt10 t c =
    let arg = c.args in
    c.put.ensures ∙ ap (λ (x : Bytes). write x (out_of arg.out.now arg.from)) (decimal-small _ _ c.if-n-lt10.true c.digit.ensures)

pub returns : goal.returns
returns t c =
    let arg = c.args in
    then-writes _ _ _ _ _ _ _ _ c.put_decimal-at.ensures c.put-2.ensures
    ∙ ap (λ (x : Bytes). write x (out_of arg.out.now arg.from)) (decimal-large _ _ c.if-n-lt10.false c.digit-2.ensures)
