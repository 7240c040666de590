-- What the search leaves of `interval::multiplication::product`.
use mathlib.Core.Path.{sym, ap, ◌∙◌}
use native.Mathlib.Omega.{arith}
use Prim.Native.Nat.{◌^◌}
use lib.IntN.{◌*ℤ◌}
use Rattle.rules.specs.Refusal.{value}
use Rattle.rules.specs.Interval.{combine, may_divide_by_zero, operate, times}
use Rattle.rules.proofs.Hull.{each-corner}
use Rattle.interval.specs.declared.Val.{Val}
use Rattle.interval.proofs.Hulls.{ends_are}
use Rattle.interval.proofs.Laws.{fits_in}
use Rattle.interval.proofs.Products.{products-fit, product_is}
use Rattle.interval.proofs.multiplication.product.Goals as goal

pub ends-requires : goal.ends-requires
ends-requires c =
    let fit = products-fit _ _ _ (omega arith) c.holds_ends.ensures c.if-holds_ends.true c.holds_ends-then-holds_ends.ensures c.if-holds_ends-2.true in
    record { low_low = fit.low_low; low_high = fit.low_high; high_low = fit.high_low; high_high = fit.high_high }

pub returns-then-holds_ends-2 : goal.returns-then-holds_ends-2
returns-then-holds_ends-2 c =
    let fit = products-fit _ _ _ (omega arith) c.holds_ends.ensures c.if-holds_ends.true c.holds_ends-then-holds_ends.ensures c.if-holds_ends-2.true in
    ap value (ends_are (λ (v : Val). v.0) ◌*ℤ◌ _ _ _ _ _ (λ x y r is. is.2) c.ends.ensures) ∙ sym (product_is (2 ^ 31) _ _ (each-corner fit (λ z. fits_in)))

pub returns : goal.returns
unfolding combine may_divide_by_zero operate
returns c = c.hull.ensures (operate times) (λ x y r is. is.2)
