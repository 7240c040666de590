-- What the search leaves of `record::starting::start_values`.
use Rattle.std.proofs.Common.{◌≡◌, ℕ, length, sym, refl, ap, ◌∙◌, arith, length-set}
use Rattle.std.proofs.lemmas.Result.{err_from_is_err_and}
use Rattle.rules.specs.Format.{got}
use Rattle.record.specs.Known.{values_of}
use Rattle.record.proofs.starting.Laws.{values-start, values-end, one-refused, one_more}
use Rattle.record.proofs.starting.start_values.Goals as goal

pub loop-k-init : goal.loop-k-init
loop-k-init c =
    record { eight = refl; left = values-start c.args.ranges.now c.args.r.now _ c.args.from }

pub returns-in_err-values : goal.returns-in_err-values
returns-in_err-values c =
    let p = err_from_is_err_and c.from_residual.result c.from_residual.ensures.1 in
    rw (p.1, p.2) (one-refused c.args.ranges.now c.args.r.now c.loop-k.k c.loop-k.values c.loop-k.at _ c.loop-k-test.true c.in_err-values.ensures
    ∙ sym c.loop-k.invariant.left)

pub loop-k-preserved : goal.loop-k-preserved
loop-k-preserved c =
    let few = c.requires in
    record {
      eight = simp length-set c.loop-k.invariant.eight;
      left = c.loop-k.invariant.left
          ∙ one_more c.args.ranges.now c.args.r.now c.loop-k.k c.loop-k.values c.loop-k.at _ c.loop-k-test.true
          c.in_ok-values.field-0-0 c.in_ok-values.field-0-1 (omega (arith, c.loop-k.invariant.eight)) c.in_ok-values.ensures;
    }

pub returns : goal.returns
returns c =
    let all : length c.args.ranges.now ≡ c.loop-k.k = omega arith in
    ap (λ (m : ℕ). got (values_of m c.loop-k.values) c.loop-k.at) all
    ∙ sym (c.loop-k.invariant.left ∙ values-end c.args.ranges.now c.args.r.now c.loop-k.k c.loop-k.values c.loop-k.at (omega arith))
