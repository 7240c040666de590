-- What the search leaves of `field::ranges::registers_end`.
use Rattle.std.specs.Prelude.{◌≡◌, ℕ, suc, ◌+◌, ◌-◌, ◌<◌, [], ◌∷◌, ◌++◌, List, Err}
use Rattle.std.proofs.Common.{ap, sym, ◌∙◌, arith}
use Rattle.rules.specs.Interval.{Interval}
use Rattle.rules.specs.Format.{Bytes, Got, and_then, due, read_range, read_registers}
use Rattle.field.specs.Outcome.{end_of}
use Rattle.field.proofs.outcome.Laws.{exits, got_of, bad-of, fault-back}
use Rattle.field.proofs.ranges.registers_end.Goals as goal

-- one more of those that are due
turn : (s : Bytes) (n k : ℕ) (rs : List Interval) (p : ℕ) {g : Got Interval} → k < n → due 5 s p (read_range s p) ≡ g
    → read_registers (n - k) rs s p ≡ and_then g (λ i q. read_registers (n - (k + 1)) (rs ++ i ∷ []) s q)
unfolding read_registers
turn s n k rs p h e = let m : n - k ≡ suc (n - (k + 1)) = omega arith in rw (m, e)

pub returns-in_err-end : goal.returns-in_err-end
unfolding and_then
returns-in_err-end c =
    let i = c.loop.invariant in
    let b = bad-of (due 5 _ _ (read_range _ _)) c.in_err-end.ensures in
    exits c.from_residual.ensures.1 (sym (ap end_of (i.1 ∙ turn _ _ _ i.0 _ c.loop-test.true b) ∙ ap Err (fault-back _)))

pub loop-preserved : goal.loop-preserved
unfolding and_then
loop-preserved c =
    let i = c.loop.invariant in
    let w = got_of (due 5 _ _ (read_range _ _)) c.in_ok-end.ensures in
    (i.0 ++ w.0 ∷ [], i.1 ∙ turn _ _ _ i.0 _ c.loop-test.true w.1)

pub returns : goal.returns
unfolding read_registers
returns c =
    let i = c.loop.invariant in
    let z : c.args.n - c.loop.counter ≡ 0 = omega arith in
    sym (ap end_of (i.1 ∙ ap (λ (k : ℕ). read_registers k i.0 c.args.s.now c.loop.end) z))
