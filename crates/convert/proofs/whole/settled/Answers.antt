-- What the search leaves of `convert::whole::settled`.
use Rattle.std.proofs.Common.{rules}
use Prim.Native.Nat.{◌≤◌, ◌<◌}
use Rattle.convert.proofs.Rows.{more, aims-here, aims-kept}
use Rattle.convert.proofs.whole.settled.Goals as goal

pub returns-then-contains-clause-so_far : goal.returns-then-contains-clause-so_far
returns-then-contains-clause-so_far c =
    let k = c.closed.ensures in
    let a : c.args.w.end ≤ c.args.target = search rules in
    let b : c.args.target < c.past-end.result = search rules in
    λ xs x h es e ln sd. more xs x c.args.out.now c.args.target c.args.w h c.requires.3 e ln sd k.value k.out_after
    c.past-end.ensures c.past-whole.ensures
    (aims-here xs x c.args.out.now c.args.target c.args.w h c.requires.3 e es ln k.value c.past-end.ensures a b)

pub returns-else-contains-clause-so_far : goal.returns-else-contains-clause-so_far
returns-else-contains-clause-so_far c =
    let k = c.closed.ensures in
    let n : c.args.w.end ≤ c.args.target → c.args.target < c.past-end.result → ⊥ = search rules in
    λ xs x h es e ln sd. more xs x c.args.out.now c.args.target c.args.w h c.requires.3 e ln sd k.value k.out_after
    c.past-end.ensures c.past-whole.ensures
    (aims-kept xs x c.args.out.now c.args.target c.args.w h c.requires.3 e es ln k.value c.past-end.ensures n)
