-- What the search leaves of `state::cells::put_owners`.
use Rattle.std.proofs.Common.{rules, ◌≡◌, ◌∙◌, arith}
use Rattle.state.specs.Cells.{byte_cells_from, owners_cells}
use Rattle.state.proofs.Writing.{bytes-put, drop_all}
use Rattle.state.proofs.cells.put_owners.Goals as goal

pub loop-i-init : goal.loop-i-init
unfolding byte_cells_from
loop-i-init c = search rules

pub loop-i-preserved : goal.loop-i-preserved
loop-i-preserved c = bytes-put c.args.v c.loop-i.i _ _ _ c.loop-i.invariant (search rules) (omega arith)

pub returns : goal.returns
unfolding owners_cells
returns c =
    let all : c.loop-i.i ≡ 8 = omega arith in
    rw all at c.loop-i.invariant ∙ drop_all _ c.args.cells.now 8 (omega arith)
