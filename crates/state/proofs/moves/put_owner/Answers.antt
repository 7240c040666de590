-- What the search leaves of `state::moves::put_owner`.
use Rattle.std.proofs.Common.{rules, ◌≡◌, pos, ◌∙◌, to_z, of_z, w32}
use Rattle.state.proofs.Written.{owner-written}
use Rattle.state.proofs.moves.put_owner.Goals as goal

pub returns : goal.returns
returns c =
    let o = c.args.o in
    let byte : to_z w32 (of_z w32 c.from.result) ≡ pos o = search rules in
    rw (byte, owner-written c.put_moved.new.slot c.args.l o (c.put_moved.auto.slot ∙ c.requires.0) c.requires.1.1 (search rules), c.put_moved.ensures)
