-- What the search leaves of `infix::body::Body::print_register`.
use Rattle.infix.proofs.LeafLaws.{register-short, register-prints}
use Rattle.infix.proofs.body.Body.print_register.Goals as goal

pub returns-then-self-p : goal.returns-then-self-p
returns-then-self-p c =
    let arg = c.args in
    λ n strength. register-short arg.self.now.s.now arg.self.now.end arg.p _ _ _ c.if-self-p.true n strength _

pub returns : goal.returns
returns c =
    let arg = c.args in
    register-prints arg.self.now.s.now arg.self.now.end arg.p _ _ _ c.if-self-p.false _ _ _ c.put-behind.ensures (rw c.from.ensures at c.put_decimal.ensures)
