-- What the search leaves of `infix::body::Body::print_constant`.
use Rattle.infix.proofs.LeafLaws.{constant-short, constant-prints}
use Rattle.infix.proofs.body.Body.print_constant.Goals as goal

pub returns-then-self-p : goal.returns-then-self-p
returns-then-self-p c =
    let arg = c.args in
    λ strength. constant-short arg.self.now.s.now arg.self.now.end arg.p _ _ _ c.if-self-p.true strength _

pub returns : goal.returns
returns c =
    let arg = c.args in
    constant-prints arg.self.now.s.now arg.self.now.end arg.p _ _ _ c.if-self-p.false _ _ c.num32_at.ensures c.put_value.ensures
