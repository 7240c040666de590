-- What the search leaves of `infix::body::Body::print_arith`.
use Rattle.std.specs.Prelude.{◌+◌, ◌-◌, ltb}
use Rattle.rules.specs.Program.{operation}
use Rattle.rules.specs.Format.{read_arith}
use Rattle.interval.specs.Shape.{operator_of}
use Rattle.expression.specs.Kind.{arith_kind_of}
use Rattle.expression.proofs.kind.Laws.{at_operator}
use Rattle.printed.specs.Print.{sign, print_arith}
use Rattle.infix.specs.Prints.{opening, closing}
use Rattle.infix.proofs.PartLaws.{kind-is, prints-as, both-print}
use Rattle.infix.proofs.TextLaws.{operation-text}
use Rattle.infix.proofs.body.Body.+print_arith.Goals as goal

pub returns-in-Some-Operation : goal.returns-in-Some-Operation
returns-in-Some-Operation t c =
    let arg = c.args in
    let o = operator_of c.in-Some-Operation.o in
    let k = c.binding-b.result in
    let closed = c.close_group.ensures in
    λ n. prints-as _ _ _ _ _ (at_operator arg.self.now.s.now arg.self.now.end n arg.at arg.depth c.if-depth-eq0.false o (kind-is arith_kind_of c.arith_at.ensures.kind c.in-Some-Operation.is c.in-Some-Operation.field-0-is))
    (both-print (print_arith k) (print_arith (k + 1)) (print_arith arg.strength) (operation o) (opening (ltb k arg.strength)) (sign o) (closing (ltb k arg.strength))
    (operation-text o arg.strength k c.binding-b.ensures.0) _ _ _ _ _ _ _ _ _ _ _ _
    (read_arith (arg.depth - 1) arg.self.now.s.now arg.self.now.end n (arg.at + 1)) (λ q. read_arith (arg.depth - 1) arg.self.now.s.now arg.self.now.end n q)
    c.open_group-first.ensures (c.print_arith-left.ensures n) c.put_sign-second.ensures (c.print_arith-right.ensures n) closed.0 closed.1)
