-- What the search leaves of `infix::body::Body::print_comparison`.
use mathlib.Core.Path.{refl}
use mathlib.Core.List.{[]}
use Rattle.rules.specs.Format.{read_arith}
use Rattle.expression.specs.Kind.{relation_of}
use Rattle.writing.proofs.Written.{none_written}
use Rattle.printed.specs.Print.{print_arith, any_arith, print_condition}
use Rattle.infix.specs.Prints.{relation_sign}
use Rattle.infix.proofs.PartLaws.{both-print}
use Rattle.infix.proofs.TextLaws.{relation-text}
use Rattle.infix.proofs.body.Body.print_comparison.Goals as goal

pub returns : goal.returns
returns c =
    let arg = c.args in
    let o = arg.o in
    λ n strength. both-print (print_arith any_arith) (print_arith any_arith) (print_condition strength) (relation_of o) [] (relation_sign o) [] (relation-text o strength) _ _ _ _ _ _ _ _ _ _ _ _
    (read_arith arg.depth arg.self.now.s.now arg.self.now.end n arg.at) (λ q. read_arith arg.depth arg.self.now.s.now arg.self.now.end n q)
    (none_written _ _) (c.print_arith-left.ensures n) c.put_relation-second.ensures (c.print_arith.ensures n) refl (none_written _ _)
