-- What the search leaves of `infix::body::Body::print_condition`.
use Rattle.std.specs.Prelude.{◌+◌, ◌-◌, ltb}
use Rattle.std.specs.Prelude.{[], ◌∷◌}
use Rattle.rules.specs.Program.{always, never, negation, conjunction}
use Rattle.rules.specs.Format.{read_condition}
use Rattle.rules.specs.Product.{bytes}
use Rattle.expression.specs.Kind.{condition_kind_of, relation_of}
use Rattle.expression.proofs.kind.Laws.{at_leaf, at_negation, at_conjunction, at-comparison}
use Rattle.writing.proofs.Written.{same_text}
use Rattle.printed.specs.Print.{any_condition, one_condition, print_condition}
use Rattle.infix.specs.Prints.{opening, closing}
use Rattle.infix.proofs.PartLaws.{kind-is, prints-as, prints-got, both-print, one-prints}
use Rattle.infix.proofs.TextLaws.{always-text, never-text, negation-text, conjunction-text}
use Rattle.infix.proofs.body.Body.+print_condition.Goals as goal

pub returns-in-Some-Always : goal.returns-in-Some-Always
returns-in-Some-Always t c =
    let arg = c.args in
    λ n. prints-got _ _ _ _ _ (at_leaf arg.self.now.s.now arg.self.now.end n arg.at arg.depth c.if-depth-eq0.false always (kind-is condition_kind_of c.condition_at.ensures.kind c.in-Some-Always.is c.in-Some-Always.field-0-is)) c.print_word.ensures.0 (same_text _ _ _ _ _ _ (always-text arg.strength) c.print_word.ensures.1)

pub returns-in-Some-Never : goal.returns-in-Some-Never
returns-in-Some-Never t c =
    let arg = c.args in
    let word = c.print_word-in-Some-Never.ensures in
    λ n. prints-got _ _ _ _ _ (at_leaf arg.self.now.s.now arg.self.now.end n arg.at arg.depth c.if-depth-eq0.false never (kind-is condition_kind_of c.condition_at.ensures.kind c.in-Some-Never.is c.in-Some-Never.field-0-is)) word.0 (same_text _ _ _ _ _ _ (never-text arg.strength) word.1)

pub returns-in-Some-Negation : goal.returns-in-Some-Negation
returns-in-Some-Negation t c =
    let arg = c.args in
    λ n. prints-as _ _ _ _ _ (at_negation arg.self.now.s.now arg.self.now.end n arg.at arg.depth c.if-depth-eq0.false (kind-is condition_kind_of c.condition_at.ensures.kind c.in-Some-Negation.is c.in-Some-Negation.field-0-is))
    (one-prints (print_condition one_condition) (print_condition arg.strength) negation (33 ∷ []) (negation-text arg.strength) (read_condition (arg.depth - 1) arg.self.now.s.now arg.self.now.end n (arg.at + 1)) _ _ _ _ _ _
    c.put-first.ensures (c.print_condition.ensures n))

pub returns-in-Some-Conjunction : goal.returns-in-Some-Conjunction
returns-in-Some-Conjunction t c =
    let arg = c.args in
    let b = ltb any_condition arg.strength in
    let closed = c.close_group.ensures in
    λ n. prints-as _ _ _ _ _ (at_conjunction arg.self.now.s.now arg.self.now.end n arg.at arg.depth c.if-depth-eq0.false (kind-is condition_kind_of c.condition_at.ensures.kind c.in-Some-Conjunction.is c.in-Some-Conjunction.field-0-is))
    (both-print (print_condition any_condition) (print_condition one_condition) (print_condition arg.strength) conjunction (opening b) (bytes " && ") (closing b)
    (conjunction-text arg.strength) _ _ _ _ _ _ _ _ _ _ _ _
    (read_condition (arg.depth - 1) arg.self.now.s.now arg.self.now.end n (arg.at + 1)) (λ q. read_condition (arg.depth - 1) arg.self.now.s.now arg.self.now.end n q)
    c.open_group-first.ensures (c.print_condition-left.ensures n) c.put_bytes-second.ensures (c.print_condition-right.ensures n) closed.0 closed.1)

pub returns-in-Some-Comparison : goal.returns-in-Some-Comparison
returns-in-Some-Comparison t c =
    let arg = c.args in
    λ n. prints-as _ _ _ _ _ (at-comparison arg.self.now.s.now arg.self.now.end n arg.at arg.depth c.if-depth-eq0.false (relation_of c.in-Some-Comparison.o) (kind-is condition_kind_of c.condition_at.ensures.kind c.in-Some-Comparison.is c.in-Some-Comparison.field-0-is)) (c.print_comparison.ensures n arg.strength)
