-- What the search leaves of `expression::whole::branch_on`.
use native.Mathlib.Omega.{arith}
use mathlib.Core.Path.{sym, subst}
use Rattle.rules.specs.Constants.{deepest}
use Rattle.rules.specs.Program.{Condition}
use Rattle.rules.specs.Format.{Got}
use Rattle.expression.specs.Kind.{relation_of}
use Rattle.expression.specs.Evaluation.{regs_of}
use Rattle.expression.specs.Whole.{Branches}
use Rattle.expression.proofs.kind.Laws.{at-comparison}
use Rattle.expression.proofs.whole.branch_on.Goals as goal

pub returns-in-Some-Comparison : goal.returns-in-Some-Comparison
returns-in-Some-Comparison c =
    let arg = c.args in
    let way = c.in-Some-Comparison in
    subst (λ (g : Got Condition). Branches arg.n (regs_of arg.n arg.regs) g c.branch_on_comparison.result)
    (at-comparison arg.s.now arg.end arg.n arg.at deepest (λ e. omega arith) (relation_of way.o) (sym (rw way.field-0-is at way.ensures.kind))) c.branch_on_comparison.ensures
