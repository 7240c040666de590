-- What the search leaves of `convert::whole::is_over`.
use mathlib.Core.Path.{◌≡◌, sym}
use denote.Enum.Bare.{same_true}
use Rattle.std.proofs.Common.{rules}
use Rattle.lines.specs.contracts.line.Due.{the_type}
use Rattle.lines.specs.declared.line.Due.TheVariants.{Statement}
use Rattle.convert.proofs.Laying.{not-over}
use Rattle.convert.proofs.whole.is_over.Goals as goal

pub returns-then-eq : goal.returns-then-eq
returns-then-eq c =
    let e : c.args.due ≡ Statement = same_true the_type (search rules) _ _ (sym c.if-eq.ensures) in
    rw e (not-over c.args.s.now c.args.q c.requires)
