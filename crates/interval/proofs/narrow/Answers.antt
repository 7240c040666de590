-- What the search leaves of `interval::narrow`.
use Rattle.std.proofs.lemmas.Bool.{false_from_ne_true}
use mathlib.Core.Path.{sym, subst}
use mir.Facts.{to_z-of_z}
use mir.Syntax.{w32}
use mir.Val.{SFits}
use Rattle.rules.specs.Constants.{half32}
use Rattle.rules.specs.Interval.{in_range}
use Rattle.interval.proofs.Laws.{in-fits, fits_in}
use Rattle.interval.proofs.narrow.Goals as goal

pub returns-in-Ok : goal.returns-in-Ok
returns-in-Ok c =
    let number = to_z-of_z c.ranges.a in
    let fits : SFits w32 c.args.a = subst (SFits w32) number c.in-Ok.ensures.0 in
    rw (fits_in fits, c.in-Ok.ensures.1, number, to_z-of_z fits)

pub returns-in-Err : goal.returns-in-Err
returns-in-Err c =
    let number = to_z-of_z c.ranges.a in
    rw (false_from_ne_true (in_range half32 c.args.a) (λ e. c.in-Err.ensures (subst (SFits w32) (sym number) (in-fits e))))
