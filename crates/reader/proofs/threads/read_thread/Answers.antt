-- What the search leaves of `reader::threads::read_thread`: closing.
use Rattle.std.proofs.Common.{arith}
use Rattle.std.proofs.lemmas.Grind.{common_steps}
use Rattle.rules.specs.Format.{read_thread, and_then}
use Rattle.reader.proofs.threads.Laws.{unhalted, untargeted, whole}
use Rattle.reader.proofs.threads.read_thread.Goals as goal

pub returns-in_err-last_halts : goal.returns-in_err-last_halts
unfolding read_thread and_then
returns-in_err-last_halts c =
    let h = unhalted _ _ _ _ _ _ c.requires.0 c.in_ok-read.ensures c.in_err-last_halts.ensures in grind (arith, common_steps)

pub returns-in_err-targets_fit : goal.returns-in_err-targets_fit
unfolding read_thread and_then
returns-in_err-targets_fit c =
    let h = untargeted _ _ _ _ _ _ c.requires.0 c.in_ok-read.ensures c.in_ok-last_halts.ensures c.in_err-targets_fit.ensures in
    grind (arith, common_steps)

pub returns : goal.returns
unfolding read_thread and_then
returns c =
    let h = whole _ _ _ _ _ _ c.requires.0 c.in_ok-read.ensures c.in_ok-last_halts.ensures c.in_ok-targets_fit.ensures in
    grind (arith, common_steps)
