-- The program's words: numbers in decimal.
use mathlib.Core.Path.{◌≡◌, ap, ◌∙◌}
use Prim.Native.Nat.{ℕ}
use Rattle.std.specs.Prelude.{Option}
use Rattle.rules.specs.Product.{decimal}
use Rattle.digits.proofs.Laws.{decimals-read}
use Rattle.retime.specs.declared.change.Asked.{Asked}
use Rattle.retime_main.specs.Words.{asked_in, back_in, WordsRead, BackRead}

pub words-read : WordsRead
unfolding asked_in
words-read t k least greatest = rw (decimals-read t, decimals-read k, decimals-read least, decimals-read greatest)

pub back_read : BackRead
unfolding back_in
back_read c =
    ap (λ (a : Option Asked). back_in a (decimal c.new_least) (decimal c.new_greatest)) (words-read c.thread c.statement c.old_least c.old_greatest)
    ∙ rw (decimals-read c.new_least, decimals-read c.new_greatest)
