-- What the search leaves of `scan::words::word_at`.
use Rattle.std.proofs.Common.{◌≡◌, ◌∙◌, ◌+◌, sym, arith}
use Rattle.scan.proofs.WordLaws.{unturned, byte-same, byte-other, word-stop, word_more}
use Rattle.scan.proofs.words.word_at.Goals as goal

pub returns-then-ne-clause-reads : goal.returns-then-ne-clause-reads
returns-then-ne-clause-reads c =
    sym (c.loop-k.invariant.0.0 c.loop-k-test.true
    ∙ word-stop _ _ _ _ c.loop-k-test.true (byte-other _ _ _ c.get.result c.get.ensures.lookup.3 (unturned _ c.if-ne.ensures)))

pub loop-k-preserved : goal.loop-k-preserved
loop-k-preserved c =
    let m = byte-same _ _ _ c.get.result c.get.ensures.lookup.3 (unturned _ c.if-ne.ensures) in
    let e : c.args.p + (c.loop-k.k + 1) ≡ c.args.p + c.loop-k.k + 1 = omega arith in
    rw e (word_more _ _ _ _ _ c.loop-k-test.true m.0 m.1 c.loop-k.invariant.0, omega arith)
