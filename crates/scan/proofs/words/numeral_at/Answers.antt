-- What the search leaves of `scan::words::numeral_at`.
use Rattle.std.proofs.Common.{◌≡◌, ◌∙◌, sym, drop}
use Rattle.std.specs.Prelude.{Ok, Err}
use Rattle.text.specs.Words.{map_read, numeral}
use Rattle.scan.specs.Reading.{read_of, same, capped}
use Rattle.scan.proofs.Readings.{exits}
use Rattle.scan.proofs.WordLaws.{sofar-apart, apart-number, apart-stop}
use Rattle.scan.proofs.words.numeral_at.Goals as goal

pub returns-in_err-end-clause-reads : goal.returns-in_err-end-clause-reads
returns-in_err-end-clause-reads c = λ n e.
    exits (λ r. read_of same c.args.s.now r ≡ map_read capped (numeral n (drop c.args.p c.args.s.now))) c.from_residual.ensures.1
    (sofar-apart _ _ _ _ _ (Err c.in_err-end.field-0.0) c.loop-q.invariant c.loop-q-test.true (sym c.is_digit.ensures ∙ c.if-not-is_digit.true)
    (apart-stop c.args.s.now c.loop-q.w c.in_err-end.field-0.0 (drop c.loop-q.q c.args.s.now) c.in_err-end.ensures.reads) n e)

pub returns-then-not-is_digit-clause-reads : goal.returns-then-not-is_digit-clause-reads
returns-then-not-is_digit-clause-reads c = λ n e.
    sofar-apart _ _ _ _ _ (Ok (c.loop-q.w, c.in_ok-end.end)) c.loop-q.invariant c.loop-q-test.true
    (sym c.is_digit.ensures ∙ c.if-not-is_digit.true)
    (apart-number c.args.s.now c.loop-q.w c.in_ok-end.end (drop c.loop-q.q c.args.s.now) c.in_ok-end.ensures.reads) n e
