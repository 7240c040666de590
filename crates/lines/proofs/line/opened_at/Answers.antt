-- What the search leaves of `lines::line::opened_at`.
use mathlib.Core.Path.{sym, ap, ◌∙◌}
use lib.ListN.{drop}
use Rattle.rules.specs.Program.{halt}
use Rattle.text.specs.Lines.{var_line, reg_line, thread_line, statement_line}
use Rattle.text.specs.Words.{bytes, then_read, line_end}
use Rattle.lines.proofs.DispatchLaws.{var-tag, reg-tag, var-due, reg-due, locks-there, range-there, locks-line, var-line, first-thread-line, reg-line, first-halt-line, thread-line, halt-line, timed-first, timed-later, word-alone, lines-as}
use Rattle.lines.proofs.line.opened_at.Goals as goal

pub returns-in-Locks-clause-lines : goal.returns-in-Locks-clause-lines
returns-in-Locks-clause-lines c =
    rw c.in-Locks.is (lines-as _ _ _ _ _ _ _ c.locks_at.ensures.lines
    (locks-there c.args.s.now c.args.q ∙ locks-line c.args.s.now c.args.q c.requires.0 c.requires.1))

pub returns-in-Var-clause-lines : goal.returns-in-Var-clause-lines
returns-in-Var-clause-lines c =
    rw c.in-Var.is (lines-as _ _ _ _ _ _ _ (c.values_at.ensures.lines var_line var-tag var-due)
    (range-there c.args.s.now c.args.q (bytes "var") var_line
    ∙ var-line c.args.s.now c.args.q c.requires.0 c.requires.1 c.if-b-eq118.true))

pub returns-in-Var-2-clause-lines : goal.returns-in-Var-2-clause-lines
returns-in-Var-2-clause-lines c =
    rw c.in-Var.is (lines-as _ _ _ _ _ _ _ c.thread_at.ensures.lines
    (word-alone (bytes "thread") (drop c.args.q c.args.s.now) thread_line
    ∙ first-thread-line c.args.s.now c.args.q c.requires.0 c.requires.1 c.if-b-eq118.false))

pub returns-in-Reg-clause-lines : goal.returns-in-Reg-clause-lines
returns-in-Reg-clause-lines c =
    rw c.in-Reg.is (lines-as _ _ _ _ _ _ _ c.timed_at.ensures.lines
    (ap (λ g. then_read g line_end)
    (timed-first c.args.s.now c.args.q c.requires.0 c.requires.1 (sym c.is_digit-digit.ensures ∙ c.if-digit.true))))

pub returns-in-Reg-2-clause-lines : goal.returns-in-Reg-2-clause-lines
returns-in-Reg-2-clause-lines c =
    rw c.in-Reg.is (lines-as _ _ _ _ _ _ _ (c.values_at-in-Reg-2.ensures.lines reg_line reg-tag reg-due)
    (range-there c.args.s.now c.args.q (bytes "reg") reg_line
    ∙ reg-line c.args.s.now c.args.q c.requires.0 c.requires.1 (sym c.is_digit-digit.ensures ∙ c.if-digit.false) c.if-b-eq114.true))

pub returns-in-Reg-3-clause-lines : goal.returns-in-Reg-3-clause-lines
returns-in-Reg-3-clause-lines c =
    rw c.in-Reg.is (lines-as _ _ _ _ _ _ _ c.halt_at.ensures.lines
    (word-alone (bytes "halt") (drop c.args.q c.args.s.now) (statement_line 0 0 halt)
    ∙ first-halt-line c.args.s.now c.args.q c.requires.0 c.requires.1
    (sym c.is_digit-digit.ensures ∙ c.if-digit.false) c.if-b-eq114.false))

pub returns-in-Statement-clause-lines : goal.returns-in-Statement-clause-lines
returns-in-Statement-clause-lines c =
    rw c.in-Statement.is (lines-as _ _ _ _ _ _ _ c.timed_at-in-Statement.ensures.lines
    (ap (λ g. then_read g line_end)
    (timed-later c.args.s.now c.args.q c.requires.0 c.requires.1 (sym c.is_digit-digit.ensures ∙ c.if-digit-2.true))))

pub returns-in-Statement-2-clause-lines : goal.returns-in-Statement-2-clause-lines
returns-in-Statement-2-clause-lines c =
    rw c.in-Statement.is (lines-as _ _ _ _ _ _ _ c.thread_at-in-Statement-2.ensures.lines
    (word-alone (bytes "thread") (drop c.args.q c.args.s.now) thread_line
    ∙ thread-line c.args.s.now c.args.q c.requires.0 c.requires.1
    (sym c.is_digit-digit.ensures ∙ c.if-digit-2.false) c.if-b-eq116.true))

pub returns-in-Statement-3-clause-lines : goal.returns-in-Statement-3-clause-lines
returns-in-Statement-3-clause-lines c =
    rw c.in-Statement.is (lines-as _ _ _ _ _ _ _ c.halt_at-in-Statement-3.ensures.lines
    (word-alone (bytes "halt") (drop c.args.q c.args.s.now) (statement_line 0 0 halt)
    ∙ halt-line c.args.s.now c.args.q c.requires.0 c.requires.1 (sym c.is_digit-digit.ensures ∙ c.if-digit-2.false) c.if-b-eq116.false))
