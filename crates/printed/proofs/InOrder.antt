-- The lines of a program that has a sheet stand in order and can be printed.
use mathlib.Core.List.{List, [], ◌∷◌}
use Prim.Native.Nat.{ℕ, zero, suc, ◌≤◌}
use native.Mathlib.Omega.{arith}
use lib.Dec.{T, eqb, eqb→eq}
use lib.ListN.{length}
use Rattle.rules.specs.Base.{Each, nil, ◌&◌}
use Rattle.rules.specs.Constants.{deepest}
use Rattle.rules.specs.Interval.{Interval}
use Rattle.rules.specs.Program.{Arith, constant, register, operation, Condition, always, never, negation, conjunction, equal, less}
use Rattle.rules.specs.Program.{Action, halt, skip, assign, branch, store, load, unlock, lock, Statement, Thread, Program}
use Rattle.rules.specs.Format.{Names, times_fit}
use Rattle.rules.specs.Encoding.{code_of}
use Rattle.rules.specs.Fits.{ArithFits, ConditionFits, ActionFits, StatementFits, LastHalts, ThreadFits, ProgramFits}
use Rattle.rules.proofs.Base.{and_left, and_right}
use Rattle.text.specs.Lines.{Line, var_line, reg_line, locks_due, var_due, reg_due, statement_due, due_after}
use Rattle.text.specs.Says.{each, statement_line_of, thread_lines, lines_of}
use Rattle.text.specs.Claims.{locks_first, another_var, first_thread, another_reg, first_statement, another_statement, another_thread}
use Rattle.printed.proofs.Arithmetic.{nesting}
use Rattle.printed.proofs.Conditions.{nesting-of}
use Rattle.printed.proofs.LineReads.{Shallow}
use Rattle.printed.proofs.TextReads.{InOrder, at_end, one_line}

-- ---- "may nest twelve deep": so no parenthesis is 33 deep

arith-shallow : (d n : ℕ) (a : Arith) → ArithFits d n a → nesting a ≤ d
unfolding nesting
arith-shallow zero n a h = absurd h
arith-shallow (suc d) n (constant z) h = omega arith
arith-shallow (suc d) n (register r) h = omega arith
arith-shallow (suc d) n (operation o a b) h = let x = arith-shallow d n a h.0 in let y = arith-shallow d n b h.1 in omega arith

condition-shallow : (d n : ℕ) (c : Condition) → ConditionFits d n c → nesting-of c ≤ d
unfolding nesting-of
condition-shallow zero n c h = absurd h
condition-shallow (suc d) n always h = omega arith
condition-shallow (suc d) n never h = omega arith
condition-shallow (suc d) n (negation c) h = let x = condition-shallow d n c h in omega arith
condition-shallow (suc d) n (conjunction c e) h = let x = condition-shallow d n c h.0 in let y = condition-shallow d n e h.1 in omega arith
condition-shallow (suc d) n (equal a b) h = let x = arith-shallow d n a h.0 in let y = arith-shallow d n b h.1 in omega arith
condition-shallow (suc d) n (less a b) h = let x = arith-shallow d n a h.0 in let y = arith-shallow d n b h.1 in omega arith

shallow : (ns : Names) (a b : ℕ) (x : Action) → T (times_fit (code_of x) a b) → ActionFits ns x → Shallow a b x
unfolding times_fit code_of
shallow ns a b halt t h = (eqb→eq a 0 (and_left (eqb a 0) (eqb b 0) t), eqb→eq b 0 (and_right (eqb a 0) (eqb b 0) t))
shallow ns a b skip t h = tt
shallow ns a b (assign r x) t h = let l = arith-shallow deepest ns.regs x h.1 in omega arith
shallow ns a b (branch k c) t h = let l = condition-shallow deepest ns.regs c h in omega arith
shallow ns a b (store r v) t h = tt
shallow ns a b (load r v) t h = tt
shallow ns a b (unlock l) t h = tt
shallow ns a b (lock l) t h = tt

-- ---- their order

later-statements : (ns : Names) (xs : List Statement) (ys : List Line) → Each (StatementFits ns) xs → InOrder statement_due ys → InOrder statement_due (each statement_line_of xs ys)
unfolding each statement_line_of due_after
later-statements ns [] ys h o = o
later-statements ns (x ∷ xs) ys (p & h) o =
    one_line (another_statement x.least x.greatest x.action) (shallow ns x.least x.greatest x.action p.times p.action) (later-statements ns xs ys h o)

all-statements : (ns : Names) (xs : List Statement) (ys : List Line) → LastHalts xs → Each (StatementFits ns) xs → InOrder statement_due ys
    → InOrder reg_due (each statement_line_of xs ys)
unfolding each statement_line_of due_after
all-statements ns [] ys l h o = absurd l
all-statements ns (x ∷ xs) ys l (p & h) o =
    one_line (first_statement x.least x.greatest x.action) (shallow ns x.least x.greatest x.action p.times p.action) (later-statements ns xs ys h o)

all-registers : (rs : List Interval) (ys : List Line) → InOrder reg_due ys → InOrder reg_due (each reg_line rs ys)
unfolding each due_after
all-registers [] ys o = o
all-registers (r ∷ rs) ys o = one_line (another_reg r) tt (all-registers rs ys o)

all-variables : (vs : List Interval) (ys : List Line) → InOrder var_due ys → InOrder var_due (each var_line vs ys)
unfolding each due_after
all-variables [] ys o = o
all-variables (v ∷ vs) ys o = one_line (another_var v) tt (all-variables vs ys o)

-- a thread behind its line
opened : (vars locks : ℕ) (t : Thread) (ys : List Line) → ThreadFits vars locks t → InOrder statement_due ys → InOrder reg_due (each reg_line t.regs (each statement_line_of t.statements ys))
opened vars locks t ys h o = all-registers t.regs _ (all-statements _ t.statements ys h.last_halts_lem h.statements o)

later-threads : (vars locks : ℕ) (ts : List Thread) → Each (ThreadFits vars locks) ts → InOrder statement_due (thread_lines ts)
unfolding thread_lines due_after
later-threads vars locks [] nil = at_end
later-threads vars locks (t ∷ ts) (h & hs) = one_line another_thread tt (opened vars locks t (thread_lines ts) h (later-threads vars locks ts hs))

all-threads : (vars locks : ℕ) (ts : List Thread) → 1 ≤ length ts → Each (ThreadFits vars locks) ts → InOrder var_due (thread_lines ts)
unfolding thread_lines due_after
all-threads vars locks [] l h = absurd (omega arith)
all-threads vars locks (t ∷ ts) l (h & hs) = one_line first_thread tt (opened vars locks t (thread_lines ts) h (later-threads vars locks ts hs))

pub lines-in-order : (g : Program) → ProgramFits g → InOrder locks_due (lines_of g)
unfolding lines_of due_after
lines-in-order g f =
    one_line (locks_first g.locks) tt (all-variables g.vars (thread_lines g.threads) (all-threads (length g.vars) g.locks g.threads f.some f.threads))
