-- The lines of a program that has a sheet hold no number too big for its field.
use mathlib.Core.Bool.{◌&&◌}
use mathlib.Core.List.{List, [], ◌∷◌}
use Prim.Native.Nat.{ℕ, zero, suc, ◌≤◌, ◌<◌}
use native.Mathlib.Omega.{arith}
use lib.Dec.{T, ltb→lt, lt→ltb}
use lib.ListN.{length}
use Rattle.rules.specs.Base.{Each, nil, ◌&◌}
use Rattle.rules.specs.Constants.{deepest}
use Rattle.rules.specs.Interval.{Interval}
use Rattle.rules.specs.Program.{Arith, constant, register, operation, Condition, always, never, negation, conjunction, equal, less}
use Rattle.rules.specs.Program.{Action, halt, skip, assign, branch, store, load, unlock, lock, Statement, Thread, Program}
use Rattle.rules.specs.Format.{Names, target_fits}
use Rattle.rules.specs.Encoding.{code_of}
use Rattle.rules.specs.Fits.{RangeFits, ArithFits, ConditionFits, ActionFits, StatementFits, ThreadFits, ProgramFits}
use Rattle.text.specs.Lines.{Line, var_line, reg_line}
use Rattle.text.specs.Convert.{fits_byte, fits_two, fits_signed, range_fits, arith_fits, condition_fits, action_fits, line_fits}
use Rattle.text.specs.Says.{each, statement_line_of, thread_lines, lines_of}
use Rattle.rules.proofs.Base.{and_both, each_map}
use Rattle.rules.proofs.Format.{times-in-order}

-- ---- expressions

byte_fits : (n most : ℕ) → n < most → most ≤ 256 → T (fits_byte n)
unfolding fits_byte
byte_fits n most h l = lt→ltb n 256 (omega arith)

arith-fits : (d n : ℕ) (a : Arith) → n ≤ 256 → ArithFits d n a → T (arith_fits a)
unfolding arith_fits fits_signed
arith-fits zero n a l h = absurd h
arith-fits (suc d) n (constant z) l h = h
arith-fits (suc d) n (register r) l h = byte_fits r n h l
arith-fits (suc d) n (operation o a b) l h = and_both (arith_fits a) (arith_fits b) (arith-fits d n a l h.0) (arith-fits d n b l h.1)

test_fits : (d n : ℕ) (c : Condition) → n ≤ 256 → ConditionFits d n c → T (condition_fits c)
unfolding condition_fits
test_fits zero n c l h = absurd h
test_fits (suc d) n always l h = tt
test_fits (suc d) n never l h = tt
test_fits (suc d) n (negation c) l h = test_fits d n c l h
test_fits (suc d) n (conjunction c e) l h = and_both (condition_fits c) (condition_fits e) (test_fits d n c l h.0) (test_fits d n e l h.1)
test_fits (suc d) n (equal a b) l h = and_both (arith_fits a) (arith_fits b) (arith-fits d n a l h.0) (arith-fits d n b l h.1)
test_fits (suc d) n (less a b) l h = and_both (arith_fits a) (arith_fits b) (arith-fits d n a l h.0) (arith-fits d n b l h.1)

-- ---- statements

-- so few registers, variables, locks and statements that a byte holds each number
pub record FewNames (ns : Names) (n : ℕ) : Type 0 where
  pub regs : ns.regs ≤ 256
  pub vars : ns.vars ≤ 256
  pub locks : ns.locks ≤ 256
  pub statements : n ≤ 256

target_fits_lem : (n t : ℕ) (c : Condition) → T (target_fits n (branch t c)) → n ≤ 256 → T (fits_byte t)
unfolding target_fits
target_fits_lem n t c h l = byte_fits t n (ltb→lt t n h) l

action-fits : (ns : Names) (n : ℕ) (x : Action) → FewNames ns n → ActionFits ns x → T (target_fits n x) → T (action_fits x)
unfolding action_fits
action-fits ns n halt f h t = tt
action-fits ns n skip f h t = tt
action-fits ns n (assign r a) f h t =
    and_both (fits_byte r) (arith_fits a) (byte_fits r ns.regs h.0 f.regs) (arith-fits deepest ns.regs a f.regs h.1)
action-fits ns n (branch k c) f h t =
    and_both (fits_byte k) (condition_fits c) (target_fits_lem n k c t f.statements) (test_fits deepest ns.regs c f.regs h)
action-fits ns n (store r v) f h t =
    and_both (fits_byte r) (fits_byte v) (byte_fits r ns.regs h.0 f.regs) (byte_fits v ns.vars h.1 f.vars)
action-fits ns n (load r v) f h t =
    and_both (fits_byte r) (fits_byte v) (byte_fits r ns.regs h.0 f.regs) (byte_fits v ns.vars h.1 f.vars)
action-fits ns n (unlock l) f h t = byte_fits l ns.locks h f.locks
action-fits ns n (lock l) f h t = byte_fits l ns.locks h f.locks

statement-fits : (ns : Names) (n : ℕ) (x : Statement) → FewNames ns n → StatementFits ns x → T (target_fits n x.action) → T (line_fits (statement_line_of x))
unfolding line_fits statement_line_of fits_two
statement-fits ns n x f h t =
    let o = times-in-order (code_of x.action) x.least x.greatest h.times in
    let g : x.greatest ≤ 65535 = h.two_bytes in
    and_both (fits_two x.least && fits_two x.greatest) (action_fits x.action)
    (and_both (fits_two x.least) (fits_two x.greatest) (lt→ltb x.least 65536 (omega arith)) (lt→ltb x.greatest 65536 (omega arith)))
    (action-fits ns n x.action f h.action t)

-- ---- every line

each_line : {A : Type 0} {P : Line → Type 0} {Q : A → Type 0} (line : A → Line) → ((x : A) → Q x → P (line x)) → {xs : List A} → Each Q xs
    → (ys : List Line) → Each P ys → Each P (each line xs ys)
unfolding each
each_line line f nil ys h = h
each_line line f (◌&◌ {x} q qs) ys h = f x q & each_line line f qs ys h

each-of-both : {A : Type 0} {P Q : A → Type 0} {xs : List A} → Each P xs → Each Q xs → Each (λ x. P x × Q x) xs
each-of-both nil nil = nil
each-of-both (p & ps) (q & qs) = (p, q) & each-of-both ps qs

abbrev LineFits : Line → Type 0
LineFits x = T (line_fits x)

range-fits : (i : Interval) → RangeFits i → T (range_fits i)
unfolding range_fits fits_signed
range-fits i h = and_both (fits_signed i.low) (fits_signed i.high) h.low h.high

threads-fit : (vars locks : ℕ) (ts : List Thread) → vars ≤ 256 → locks ≤ 256 → Each (ThreadFits vars locks) ts → Each LineFits (thread_lines ts)
unfolding thread_lines line_fits
threads-fit vars locks [] v l nil = nil
threads-fit vars locks (t ∷ ts) v l (h & hs) =
    let n = length t.statements in
    let ns : Names = record { regs = length t.regs; vars = vars; locks = locks } in
    let a = h.regs_few in
    let b = h.few in
    let f : FewNames ns n = record { regs = omega arith; vars = v; locks = l; statements = omega arith } in
    tt & each_line reg_line range-fits h.regs (each statement_line_of t.statements (thread_lines ts))
    (each_line statement_line_of (λ x p. statement-fits ns n x f p.0 p.1) (each-of-both h.statements h.targets) (thread_lines ts)
    (threads-fit vars locks ts v l hs))

pub lines_fit : (g : Program) → ProgramFits g → Each (λ (x : Line). T (line_fits x)) (lines_of g)
unfolding lines_of line_fits
lines_fit g f =
    let k = f.locks_few in
    let v = f.vars_few in
    byte_fits g.locks 9 (omega arith) (omega arith)
    & each_line var_line range-fits f.vars (thread_lines g.threads) (threads-fit (length g.vars) g.locks g.threads (omega arith) (omega arith) f.threads)

pub few-registers : {vars locks : ℕ} {ts : List Thread} → Each (ThreadFits vars locks) ts → Each (λ (t : Thread). length t.regs ≤ 255) ts
few-registers hs = each_map (λ t h. let a = h.regs_few in omega arith) hs
