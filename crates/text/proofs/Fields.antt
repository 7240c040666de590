-- The fields of a program's lines are its sheet.
use mathlib.Core.Path.{◌≡◌, refl, ap}
use mathlib.Core.List.{List, [], ◌∷◌, ◌++◌, append_assoc}
use Prim.Native.Nat.{ℕ, suc, ◌≤◌, min}
use native.Mathlib.Omega.{arith}
use lib.ListN.{length}
use Rattle.rules.specs.Base.{Each, ◌&◌}
use Rattle.rules.specs.Interval.{Interval}
use Rattle.rules.specs.Program.{Statement, Thread, Program}
use Rattle.rules.specs.Format.{Bytes}
use Rattle.rules.specs.Encoding.{in_row, encode_header, encode_range, encode_statement, encode_opening, encode_thread, encode_front, encode}
use Rattle.text.specs.Lines.{Line, locks_line, var_line, thread_line, reg_line, statement_line}
use Rattle.text.specs.Convert.{field_of}
use Rattle.text.specs.Says.{each, statement_line_of, thread_lines, lines_of}

-- ---- lines without their places

-- `reg` lines from here on
unfoldable pub ahead : List Line → ℕ
ahead [] = 0
ahead (locks_line n ∷ xs) = 0
ahead (var_line i ∷ xs) = 0
ahead (thread_line ∷ xs) = 0
ahead (reg_line i ∷ xs) = suc (ahead xs)
ahead (statement_line a b x ∷ xs) = 0

unfoldable pub fields_of : List Line → Bytes
fields_of [] = []
fields_of (x ∷ xs) = field_of (ahead xs) x ++ fields_of xs

-- ---- row by row

module _ {A : Type 0} (line : A → Line) (write : A → Bytes) (same : (n : ℕ) (x : A) → field_of n (line x) ≡ write x) where
  row : (xs : List A) (ys : List Line) → fields_of (each line xs ys) ≡ in_row write xs ++ fields_of ys
  unfolding each fields_of in_row
  row [] ys = refl
  row (x ∷ xs) ys = rw (same (ahead (each line xs ys)) x, row xs ys, append_assoc (write x) (in_row write xs) (fields_of ys))

vars-row : (vs : List Interval) (ys : List Line) → fields_of (each var_line vs ys) ≡ in_row (encode_range 2) vs ++ fields_of ys
unfolding field_of
vars-row = row var_line (encode_range 2) (λ n x. refl)

regs-row : (rs : List Interval) (ys : List Line) → fields_of (each reg_line rs ys) ≡ in_row (encode_range 5) rs ++ fields_of ys
unfolding field_of
regs-row = row reg_line (encode_range 5) (λ n x. refl)

statements-row : (xs : List Statement) (ys : List Line) → fields_of (each statement_line_of xs ys) ≡ in_row encode_statement xs ++ fields_of ys
unfolding field_of statement_line_of encode_statement
statements-row = row statement_line_of encode_statement (λ n x. refl)

regs-ahead : (rs : List Interval) (ys : List Line) → ahead ys ≡ 0 → ahead (each reg_line rs ys) ≡ length rs
unfolding each ahead
regs-ahead [] ys h = h
regs-ahead (r ∷ rs) ys h = ap suc (regs-ahead rs ys h)

none_ahead : (xs : List Statement) (ts : List Thread) → ahead (each statement_line_of xs (thread_lines ts)) ≡ 0
unfolding each ahead thread_lines statement_line_of
none_ahead [] [] = refl
none_ahead [] (t ∷ ts) = refl
none_ahead (x ∷ xs) ts = refl

threads-row : (ts : List Thread) → Each (λ (t : Thread). length t.regs ≤ 255) ts → fields_of (thread_lines ts) ≡ in_row encode_thread ts
unfolding thread_lines fields_of field_of in_row encode_thread encode_opening
threads-row [] h = refl
threads-row (t ∷ ts) (l & h) =
    let rs = t.regs in
    let xs = t.statements in
    let m : min (length rs) 255 ≡ length rs = omega arith in
    rw (
      regs-ahead rs (each statement_line_of xs (thread_lines ts)) (none_ahead xs ts),
      m,
      regs-row rs (each statement_line_of xs (thread_lines ts)),
      statements-row xs (thread_lines ts),
      threads-row ts h,
      append_assoc (in_row (encode_range 5) rs) (in_row encode_statement xs) (in_row encode_thread ts),
    )

pub fields-are : (g : Program) → Each (λ (t : Thread). length t.regs ≤ 255) g.threads → encode_header g.header ++ fields_of (lines_of g) ≡ encode g
unfolding lines_of fields_of encode encode_front field_of
fields-are g h = rw (vars-row g.vars (thread_lines g.threads), threads-row g.threads h)
