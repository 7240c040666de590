-- The whole text: from its parts, and in its buffer.
use Rattle.std.specs.Prelude.{Err}
use mathlib.Core.Path.{◌≡◌, refl, sym, ap, ◌∙◌}
use mathlib.Core.List.{List, [], ◌∷◌, ◌++◌, append_assoc}
use Prim.Native.Nat.{ℕ, ◌-◌, ◌≤◌, ◌<◌}
use native.Mathlib.Decide.{dec_le}
use native.Mathlib.Omega.{arith}
use borrow.Author.Tests.{le-leb, lt-leb}
use lib.ListN.{length, replicate}
use Rattle.rules.specs.Refusal.{number, output_full}
use Rattle.rules.specs.Interval.{Interval}
use Rattle.rules.specs.Program.{Statement, Thread, Program}
use Rattle.rules.specs.Format.{Bytes, read_sheet}
use Rattle.rules.specs.Encoding.{in_row}
use Rattle.rules.specs.Product.{bytes, decimal}
use Rattle.text.specs.Lines.{Line, locks_line, var_line, reg_line, thread_line}
use Rattle.text.specs.Says.{each, statement_line_of, thread_lines, lines_of}
use Rattle.refusal.specs.declared.Fault.{Fault}
use Rattle.refusal.specs.Shape.{rule_of}
use Rattle.reader.specs.declared.Index.{Index}
use Rattle.reader.specs.Index.{index_of}
use Rattle.reader.specs.Facts.{program_in, ranges}
use Rattle.reader.proofs.Facts.{accepted, rejected, program-is}
use Rattle.writing.specs.Out.{Writes}
use Rattle.writing.proofs.Written.{writes-length, fits-front, writes-past, filled-up}
use Rattle.printed.specs.Print.{print_line, ended, print_header, print, Printing, written_into, printed, print_sheet}
use Rattle.print.specs.Texts.{statement_text, range_text, thread_text, head_text, header_of, Indexes}
use Rattle.print.specs.Shape.{refused_by}
use Rattle.print.proofs.IndexLaws.{facts, index_is}

-- ---- rows of lines

each_row : {A : Type 0} (f : A → Line) (g : A → Bytes) → ((x : A) → ended (f x) ≡ g x) → (xs : List A) (ys : List Line) → in_row ended (each f xs ys) ≡ in_row g xs ++ in_row ended ys
unfolding each in_row
each_row f g same [] ys = refl
each_row f g same (x ∷ xs) ys = rw (same x, each_row f g same xs ys, append_assoc (g x) (in_row g xs) (in_row ended ys))

vars-row : (vs : List Interval) (ys : List Line) → in_row ended (each var_line vs ys) ≡ in_row (range_text (bytes "var ")) vs ++ in_row ended ys
unfolding ended print_line range_text
vars-row = each_row var_line (range_text (bytes "var ")) (λ i. refl)

regs-row : (rs : List Interval) (ys : List Line) → in_row ended (each reg_line rs ys) ≡ in_row (range_text (bytes "reg ")) rs ++ in_row ended ys
unfolding ended print_line range_text
regs-row = each_row reg_line (range_text (bytes "reg ")) (λ i. refl)

statements-row : (xs : List Statement) (ys : List Line) → in_row ended (each statement_line_of xs ys) ≡ in_row statement_text xs ++ in_row ended ys
unfolding statement_text
statements-row = each_row statement_line_of statement_text (λ x. refl)

thread-led : (u : Bytes) → ended thread_line ++ u ≡ bytes "thread\n" ++ u
unfolding ended print_line
thread-led u = refl

threads-row : (ts : List Thread) → in_row ended (thread_lines ts) ≡ in_row thread_text ts
unfolding thread_lines in_row thread_text
threads-row [] = refl
threads-row (t ∷ ts) =
    thread-led _
    ∙ rw (
      regs-row t.regs (each statement_line_of t.statements (thread_lines ts)),
      statements-row t.statements (thread_lines ts),
      threads-row ts,
      append_assoc (in_row (range_text (bytes "reg ")) t.regs) (in_row statement_text t.statements) (in_row thread_text ts),
    )

-- ---- the header

pub head-text : (i : Index) (limit budget low high : ℕ) → limit ≡ i.limit.0 → budget ≡ i.budget → low ≡ i.label_low.0 → high ≡ i.label_high.0
    → (bytes "limit " ++ decimal limit) ++ ((bytes "\nbudget " ++ decimal budget) ++ ((bytes "\nlabel " ++ decimal low) ++ ((bytes ".." ++ decimal high) ++ ((bytes "\nlocks " ++ decimal i.locks) ++ 10 ∷ []))))
    ≡ head_text (header_of i) i.locks
unfolding head_text print_header ended print_line
head-text i limit budget low high e f g h = rw (e, f, g, h) (simp append_assoc)

pub print-whole : (g : Program) → head_text g.header g.locks ++ (in_row (range_text (bytes "var ")) g.vars ++ in_row thread_text g.threads) ≡ print g
unfolding print lines_of in_row head_text
print-whole g =
    append_assoc (print_header g.header) (ended (locks_line g.locks)) (in_row (range_text (bytes "var ")) g.vars ++ in_row thread_text g.threads)
    ∙ sym (rw (vars-row g.vars (thread_lines g.threads), threads-row g.threads))

module _ (s : Bytes) (i : Index) (w : Indexes s i) where
  header_is : header_of i ≡ (program_in s).header
  header_is = let x = index_is s i w in λ j. record { limit = x.limit j; budget = x.budget j; label_low = x.label_low_lem j; label_high = x.label_high_lem j }

  pub program-text : head_text (header_of i) i.locks ++ (in_row (range_text (bytes "var ")) (ranges s 23 i.variables) ++ in_row thread_text (program_in s).threads) ≡ print (program_in s)
  program-text =
      let g = program_in s in
      let x = index_is s i w in
      (λ j. head_text (header_is j) (x.locks j) ++ (in_row (range_text (bytes "var ")) (ranges s 23 (x.variables j)) ++ in_row thread_text g.threads))
      ∙ ap (λ (vs : List Interval). head_text g.header g.locks ++ (in_row (range_text (bytes "var ")) vs ++ in_row thread_text g.threads)) (sym (facts s i w).vars)
      ∙ print-whole g

-- ---- the buffer

module _ (t l m : Bytes) (n : ℕ) (e : Writes t l 0 m n) where
  pub text-fits : n ≤ length m → (k : Bytes) (q : ℕ) → Writes (replicate (length m - n) 0) m n k q
      → ◌≡◌ {A = Printing} (record { refusal = 0; place = 0; written = n; text = k }) (written_into (length l) t)
  unfolding written_into
  text-fits h k q f = elim (dec_le (length t) (length l)) [
    | yes r ↦
        let is = filled-up 0 t l m k n q e f r in
        let ends = (fits-front t l m n e r).1 in
        rw (le-leb (length t) (length l) r) (λ i. record { refusal = 0; place = 0; written = ends i; text = is i })
    | no r ↦ let past = writes-past t l m n e (omega arith) in let same = writes-length t l m 0 n e in absurd (omega arith)
  ]

  pub text-full : length m < n → {x : Printing} → x ≡ refused_by (length m) (number output_full) 0 → x ≡ written_into (length l) t
  unfolding written_into
  text-full h be = elim (dec_le (length t) (length l)) [
    | yes r ↦ let ends = (fits-front t l m n e r).1 in let same = writes-length t l m 0 n e in absurd (omega arith)
    | no r ↦
        let over : length l < length t = omega arith in
        let same = writes-length t l m 0 n e in
        rw (lt-leb (length t) (length l) over) (be ∙ (λ i. refused_by (same i) (number output_full) 0))
  ]

-- ---- the sheet

module _ (s : Bytes) (room : ℕ) where
  pub print-read : (i : Index) → Indexes s i → written_into room (print (program_in s)) ≡ print_sheet room s
  unfolding print_sheet printed
  print-read i is =
      let a = accepted (read_sheet s) is in
      ap (λ (g : Program). written_into room (print g)) (program-is s a.0 a.1 a.2) ∙ sym (ap (printed room) a.2)

  pub print-refused : (f : Fault) → index_of (read_sheet s) ≡ Err f → refused_by room (number (rule_of f.refusal)) f.place ≡ print_sheet room s
  unfolding print_sheet printed
  print-refused f is = sym (ap (printed room) (rejected (read_sheet s) is))
