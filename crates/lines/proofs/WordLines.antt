-- Lines of one word, `thread` and `halt`: what they read, and what they write of their field.
use Rattle.std.specs.Prelude.{Ok}
use mathlib.Core.Path.{◌≡◌, refl, sym, ap, ◌∙◌}
use mathlib.Core.Bool.{true}
use Prim.Native.Nat.{ℕ, ◌+◌, min}
use lib.ListN.{drop}
use lib.Seq.{sets}
use Rattle.rules.specs.Format.{Bytes}
use Rattle.rules.specs.Program.{halt}
use Rattle.rules.specs.Encoding.{code_of, encode_operands}
use Rattle.text.specs.Words.{Read, took, then_read, line_end}
use Rattle.text.specs.Lines.{Line, thread_line, statement_line, due_after, reg_due}
use Rattle.text.specs.Convert.{fits_two, line_fits, action_fits, field_of}
use Rattle.scan.specs.Writing.{Wrote}
use Rattle.lines.specs.Registers.{ahead_of}
use Rattle.lines.specs.Writing.{field_of_one, front_bytes, due_of, Lines}
use Rattle.lines.specs.declared.line.Due.{Due}
use Rattle.lines.specs.declared.line.Due.TheVariants as due
use Rattle.scan.proofs.Readings.{line-end-took, then-took}

-- a word, and the line's end behind it
module _ (s : Bytes) (W : Read (Unit {0})) (end : ℕ) (h : took tt (drop end s) ≡ W)
    (o after : Bytes) (at e place : ℕ) (k : took tt (drop place s) ≡ line_end {A = Unit {0}} tt (drop end s)) where
  alone-put : (d : Due) (line : Line) → due_of d ≡ due_after line → line_fits line ≡ true
      → Wrote o at (field_of (ahead_of (due_after line) (drop place s)) line) true after e
      → Lines s o at after (then_read W (λ _ t. line_end line t)) (Ok (record { kind = d; place = place; end = e; fits = true }))
  unfolding Lines
  alone-put d line dues fits wrote = record {
    thing = line;
    is = then-took W _ (sym h) ∙ line-end-took tt line (drop end s) (sym k);
    kind_is = dues;
    fit_is = sym fits;
    wrote = wrote;
  }

  pub thread-put : {n : ℕ} → n ≡ min (ahead_of reg_due (drop place s)) 255 → after ≡ sets o at (field_of_one 4 n) → e ≡ min (at + 4) 65536
      → Lines s o at after (then_read W (λ _ t. line_end thread_line t))
      (Ok (record { kind = due.Reg; place = place; end = e; fits = true }))
  unfolding due_after line_fits field_of
  thread-put hn ha hb = alone-put due.Reg thread_line refl refl
      (record { end_is = hb; bytes_are = λ _ _. ha ∙ ap (λ m. sets o at (field_of_one 4 m)) hn })

  pub halt-put : after ≡ sets o at (front_bytes 5 0 0 0) → e ≡ min (at + 8) 65536
      → Lines s o at after (then_read W (λ _ t. line_end (statement_line 0 0 halt) t))
      (Ok (record { kind = due.Statement; place = place; end = e; fits = true }))
  unfolding due_after line_fits field_of action_fits fits_two code_of encode_operands
  halt-put ha hb = alone-put due.Statement (statement_line 0 0 halt) refl refl (record { end_is = hb; bytes_are = λ _ _. ha })
