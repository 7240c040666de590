-- Registers at one line: where a `reg` line may stand, one if the line is a `reg` line; elsewhere none.
use mathlib.Core.Path.{◌≡◌, refl, sym, ap, subst, ◌∙◌}
use mathlib.Core.Bool.{Bool, true, false}
use mathlib.Core.List.{[], ◌∷◌}
use Prim.Native.Nat.{ℕ, ◌≤◌, ◌<◌}
use native.Mathlib.Decide.{dec_lt}
use native.Mathlib.Omega.{arith}
use borrow.Author.Tests.{eqb-true, eqb-false}
use lib.Dec.{eqb}
use lib.ListN.{length, get_or}
use Rattle.rules.specs.Format.{Bytes}
use Rattle.rules.specs.Interval.{interval}
use Rattle.rules.specs.Program.{halt}
use Rattle.text.specs.Words.{bytes, Read, stop, took, then_read, map_read, is_digit, spaces, apart, signed, word, spell, keyword, line_end}
use Rattle.text.specs.Lines.{Line, reg_line, statement_line, range, word_only, timed, Due, locks_due, var_due, reg_due, statement_due, due_after, takes_times, line_here, read_line, starts, head_line}
use Rattle.text.specs.Claims.{MayStand, locks_first, another_var, first_thread, another_reg, first_statement, another_statement, another_thread}
use Rattle.text.proofs.LinesWithin.{Took}
use Rattle.text.proofs.InTurn.{then-any, then-with, line-end-took, timed-suits, line-suits}
use Rattle.scan.proofs.WordLaws.{over, word-other}
use Rattle.scan.proofs.Readings.{map-took}
use Rattle.lines.proofs.DispatchLaws.{spaces-twice, reg-line, first-halt-line, timed-first, range-there}
use Rattle.lines.specs.Registers.{register_line, on_register, ahead_of, ahead_with}

-- ---- where no `reg` line is due

abbrev None : Line → Type 0
None x = (p n : ℕ) → 0 ≡ ahead_with n (starts p x ∷ [])

abbrev NoneAt : Due → Line → Type 0
NoneAt locks_due x = None x
NoneAt var_due x = None x
NoneAt reg_due x = Unit {0}
NoneAt statement_due x = None x

none-at : {due : Due} {x : Line} → MayStand due x → NoneAt due x
unfolding ahead_with
none-at (locks_first k) = λ p n. refl
none-at (another_var i) = λ p n. refl
none-at first_thread = λ p n. refl
none-at (another_reg i) = tt
none-at (first_statement a b x) = tt
none-at (another_statement a b x) = λ p n. refl
none-at another_thread = λ p n. refl

pub none_read : (due : Due) (s : Bytes) {x : Line} {r : Bytes} → read_line due s ≡ took x r → NoneAt due x
none_read due s e = none-at (subst (Took (MayStand due)) e (line-suits due s))

-- ---- where one is due

-- it stands among the statements
abbrev Among : Read Line → Type 0
Among g = Took (MayStand statement_due) g

ended : (g : Read Line) → Among g → Among (then_read g line_end)
unfolding line_end
ended g h = then-with (MayStand statement_due) (MayStand statement_due) g line_end h
    (λ z r p. line-end-took (MayStand statement_due) z p (spaces r))

module _ (s : Bytes) where
  line-empty : length (spaces s) ≤ 0 → read_line reg_due s ≡ stop (spaces s)
  unfolding read_line line_here then_read
  line-empty h = let z : spaces s ≡ [] = over (spaces s) 0 h in rw z

  reg-there : head_line (bytes "reg") (range signed interval) (spaces s) ≡ register_line s
  unfolding register_line head_line word_only keyword
  reg-there = ap (λ u. then_read
      (then_read (then_read (spell (word (bytes "reg") tt ∷ []) u) apart) (λ _ r. range signed interval r)) line_end) (spaces-twice s)

  -- by the first byte
  module _ (h : 0 < length (spaces s)) where
    is_reg : get_or (spaces s) 0 0 ≡ 114 → read_line reg_due s ≡ map_read reg_line (register_line s)
    unfolding read_line is_digit
    is_reg e =
        sym (reg-line (spaces s) 0 h (spaces-twice s) (ap is_digit e) e) ∙ sym (range-there (spaces s) 0 (bytes "reg") reg_line)
        ∙ ap (map_read reg_line) reg-there

    not-reg : (get_or (spaces s) 0 0 ≡ 114 → ⊥) → register_line s ≡ stop (spaces s)
    unfolding register_line head_line word_only keyword then_read
    not-reg n = let z = word-other (bytes "reg") (spaces s) 0 0 (omega arith) h n in rw z

    statement-stands : (get_or (spaces s) 0 0 ≡ 114 → ⊥) → Among (read_line reg_due s)
    unfolding read_line takes_times
    statement-stands n = by (is_digit (get_or (spaces s) 0 0)) refl
      where
        by : (d : Bool) → is_digit (get_or (spaces s) 0 0) ≡ d → Among (then_read (line_here reg_due (spaces s)) line_end)
        by true e = subst (λ g. Among (then_read g line_end)) (timed-first (spaces s) 0 h (spaces-twice s) e)
            (ended (timed (spaces s)) (timed-suits statement_due tt (spaces s)))
        by false e =
            subst Among (first-halt-line (spaces s) 0 h (spaces-twice s) e n)
            (ended (then_read (word_only (bytes "halt") (spaces s)) (λ _ t. took (statement_line 0 0 halt) t))
            (then-any (MayStand statement_due) (word_only (bytes "halt") (spaces s)) _ (λ _ r. another_statement 0 0 halt)))

  pub reg_read : {x : Line} {r : Bytes} → read_line reg_due s ≡ took x r → (p : ℕ)
      → on_register (register_line s) (ahead_of reg_due) ≡ ahead_with (ahead_of (due_after x) r) (starts p x ∷ [])
  unfolding on_register ahead_with due_after
  reg_read {x} {r} e p = elim (dec_lt 0 (length (spaces s))) [
    | no n ↦ let z : ◌≡◌ {A = Read Line} (stop (spaces s)) (took x r) = sym (line-empty (omega arith))
        ∙ e in let y : ◌≡◌ {A = ℕ} 0 1 = cc in absurd (omega arith)
    | yes h ↦ by h (eqb (get_or (spaces s) 0 0) 114) refl
  ]
    where
      by : 0 < length (spaces s) → (t : Bool) → eqb (get_or (spaces s) 0 0) 114 ≡ t
          → on_register (register_line s) (ahead_of reg_due) ≡ ahead_with (ahead_of (due_after x) r) (starts p x ∷ [])
      by h true t =
          let z = map-took reg_line (register_line s) (sym e ∙ is_reg h (eqb-true (get_or (spaces s) 0 0) 114 t)) in
          let i = z.1.0 in
          let j = z.1.1 in
          rw (i, j)
      by h false t =
          let n = eqb-false (get_or (spaces s) 0 0) 114 t in
          let z = not-reg h n in
          rw z (none-at (subst Among e (statement-stands h n)) p (ahead_of (due_after x) r))
