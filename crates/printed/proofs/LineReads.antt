-- A printed line reads back.
use mathlib.Core.Path.{◌≡◌, refl, sym, ◌∙◌}
use mathlib.Core.Bool.{true, false}
use mathlib.Core.List.{◌∷◌, ◌++◌, append_assoc}
use Prim.Native.Nat.{ℕ, suc, ◌≤◌}
use native.Mathlib.Omega.{arith}
use lib.Dec.{eqb}
use lib.IntN.{ℤ}
use Rattle.rules.specs.Format.{Bytes}
use Rattle.rules.specs.Product.{bytes, decimal}
use Rattle.rules.specs.Interval.{Interval, interval}
use Rattle.rules.specs.Program.{Action, halt, skip, assign, branch, store, load, unlock, lock, is_halt}
use Rattle.text.specs.Words.{Read, took, then_read, map_read, is_digit, is_letter, spaces, apart, number, signed, following, whole, or_none, or_whole, spell, keyword, symbol, name, newline, line_end}
use Rattle.text.specs.Notation.{link, conjunctions, most_parentheses, on_thing, is_condition, either, thing, atom, read_sum, read_test}
use Rattle.text.specs.Lines.{Line, locks_line, var_line, thread_line, reg_line, statement_line, range, word_only, assignment, jump, transfer, actions, action_here, timed, Due, locks_due, var_due, reg_due, statement_due, openings, takes_times, line_here, read_line}
use Rattle.text.specs.Claims.{MayStand, locks_first, another_var, first_thread, another_reg, first_statement, another_statement, another_thread}
use Rattle.text.proofs.Follows.{word_ends, no_sign}
use Rattle.printed.specs.Print.{print_value, print_arith, any_arith, print_condition, any_condition, print_range, print_times, print_action, print_line}
use Rattle.printed.proofs.Numbers.{led, digit-is-not, digits-read, number-reads, value-reads}
use Rattle.printed.proofs.Arithmetic.{nesting, sum-reads-back}
use Rattle.printed.proofs.ConditionDue.{either_is, sum-space}
use Rattle.printed.proofs.Conditions.{nesting-of, condition-reads-back}

-- ---- spaces before a word are nothing

pub number-space : (s : Bytes) → number (32 ∷ s) ≡ number s
unfolding number spaces
number-space s = refl

signed-space : (s : Bytes) → signed (32 ∷ s) ≡ signed s
unfolding signed spaces
signed-space s = refl

either-space : (d : ℕ) (s : Bytes) → either d (32 ∷ s) ≡ either d s
unfolding thing atom
either-space d s = either_is d (32 ∷ s) ∙ sym (either_is d s)

-- a statement's line begins with a digit, and so with its times
timed-line : (due : Due) (n : ℕ) (u : Bytes) → takes_times due ≡ true → line_here due (spaces (decimal n ++ u)) ≡ timed (decimal n ++ u)
unfolding line_here spaces is_digit
timed-line due n u h =
    let x = led n in
    let e : eqb x.head 32 ≡ false = digit-is-not x.head 32 x.is_digit_lem refl in
    rw (x.is, e, h, x.is_digit_lem)

-- ---- two ends

pub range-reads : {A B : Type 0} (one : Bytes → Read A) (f : A → A → B) (a b : A) (s t rest : Bytes)
    → one s ≡ took a (46 ∷ 46 ∷ t) → one t ≡ took b rest → range one f s ≡ took (f a b) rest
unfolding range symbol spell following whole or_none or_whole spaces then_read map_read
range-reads one f a b s t rest h k = rw (h, k)

-- ---- what a statement does, up to the line's end

-- what is asked of an action: no more parentheses than may open; and halt has no times
abbrev pub Shallow : ℕ → ℕ → Action → Type 0
Shallow a b halt = (a ≡ 0) × (b ≡ 0)
Shallow a b skip = Unit {0}
Shallow a b (assign r x) = nesting x ≤ suc most_parentheses
Shallow a b (branch t c) = nesting-of c ≤ suc most_parentheses
Shallow a b (store r v) = Unit {0}
Shallow a b (load r v) = Unit {0}
Shallow a b (unlock l) = Unit {0}
Shallow a b (lock l) = Unit {0}

action-reads : (a b : ℕ) (x : Action) (rest : Bytes) → is_halt x ≡ false → Shallow a b x → action_here (print_action x ++ 10 ∷ rest) ≡ took x (10 ∷ rest)
unfolding is_halt action_here print_action actions keyword spell following whole or_none or_whole spaces apart is_digit is_letter word_ends no_sign then_read map_read assignment jump transfer word_only name symbol read_sum read_test is_condition on_thing link conjunctions
action-reads a b halt rest n h = let z : ◌≡◌ {A = ℕ} 0 1 = cc in absurd (omega arith)
action-reads a b skip rest n h = refl
action-reads a b (assign r x) rest n h =
    rw (
      append_assoc (decimal r) (bytes " := " ++ print_arith any_arith x) (10 ∷ rest),
      digits-read r (bytes " := " ++ (print_arith any_arith x ++ 10 ∷ rest)) tt,
      sum-space most_parentheses (print_arith any_arith x ++ 10 ∷ rest),
      sum-reads-back most_parentheses x (10 ∷ rest) h (record { word_ends_lem = tt; no_sign_lem = tt }),
    )
action-reads a b (branch t c) rest n h =
    rw (
      append_assoc (print_condition any_condition c) (bytes " goto " ++ decimal t) (10 ∷ rest),
      either-space most_parentheses (print_condition any_condition c ++ (bytes " goto " ++ (decimal t ++ 10 ∷ rest))),
      condition-reads-back most_parentheses c (bytes " goto " ++ (decimal t ++ 10 ∷ rest)) h (record { word_ends_lem = tt; no_sign_lem = tt }) refl,
      number-space (decimal t ++ 10 ∷ rest),
      number-reads t (10 ∷ rest) tt,
    )
action-reads a b (store r v) rest n h =
    rw (append_assoc (decimal r) (bytes " to x" ++ decimal v) (10 ∷ rest), digits-read r (bytes " to x" ++ (decimal v ++ 10 ∷ rest)) tt, digits-read v (10 ∷ rest) tt)
action-reads a b (load r v) rest n h =
    rw (append_assoc (decimal r) (bytes " from x" ++ decimal v) (10 ∷ rest), digits-read r (bytes " from x" ++ (decimal v ++ 10 ∷ rest)) tt, digits-read v (10 ∷ rest) tt)
action-reads a b (unlock l) rest n h = rw (digits-read l (10 ∷ rest) tt)
action-reads a b (lock l) rest n h = rw (digits-read l (10 ∷ rest) tt)

no-space : (x : Action) (u : Bytes) → spaces (print_action x ++ u) ≡ print_action x ++ u
unfolding print_action spaces
no-space halt u = refl
no-space skip u = refl
no-space (assign r x) u = refl
no-space (branch t c) u = refl
no-space (store r v) u = refl
no-space (load r v) u = refl
no-space (unlock l) u = refl
no-space (lock l) u = refl

-- ---- lines

-- a line that can be printed
abbrev pub Printable : Line → Type 0
Printable (locks_line n) = Unit {0}
Printable (var_line i) = Unit {0}
Printable thread_line = Unit {0}
Printable (reg_line i) = Unit {0}
Printable (statement_line a b x) = Shallow a b x

range-line : (i : Interval) (rest : Bytes) (f : ℤ → ℤ → Line) → range signed f (32 ∷ (print_range i ++ 10 ∷ rest)) ≡ took (f i.low i.high) (10 ∷ rest)
unfolding print_range is_digit is_letter word_ends
range-line i rest f =
    rw (append_assoc (print_value i.low) (bytes ".." ++ print_value i.high) (10 ∷ rest))
    (range-reads signed f i.low i.high _ (print_value i.high ++ 10 ∷ rest) (10 ∷ rest)
    (signed-space _ ∙ value-reads i.low (bytes ".." ++ (print_value i.high ++ 10 ∷ rest)) tt)
    (value-reads i.high (10 ∷ rest) tt))

-- a statement with its times
timed-reads : (due : Due) (a b : ℕ) (x : Action) (rest : Bytes) → takes_times due ≡ true → is_halt x ≡ false → Shallow a b x
    → read_line due (print_line (statement_line a b x) ++ 10 ∷ rest) ≡ took (statement_line a b x) rest
unfolding read_line print_line print_times timed then_read map_read line_end newline spaces is_digit is_letter word_ends
timed-reads due a b x rest t n h =
    let s = print_action x in
    rw (
      n,
      append_assoc (decimal a ++ (bytes ".." ++ (decimal b ++ bytes " "))) s (10 ∷ rest),
      append_assoc (decimal a) (bytes ".." ++ (decimal b ++ bytes " ")) (s ++ 10 ∷ rest),
      append_assoc (decimal b) (bytes " ") (s ++ 10 ∷ rest),
      timed-line due a (bytes ".." ++ (decimal b ++ (32 ∷ (s ++ 10 ∷ rest)))) t,
      range-reads {B = Action → Line} number (λ a b x. statement_line a b x) a b _ (decimal b ++ (32 ∷ (s ++ 10 ∷ rest))) (32 ∷ (s ++ 10 ∷ rest))
          (number-reads a (bytes ".." ++ (decimal b ++ (32 ∷ (s ++ 10 ∷ rest)))) tt) (number-reads b (32 ∷ (s ++ 10 ∷ rest)) tt),
      no-space x (10 ∷ rest),
      action-reads a b x rest n h,
    )

-- halt has none
halt-reads : (due : Due) (rest : Bytes) → takes_times due ≡ true → read_line due (bytes "halt" ++ 10 ∷ rest) ≡ took (statement_line 0 0 halt) rest
unfolding read_line line_here openings takes_times keyword spell following whole or_none or_whole spaces apart is_digit is_letter then_read line_end newline
halt-reads locks_due rest t = let z : ◌≡◌ {A = ℕ} 0 1 = cc in absurd (omega arith)
halt-reads var_due rest t = let z : ◌≡◌ {A = ℕ} 0 1 = cc in absurd (omega arith)
halt-reads reg_due rest t = refl
halt-reads statement_due rest t = refl

statement-reads : (due : Due) (a b : ℕ) (x : Action) (rest : Bytes) → takes_times due ≡ true → Shallow a b x
    → read_line due (print_line (statement_line a b x) ++ 10 ∷ rest) ≡ took (statement_line a b x) rest
unfolding is_halt print_line print_times print_action
statement-reads due a b halt rest t h = rw (h.0, h.1) (halt-reads due rest t)
statement-reads due a b skip rest t h = timed-reads due a b skip rest t refl h
statement-reads due a b (assign r x) rest t h = timed-reads due a b (assign r x) rest t refl h
statement-reads due a b (branch k c) rest t h = timed-reads due a b (branch k c) rest t refl h
statement-reads due a b (store r v) rest t h = timed-reads due a b (store r v) rest t refl h
statement-reads due a b (load r v) rest t h = timed-reads due a b (load r v) rest t refl h
statement-reads due a b (unlock l) rest t h = timed-reads due a b (unlock l) rest t refl h
statement-reads due a b (lock l) rest t h = timed-reads due a b (lock l) rest t refl h

pub line_reads : {due : Due} {x : Line} → MayStand due x → Printable x → (rest : Bytes) → read_line due (print_line x ++ 10 ∷ rest) ≡ took x rest
unfolding print_line read_line line_here openings takes_times keyword spell following whole or_none or_whole spaces apart is_digit is_letter word_ends then_read map_read line_end newline
line_reads (locks_first n) h rest = rw (number-space (decimal n ++ 10 ∷ rest), number-reads n (10 ∷ rest) tt)
line_reads (another_var i) h rest = rw (range-line i rest (λ a b. var_line (interval a b)))
line_reads first_thread h rest = refl
line_reads (another_reg i) h rest = rw (range-line i rest (λ a b. reg_line (interval a b)))
line_reads (first_statement a b x) h rest = statement-reads reg_due a b x rest refl h
line_reads (another_statement a b x) h rest = statement-reads statement_due a b x rest refl h
line_reads another_thread h rest = refl
