-- Every printed condition, line and text has the form.
use mathlib.Core.Path.{◌≡◌, refl}
use mathlib.Core.Bool.{Bool, true, false}
use mathlib.Core.List.{List, [], ◌∷◌, ◌++◌}
use Prim.Native.Nat.{ℕ}
use native.Mathlib.Omega.{arith}
use lib.Dec.{ltb}
use Rattle.rules.specs.Format.{Bytes}
use Rattle.rules.specs.Product.{bytes, decimal}
use Rattle.rules.specs.Interval.{Interval}
use Rattle.rules.specs.Program.{Condition, always, never, negation, conjunction, equal, less}
use Rattle.rules.specs.Program.{Action, halt, skip, assign, branch, store, load, unlock, lock, is_halt, Header, Program}
use Rattle.rules.specs.Encoding.{in_row}
use Rattle.text.specs.Words.{is_digit}
use Rattle.text.specs.Lines.{Line, locks_line, var_line, thread_line, reg_line, statement_line}
use Rattle.text.specs.Says.{lines_of}
use Rattle.printed.specs.Print.{any_arith, print_condition, any_condition, one_condition, print_range, print_times, print_action, print_line, ended, print_header, print}
use Rattle.printed.specs.Form.{Before, line_start, a_space, an_opening, a_dot, another, ends_operand, in_number, passed, space_may, no_space, newline_may, digit_may, may, gone_through, Tidy}
use Rattle.printed.proofs.Form.{Goes, goes_then, Reaches, Leads, then-leads, then-reaches, Ready, spaced, opened, dotted, Ended, by_closing, Solid, operand, worded, from-ready, from-ended, from-solid, number-goes, ready-number, value-goes, between, closing-leads, group-goes, arith-goes}

-- ---- conditions

-- a word behind an operand
ended-solid : {x : Before} {s : Bytes} → Reaches Ended x s → Reaches Solid x s
ended-solid a = record { last = a.last; kind = operand a.kind; goes = a.goes }

equal-leads : Leads Ended (bytes " == ") (a_space false)
unfolding gone_through may passed is_digit ends_operand space_may
equal-leads = from-ended refl refl refl

less-leads : Leads Ended (bytes " < ") (a_space false)
unfolding gone_through may passed is_digit ends_operand space_may
less-leads = from-ended refl refl refl

and-leads : Leads Solid (bytes " && ") (a_space false)
unfolding gone_through may passed is_digit ends_operand space_may
and-leads = from-solid (from-ended refl refl refl) refl

not-leads : Leads Ready (33 ∷ []) an_opening
unfolding gone_through may passed is_digit
not-leads = from-ready refl refl refl

true-leads : Leads Ready (bytes "true") another
unfolding gone_through may passed is_digit
true-leads = from-ready refl refl refl

false-leads : Leads Ready (bytes "false") another
unfolding gone_through may passed is_digit
false-leads = from-ready refl refl refl

condition-goes : (p : ℕ) (c : Condition) (x : Before) → Ready x → Reaches Solid x (print_condition p c)
unfolding print_condition
condition-goes p always x r = record { last = another; kind = worded; goes = true-leads x r }
condition-goes p never x r = record { last = another; kind = worded; goes = false-leads x r }
condition-goes p (negation c) x r = then-reaches (not-leads x r) (condition-goes one_condition c an_opening opened)
condition-goes p (conjunction c d) x r =
    group-goes (ltb any_condition p) _ x r
    (λ y h. between (condition-goes any_condition c y h) and-leads (condition-goes one_condition d (a_space false) spaced)) closing-leads (operand by_closing)
condition-goes p (equal a b) x r = ended-solid (between (arith-goes any_arith a x r) equal-leads (arith-goes any_arith b (a_space false) spaced))
condition-goes p (less a b) x r = ended-solid (between (arith-goes any_arith a x r) less-leads (arith-goes any_arith b (a_space false) spaced))

-- ---- lines

dots-lead : Leads Ended (bytes "..") a_dot
unfolding gone_through may passed is_digit no_space
dots-lead = from-ended refl refl refl

space-leads : Leads Ended (bytes " ") (a_space true)
unfolding gone_through may passed is_digit ends_operand space_may
space-leads = from-ended refl refl refl

newline-leads : Leads Solid (bytes "\n") line_start
unfolding gone_through may passed is_digit newline_may
newline-leads = from-solid (from-ended refl refl refl) refl

-- a word that leads to where a number begins, and the number; behind letters, or behind a space
named-goes : {x : Before} {w : Bytes} (n : ℕ) → Goes x w another → Reaches Ended x (w ++ decimal n)
unfolding digit_may in_number
named-goes n h = then-reaches h (number-goes n another refl refl)

spaced-goes : {x : Before} {w : Bytes} (n : ℕ) → Goes x w (a_space false) → Reaches Ended x (w ++ decimal n)
spaced-goes n h = then-reaches h (ready-number n spaced)

range-goes : {x : Before} {w : Bytes} (i : Interval) → Goes x w (a_space false) → Reaches Ended x (w ++ print_range i)
unfolding print_range
range-goes i h = then-reaches h (between (value-goes i.low spaced) dots-lead (value-goes i.high dotted))

to-leads : Leads Ended (bytes " to x") another
unfolding gone_through may passed is_digit ends_operand space_may
to-leads = from-ended refl refl refl

from-leads : Leads Ended (bytes " from x") another
unfolding gone_through may passed is_digit ends_operand space_may
from-leads = from-ended refl refl refl

becomes-leads : Leads Ended (bytes " := ") (a_space false)
unfolding gone_through may passed is_digit ends_operand space_may
becomes-leads = from-ended refl refl refl

goto-leads : Leads Solid (bytes " goto ") (a_space false)
unfolding gone_through may passed is_digit ends_operand space_may
goto-leads = from-solid (from-ended refl refl refl) refl

-- what a statement does, behind its times
action-goes : (x : Action) → is_halt x ≡ false → Reaches Solid (a_space true) (print_action x)
unfolding print_action is_halt gone_through may passed is_digit ends_operand space_may digit_may in_number
action-goes halt h = record { last = another; kind = worded; goes = record { is = refl } }
action-goes skip h = record { last = another; kind = worded; goes = record { is = refl } }
action-goes (assign r a) h =
    ended-solid (then-reaches {s = bytes "r"} (record { is = refl }) (between (number-goes r another refl refl) becomes-leads (arith-goes any_arith a (a_space false) spaced)))
action-goes (branch t c) h =
    ended-solid (then-reaches {s = bytes "if "} (record { is = refl }) (between (condition-goes any_condition c (a_space false) spaced) goto-leads (ready-number t spaced)))
action-goes (store r v) h =
    ended-solid (then-reaches {s = bytes "store r"} (record { is = refl }) (between (number-goes r another refl refl) to-leads (number-goes v another refl refl)))
action-goes (load r v) h =
    ended-solid (then-reaches {s = bytes "load r"} (record { is = refl }) (between (number-goes r another refl refl) from-leads (number-goes v another refl refl)))
action-goes (unlock l) h = ended-solid (named-goes {w = bytes "unlock l"} l (record { is = refl }))
action-goes (lock l) h = ended-solid (named-goes {w = bytes "lock l"} l (record { is = refl }))

-- `halt` has no times
halted : (a b : ℕ) (x : Action) → is_halt x ≡ true → Reaches Solid line_start (print_times true a b ++ print_action x)
unfolding is_halt print_times print_action gone_through may passed is_digit
halted a b halt h = record { last = another; kind = worded; goes = record { is = refl } }
halted a b skip h = let n : ◌≡◌ {A = ℕ} 0 1 = cc in absurd (omega arith)
halted a b (assign r e) h = let n : ◌≡◌ {A = ℕ} 0 1 = cc in absurd (omega arith)
halted a b (branch t c) h = let n : ◌≡◌ {A = ℕ} 0 1 = cc in absurd (omega arith)
halted a b (store r v) h = let n : ◌≡◌ {A = ℕ} 0 1 = cc in absurd (omega arith)
halted a b (load r v) h = let n : ◌≡◌ {A = ℕ} 0 1 = cc in absurd (omega arith)
halted a b (unlock l) h = let n : ◌≡◌ {A = ℕ} 0 1 = cc in absurd (omega arith)
halted a b (lock l) h = let n : ◌≡◌ {A = ℕ} 0 1 = cc in absurd (omega arith)

times-go : (a b : ℕ) → Goes line_start (print_times false a b) (a_space true)
unfolding print_times digit_may in_number
times-go a b =
    let first = number-goes a line_start refl refl in
    goes_then first.goes (goes_then (dots-lead first.last first.kind) (then-leads (ready-number b dotted) space-leads))

statement-goes : (a b : ℕ) (x : Action) → Reaches Solid line_start (print_line (statement_line a b x))
unfolding print_line
statement-goes a b x = by (is_halt x) refl
  where
    by : (q : Bool) → is_halt x ≡ q → Reaches Solid line_start (print_times q a b ++ print_action x)
    by true h = halted a b x h
    by false h = then-reaches (times-go a b) (action-goes x h)

line-goes : (x : Line) → Reaches Solid line_start (print_line x)
unfolding print_line gone_through may passed is_digit ends_operand space_may
line-goes (locks_line n) = ended-solid (spaced-goes {w = bytes "locks "} n (record { is = refl }))
line-goes (var_line i) = ended-solid (range-goes {w = bytes "var "} i (record { is = refl }))
line-goes thread_line = record { last = another; kind = worded; goes = record { is = refl } }
line-goes (reg_line i) = ended-solid (range-goes {w = bytes "reg "} i (record { is = refl }))
line-goes (statement_line a b x) = statement-goes a b x

-- ---- the text

lines-go : (xs : List Line) → Goes line_start (in_row ended xs) line_start
unfolding in_row ended gone_through
lines-go [] = record { is = refl }
lines-go (x ∷ xs) = goes_then (then-leads (line-goes x) newline-leads) (lines-go xs)

-- a newline, and the next word of the header up to its number
budget-leads : Leads Ended (bytes "\nbudget ") (a_space false)
unfolding gone_through may passed is_digit ends_operand space_may newline_may
budget-leads = from-ended refl refl refl

label-leads : Leads Ended (bytes "\nlabel ") (a_space false)
unfolding gone_through may passed is_digit ends_operand space_may newline_may
label-leads = from-ended refl refl refl

header-goes : (h : Header) → Goes line_start (print_header h) line_start
unfolding print_header gone_through may passed is_digit ends_operand space_may
header-goes h =
    let high = then-leads (ended-solid (ready-number h.label_high dotted)) newline-leads in
    let low = ready-number h.label_low spaced in
    let budget = ready-number h.budget spaced in
    let limit = ready-number h.limit spaced in
    goes_then {s = bytes "limit "} (record { is = refl })
    (goes_then limit.goes (goes_then (budget-leads limit.last limit.kind)
    (goes_then budget.goes (goes_then (label-leads budget.last budget.kind)
    (goes_then low.goes (goes_then (dots-lead low.last low.kind) high))))))

pub tidy : (g : Program) → Tidy (print g)
unfolding print
tidy g = (goes_then (header-goes g.header) (lines-go (lines_of g))).is
