-- The printed form of a sheet (02, ticket 4): "Write the text of ticket 2 from any sheet that reads well: single spaces (none after
-- `!`, `(` or a constant's minus, before `)` or round `..`), no leading zeros, a newline after each line, no blank lines, parentheses
-- only where the tree would otherwise change."
use Rattle.std.specs.Prelude.{Bool, true, false, [], ◌∷◌, ◌++◌, ℕ, suc, ◌-◌, leb, ltb, ℤ, pos, negsuc, length, replicate, if◌then◌else◌}
use Rattle.rules.specs.Refusal.{Refusal, number, output_full}
use Rattle.rules.specs.Interval.{Interval, Operator, plus, minus, times, divide}
use Rattle.rules.specs.Program.{Arith, constant, register, operation, Condition, always, never, negation, conjunction, equal, less}
use Rattle.rules.specs.Program.{Action, halt, skip, assign, branch, store, load, unlock, lock, is_halt, Header, Program}
use Rattle.rules.specs.Format.{Bytes, Got, bad, got, read_sheet}
use Rattle.rules.specs.Encoding.{in_row}
use Rattle.rules.specs.Product.{bytes, decimal}
use Rattle.text.specs.Lines.{Line, locks_line, var_line, thread_line, reg_line, statement_line}
use Rattle.text.specs.Says.{lines_of}

-- ---- numbers: "no leading zeros", no space after "a constant's minus" (45)

unfoldable pub print_value : ℤ → Bytes
print_value (pos n) = decimal n
print_value (negsuc n) = 45 ∷ decimal (suc n)

-- ---- expressions: "parentheses only where the tree would otherwise change"

-- `(` and `)` round a text, or nothing
unfoldable pub in_parentheses : Bool → Bytes → Bytes
in_parentheses true s = 40 ∷ (s ++ 41 ∷ [])
in_parentheses false s = s

-- how strongly an operator binds: multiply and divide before plus and minus
abbrev pub binding : Operator → ℕ
binding plus = 1
binding minus = 1
binding times = 2
binding divide = 2

abbrev pub sign : Operator → Bytes
sign plus = bytes " + "
sign minus = bytes " - "
sign times = bytes " * "
sign divide = bytes " / "

-- The number is how strongly an expression must bind to stand here without parentheses. Operands are taken from left to right, so the
-- left one may bind as its operator does, and the right one must bind more.
unfoldable pub print_arith : ℕ → Arith → Bytes
print_arith p (constant z) = print_value z
print_arith p (register r) = bytes "r" ++ decimal r
print_arith p (operation o a b) = in_parentheses (ltb (binding o) p) (print_arith (binding o) a ++ (sign o ++ print_arith (suc (binding o)) b))

-- where any arithmetic may stand
abbrev pub any_arith : ℕ
any_arith = 1

-- the same of conditions, of which `&&` alone joins two: where any condition may stand, and where one operand of `&&` or of `!` (33) may
abbrev pub any_condition : ℕ
any_condition = 1

abbrev pub one_condition : ℕ
one_condition = 2

unfoldable pub print_condition : ℕ → Condition → Bytes
print_condition p always = bytes "true"
print_condition p never = bytes "false"
print_condition p (negation c) = 33 ∷ print_condition one_condition c
print_condition p (conjunction c d) =
    in_parentheses (ltb any_condition p) (print_condition any_condition c ++ (bytes " && " ++ print_condition one_condition d))
print_condition p (equal a b) = print_arith any_arith a ++ (bytes " == " ++ print_arith any_arith b)
print_condition p (less a b) = print_arith any_arith a ++ (bytes " < " ++ print_arith any_arith b)

-- ---- lines, each without its newline

-- no spaces "round `..`"
unfoldable pub print_range : Interval → Bytes
print_range i = print_value i.low ++ (bytes ".." ++ print_value i.high)

unfoldable pub print_action : Action → Bytes
print_action halt = bytes "halt"
print_action skip = bytes "skip"
print_action (assign r x) = bytes "r" ++ (decimal r ++ (bytes " := " ++ print_arith any_arith x))
print_action (branch t c) = bytes "if " ++ (print_condition any_condition c ++ (bytes " goto " ++ decimal t))
print_action (store r v) = bytes "store r" ++ (decimal r ++ (bytes " to x" ++ decimal v))
print_action (load r v) = bytes "load r" ++ (decimal r ++ (bytes " from x" ++ decimal v))
print_action (unlock l) = bytes "unlock l" ++ decimal l
print_action (lock l) = bytes "lock l" ++ decimal l

-- a statement's times before what it does; "`halt` has no times"
unfoldable pub print_times : Bool → ℕ → ℕ → Bytes
print_times true a b = []
print_times false a b = decimal a ++ (bytes ".." ++ (decimal b ++ bytes " "))

unfoldable pub print_line : Line → Bytes
print_line (locks_line n) = bytes "locks " ++ decimal n
print_line (var_line i) = bytes "var " ++ print_range i
print_line thread_line = bytes "thread"
print_line (reg_line i) = bytes "reg " ++ print_range i
print_line (statement_line a b x) = print_times (is_halt x) a b ++ print_action x

-- "a newline after each line"
unfoldable pub ended : Line → Bytes
ended x = print_line x ++ bytes "\n"

-- ---- the text of a program

unfoldable pub print_header : Header → Bytes
print_header h =
    bytes "limit " ++ (decimal h.limit ++ (bytes "\nbudget " ++ (decimal h.budget
    ++ (bytes "\nlabel " ++ (decimal h.label_low ++ (bytes ".." ++ (decimal h.label_high ++ bytes "\n")))))))

unfoldable pub print : Program → Bytes
print g = print_header g.header ++ in_row ended (lines_of g)

-- ---- printing a sheet

-- 02, ticket 2: "It returns number, place and length written (0 if refused), as do tickets 4 and 13"; and what the lent buffer holds
pub record Printing : Type 0 where
  pub refusal : ℕ
  pub place : ℕ
  pub written : ℕ
  pub text : Bytes

-- "the output zeroed on either"
abbrev pub refused_with : ℕ → Refusal → ℕ → Printing
refused_with room r p = record { refusal = number r; place = p; written = 0; text = replicate room 0 }

-- "and past the text on success"
abbrev pub printed_with : ℕ → Bytes → Printing
printed_with room s = record { refusal = 0; place = 0; written = length s; text = s ++ replicate (room - length s) 0 }

-- "then 19 when the text does not fit, place 0"
unfoldable pub written_into : ℕ → Bytes → Printing
written_into room s = if leb (length s) room then printed_with room s else refused_with room output_full 0

-- "Refused: the sheet's own number from 1 to 9"
unfoldable pub printed : ℕ → Got Program → Printing
printed room (bad r p) = refused_with room r p
printed room (got g e) = written_into room (print g)

-- a sheet, with a buffer of that room
unfoldable pub print_sheet : ℕ → Bytes → Printing
print_sheet room s = printed room (read_sheet s)
