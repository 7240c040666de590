-- A printed text is at most six times as long as its sheet: line by line, each line against its field.
use mathlib.Core.Path.{◌≡◌, ap}
use mathlib.Core.Bool.{Bool, true, false, ◌&&◌}
use mathlib.Core.List.{List, [], ◌∷◌, ◌++◌}
use Prim.Native.Nat.{ℕ, suc, ◌+◌, ◌*◌, ◌≤◌}
use native.Mathlib.Omega.{arith}
use lib.Dec.{T, ltb, ltb→lt}
use lib.IntN.{ℤ, pos, negsuc}
use lib.ListN.{length, length-append}
use Rattle.rules.specs.Base.{Each, nil, ◌&◌}
use Rattle.rules.specs.Format.{Bytes}
use Rattle.rules.specs.Product.{bytes, decimal}
use Rattle.rules.specs.Interval.{Interval, Operator, plus, minus, times, divide}
use Rattle.rules.specs.Program.{Arith, constant, register, operation, Condition, always, never, negation, conjunction, equal, less}
use Rattle.rules.specs.Program.{Action, halt, skip, assign, branch, store, load, unlock, lock, is_halt, Header, Program}
use Rattle.rules.specs.Encoding.{in_row, encode_header, encode_arith, encode_condition, encode_operands, encode}
use Rattle.rules.specs.Fits.{HeaderFits, ProgramFits}
use Rattle.rules.proofs.Base.{and_left, and_right}
use Rattle.rules.proofs.Values.{value_pos, value-neg}
use Rattle.writing.proofs.Decimal.{decimal-length}
use Rattle.text.specs.Lines.{Line, locks_line, var_line, thread_line, reg_line, statement_line}
use Rattle.text.specs.Convert.{fits_byte, fits_two, fits_signed, range_fits, arith_fits, condition_fits, action_fits, line_fits, field_of}
use Rattle.text.specs.Says.{lines_of}
use Rattle.text.proofs.Fields.{ahead, fields_of, fields-are}
use Rattle.text.proofs.LinesFit.{lines_fit, few-registers}
use Rattle.printed.specs.Print.{print_value, in_parentheses, sign, binding, print_arith, any_arith, print_condition, any_condition, one_condition, print_range, print_times, print_action, print_line, ended, print_header, print}

-- ---- numbers

byte-length : (n : ℕ) → T (fits_byte n) → length (decimal n) ≤ 3
unfolding fits_byte
byte-length n h = let l = ltb→lt n 256 h in decimal-length 2 n (omega arith)

two-length : (n : ℕ) → T (fits_two n) → length (decimal n) ≤ 5
unfolding fits_two
two-length n h = let l = ltb→lt n 65536 h in decimal-length 4 n (omega arith)

value-length : (z : ℤ) → T (fits_signed z) → length (print_value z) ≤ 11
unfolding print_value fits_signed
value-length (pos n) h = let l = value_pos n h in let k = decimal-length 9 n (omega arith) in omega arith
value-length (negsuc n) h = let l = value-neg n h in let k = decimal-length 9 (suc n) (omega arith) in omega arith

-- ---- expressions

pair-length : (q : Bool) (s : Bytes) → length (in_parentheses q s) ≤ length s + 2
unfolding in_parentheses
pair-length true s = let e = length-append s (41 ∷ []) in omega arith
pair-length false s = omega arith

sign-length : (o : Operator) → length (sign o) ≤ 3
sign-length plus = omega arith
sign-length minus = omega arith
sign-length times = omega arith
sign-length divide = omega arith

between-length : (s w t : Bytes) → length (s ++ (w ++ t)) ≡ length s + length w + length t
between-length s w t = let a = length-append s (w ++ t) in let b = length-append w t in omega arith

arith-length : (p : ℕ) (a : Arith) → T (arith_fits a) → length (print_arith p a) ≤ 6 * length (encode_arith a)
unfolding print_arith arith_fits encode_arith
arith-length p (constant z) h = let l = value-length z h in omega arith
arith-length p (register r) h = let l = byte-length r h in omega arith
arith-length p (operation o a b) h =
    let x = arith-length (binding o) a (and_left (arith_fits a) (arith_fits b) h) in
    let y = arith-length (suc (binding o)) b (and_right (arith_fits a) (arith_fits b) h) in
    let s = print_arith (binding o) a ++ (sign o ++ print_arith (suc (binding o)) b) in
    let i = between-length (print_arith (binding o) a) (sign o) (print_arith (suc (binding o)) b) in
    let j = pair-length (ltb (binding o) p) s in
    let k = sign-length o in
    let l = length-append (encode_arith a) (encode_arith b) in
    omega arith

comparison-length : (w : Bytes) → length w ≤ 4 → (a b : Arith) → T (arith_fits a && arith_fits b)
    → length (print_arith any_arith a ++ (w ++ print_arith any_arith b)) ≤ 6 * suc (length (encode_arith a ++ encode_arith b))
comparison-length w m a b h =
    let x = arith-length any_arith a (and_left (arith_fits a) (arith_fits b) h) in
    let y = arith-length any_arith b (and_right (arith_fits a) (arith_fits b) h) in
    let i = between-length (print_arith any_arith a) w (print_arith any_arith b) in
    let l = length-append (encode_arith a) (encode_arith b) in
    omega arith

condition-length : (p : ℕ) (c : Condition) → T (condition_fits c) → length (print_condition p c) ≤ 6 * length (encode_condition c)
unfolding print_condition condition_fits encode_condition
condition-length p always h = omega arith
condition-length p never h = omega arith
condition-length p (negation c) h = let x = condition-length one_condition c h in omega arith
condition-length p (conjunction c d) h =
    let x = condition-length any_condition c (and_left (condition_fits c) (condition_fits d) h) in
    let y = condition-length one_condition d (and_right (condition_fits c) (condition_fits d) h) in
    let s = print_condition any_condition c ++ (bytes " && " ++ print_condition one_condition d) in
    let i = between-length (print_condition any_condition c) (bytes " && ") (print_condition one_condition d) in
    let j = pair-length (ltb any_condition p) s in
    let l = length-append (encode_condition c) (encode_condition d) in
    omega arith
condition-length p (equal a b) h = comparison-length (bytes " == ") (omega arith) a b h
condition-length p (less a b) h = comparison-length (bytes " < ") (omega arith) a b h

-- ---- lines

-- with what stands before its operands: 8 bytes of a statement's field
action-length : (x : Action) → T (action_fits x) → length (print_action x) ≤ 30 + 6 * length (encode_operands x)
unfolding print_action action_fits encode_operands
action-length halt h = omega arith
action-length skip h = omega arith
action-length (assign r a) h =
    let x = arith-length any_arith a (and_right (fits_byte r) (arith_fits a) h) in
    let y = byte-length r (and_left (fits_byte r) (arith_fits a) h) in
    let i = between-length (decimal r) (bytes " := ") (print_arith any_arith a) in
    omega arith
action-length (branch t c) h =
    let x = condition-length any_condition c (and_right (fits_byte t) (condition_fits c) h) in
    let y = byte-length t (and_left (fits_byte t) (condition_fits c) h) in
    let i = between-length (print_condition any_condition c) (bytes " goto ") (decimal t) in
    omega arith
action-length (store r v) h =
    let x = byte-length r (and_left (fits_byte r) (fits_byte v) h) in
    let y = byte-length v (and_right (fits_byte r) (fits_byte v) h) in
    let i = between-length (decimal r) (bytes " to x") (decimal v) in
    omega arith
action-length (load r v) h =
    let x = byte-length r (and_left (fits_byte r) (fits_byte v) h) in
    let y = byte-length v (and_right (fits_byte r) (fits_byte v) h) in
    let i = between-length (decimal r) (bytes " from x") (decimal v) in
    omega arith
action-length (unlock l) h = let x = byte-length l h in omega arith
action-length (lock l) h = let x = byte-length l h in omega arith

times-length : (q : Bool) (a b : ℕ) → T (fits_two a && fits_two b) → length (print_times q a b) ≤ 13
unfolding print_times
times-length true a b h = omega arith
times-length false a b h =
    let x = two-length a (and_left (fits_two a) (fits_two b) h) in
    let y = two-length b (and_right (fits_two a) (fits_two b) h) in
    let i = between-length (decimal a) (bytes "..") (decimal b ++ bytes " ") in
    let j = length-append (decimal b) (bytes " ") in
    omega arith

range_length : (i : Interval) → T (range_fits i) → length (print_range i) ≤ 24
unfolding print_range range_fits
range_length i h =
    let x = value-length i.low (and_left (fits_signed i.low) (fits_signed i.high) h) in
    let y = value-length i.high (and_right (fits_signed i.low) (fits_signed i.high) h) in
    let e = between-length (print_value i.low) (bytes "..") (print_value i.high) in
    omega arith

line-length : (n : ℕ) (x : Line) → T (line_fits x) → length (print_line x) + 1 ≤ 6 * length (field_of n x)
unfolding print_line line_fits field_of
line-length n (locks_line k) h = let x = byte-length k h in omega arith
line-length n (var_line i) h = let x = range_length i h in omega arith
line-length n thread_line h = omega arith
line-length n (reg_line i) h = let x = range_length i h in omega arith
line-length n (statement_line a b x) h =
    let t = times-length (is_halt x) a b (and_left (fits_two a && fits_two b) (action_fits x) h) in
    let d = action-length x (and_right (fits_two a && fits_two b) (action_fits x) h) in
    let e = length-append (print_times (is_halt x) a b) (print_action x) in
    omega arith

lines-length : (xs : List Line) → Each (λ (x : Line). T (line_fits x)) xs → length (in_row ended xs) ≤ 6 * length (fields_of xs)
unfolding in_row ended fields_of
lines-length [] nil = omega arith
lines-length (x ∷ xs) (f & fs) =
    let a = line-length (ahead xs) x f in
    let b = lines-length xs fs in
    let c = length-append (print_line x ++ bytes "\n") (in_row ended xs) in
    let d = length-append (print_line x) (bytes "\n") in
    let e = length-append (field_of (ahead xs) x) (fields_of xs) in
    omega arith

-- ---- the whole

number-length : (w : Bytes) (n : ℕ) (s : Bytes) → length (w ++ (decimal n ++ s)) ≡ length w + length (decimal n) + length s
number-length w n s = between-length w (decimal n) s

header-length : (h : Header) → HeaderFits h → length (print_header h) ≤ 6 * length (encode_header h)
unfolding print_header
header-length h f =
    let i = f.limit_most in let j = f.budget_most in let k = f.label_ordered in let l = f.label_most in
    let a = decimal-length 7 h.limit (omega arith) in
    let b = decimal-length 7 h.budget (omega arith) in
    let c = decimal-length 7 h.label_low (omega arith) in
    let d = decimal-length 7 h.label_high (omega arith) in
    let last = bytes ".." ++ (decimal h.label_high ++ bytes "\n") in
    let third = bytes "\nlabel " ++ (decimal h.label_low ++ last) in
    let second = bytes "\nbudget " ++ (decimal h.budget ++ third) in
    let e₀ = number-length (bytes "limit ") h.limit second in
    let e₁ = number-length (bytes "\nbudget ") h.budget third in
    let e₂ = number-length (bytes "\nlabel ") h.label_low last in
    let e₃ = number-length (bytes "..") h.label_high (bytes "\n") in
    omega arith

pub text-length : (g : Program) → ProgramFits g → length (print g) ≤ 6 * length (encode g)
unfolding print
text-length g f =
    let a = header-length g.header f.header in
    let b = lines-length (lines_of g) (lines_fit g f) in
    let c = length-append (print_header g.header) (in_row ended (lines_of g)) in
    let d = length-append (encode_header g.header) (fields_of (lines_of g)) in
    let e = ap length (fields-are g (few-registers f.threads)) in
    omega arith
