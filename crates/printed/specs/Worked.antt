-- Sheets printed by hand from the sentences of 02, ticket 4. All stand in one table, which carries one claim about the definition.
use Rattle.std.specs.Prelude.{◌≡◌, List, [], ◌∷◌, ◌++◌, ℕ, zero, suc, ◌+◌, length, take}
use Rattle.rules.specs.Refusal.{Refusal, short, out_of_turn, bad_length, off_range, no_such_name, bad_expression, no_halt, too_many, too_long, output_full}
use Rattle.rules.specs.Format.{Bytes}
use Rattle.rules.specs.Product.{bytes}
use Rattle.rules.specs.Sheets.{header, locks, variable, thread, register, halt, skip, assign, branch, store, load, unlock, lock, constant, reg, plus, times, divide, always, not, equal, less}
use Rattle.rules.specs.Worked.{A, B, C, D, E, F}
use Rattle.text.specs.Worked.{one_thread, one_register, front, sheet_of_lem, minus, both, never, negative, repeated}
use Rattle.printed.specs.Print.{refused_with, printed_with, print_sheet}

pub data Fact : Type 0 where
  -- with room for so many bytes more, a sheet is printed as a text
  prints : ℕ → Bytes → Bytes → Fact
  -- with room for so many bytes, a sheet is refused at a place
  refused : ℕ → Bytes → Refusal → ℕ → Fact

abbrev pub Holds : Fact → Type 0
Holds (prints more s t) = print_sheet (length t + more) s ≡ printed_with (length t + more) t
Holds (refused room s r p) = print_sheet room s ≡ refused_with room r p

-- ---- parts of sheets and texts

-- one statement before halt: what it assigns to r0, or the condition on which it jumps to statement 0
abbrev pub assigns : Bytes → Bytes
assigns x = sheet_of_lem (assign 1 1 0 x)

abbrev pub assigns_text : Bytes → Bytes
assigns_text t = one_register (bytes "1..1 r0 := " ++ t ++ bytes "\nhalt\n")

abbrev pub tests : Bytes → Bytes
tests c = sheet_of_lem (branch 1 1 0 c)

abbrev pub tests_text : Bytes → Bytes
tests_text t = one_register (bytes "1..1 if " ++ t ++ bytes " goto 0\nhalt\n")

-- sums on the right side of sums, n of them, and the same on the left
unfoldable pub to_the_right : ℕ → Bytes
to_the_right zero = reg 0
to_the_right (suc n) = plus (reg 0) (to_the_right n)

unfoldable pub to_the_left : ℕ → Bytes
to_the_left zero = reg 0
to_the_left (suc n) = plus (to_the_left n) (reg 0)

-- ---- the table

unfoldable pub rows : List Fact
rows =
    -- 01's sheets
    prints 0 A (one_thread (bytes "halt\n"))
    ∷ prints 0 B (bytes "limit 10\nbudget 100\nlabel 2..3\nlocks 0\nthread\n2..3 skip\nhalt\n")
    ∷ prints 1 C (one_thread (bytes "1..4 skip\nhalt\nthread\n2..3 skip\nhalt\n"))
    ∷ prints 7 D (bytes "limit 10\nbudget 100\nlabel 0..10\nlocks 1\nthread\n1..1 lock l0\n1..1 unlock l0\nhalt\nthread\n1..1 lock l0\n1..1 unlock l0\nhalt\n")
    ∷ prints 0 E (bytes "limit 10\nbudget 100\nlabel 0..10\nlocks 2\nthread\n1..1 lock l0\n1..1 lock l1\nhalt\nthread\n1..1 lock l1\n1..1 lock l0\nhalt\n")
    ∷ prints 0 F (bytes "limit 11\nbudget 100\nlabel 0..11\nlocks 0\nthread\nreg 0..9\n1..1 if r0 < 5 goto 2\n10..10 skip\nhalt\n")
    -- every statement, and values that fill their fields; "no leading zeros", none "round `..`"
    ∷ prints 0 (header 1000000 10000000 999999 1000000 ++ locks 1 ++ variable 4294967295 1 ++ variable 0 0 ++ thread 1 ++ register 2147483648 2147483647
    ++ assign 2 3 0 (plus (reg 0) (times (constant 2) (constant 3))) ++ branch 1 1 2 (less (reg 0) (constant 5)) ++ store 1 1 0 1 ++ load 1 1 0 1
    ++ lock 1 1 0 ++ unlock 1 1 0 ++ skip 1 65535 ++ halt)
    (bytes "limit 1000000\nbudget 10000000\nlabel 999999..1000000\nlocks 1\nvar -1..1\nvar 0..0\nthread\nreg -2147483648..2147483647\n2..3 r0 := r0 + 2 * 3\n1..1 if r0 < 5 goto 2\n1..1 store r0 to x1\n1..1 load r0 from x1\n1..1 lock l0\n1..1 unlock l0\n1..65535 skip\nhalt\n")
    -- halt before the end, and a thread without registers beside one with two
    ∷ prints 0 (front ++ thread 2 ++ register 1 2 ++ register 3 4 ++ halt ++ halt ++ thread 0 ++ halt) (one_thread (bytes "reg 1..2\nreg 3..4\nhalt\nhalt\nthread\nhalt\n"))
    -- "parentheses only where the tree would otherwise change": a right operand of equal binding has them, a left one never
    ∷ prints 0 (assigns (minus (minus (reg 0) (constant 1)) (constant 2))) (assigns_text (bytes "r0 - 1 - 2"))
    ∷ prints 0 (assigns (minus (reg 0) (minus (constant 1) (constant 2)))) (assigns_text (bytes "r0 - (1 - 2)"))
    ∷ prints 0 (assigns (plus (reg 0) (plus (constant 1) (constant 2)))) (assigns_text (bytes "r0 + (1 + 2)"))
    ∷ prints 0 (assigns (plus (reg 0) (minus (constant 1) (constant 2)))) (assigns_text (bytes "r0 + (1 - 2)"))
    ∷ prints 0 (assigns (times (divide (reg 0) (constant 1)) (constant 2))) (assigns_text (bytes "r0 / 1 * 2"))
    ∷ prints 0 (assigns (divide (reg 0) (times (constant 1) (constant 2)))) (assigns_text (bytes "r0 / (1 * 2)"))
    ∷ prints 0 (assigns (times (reg 0) (divide (constant 1) (constant 2)))) (assigns_text (bytes "r0 * (1 / 2)"))
    ∷ prints 0 (assigns (plus (times (reg 0) (constant 1)) (divide (constant 2) (constant 3)))) (assigns_text (bytes "r0 * 1 + 2 / 3"))
    ∷ prints 0 (assigns (times (plus (reg 0) (constant 1)) (minus (constant 2) (constant 3)))) (assigns_text (bytes "(r0 + 1) * (2 - 3)"))
    ∷ prints 0 (assigns (divide (minus (reg 0) (plus (constant 1) (constant 2))) (constant 3))) (assigns_text (bytes "(r0 - (1 + 2)) / 3"))
    -- none round negative constants, and no space after a constant's minus
    ∷ prints 0 (assigns (minus (reg 0) (negative 5))) (assigns_text (bytes "r0 - -5"))
    ∷ prints 0 (assigns (times (negative 5) (plus (negative 1) (constant 2147483648)))) (assigns_text (bytes "-5 * (-1 + -2147483648)"))
    ∷ prints 0 (assigns (constant 0)) (assigns_text (bytes "0"))
    -- none round comparisons; `!` before `&&` has them
    ∷ prints 0 (tests (not (both (less (reg 0) (constant 5)) always))) (tests_text (bytes "!(r0 < 5 && true)"))
    ∷ prints 0 (tests (both (not (less (reg 0) (constant 5))) (not (not never)))) (tests_text (bytes "!r0 < 5 && !!false"))
    ∷ prints 0 (tests (both (both always never) (equal (reg 0) (reg 0)))) (tests_text (bytes "true && false && r0 == r0"))
    ∷ prints 0 (tests (both always (both never (equal (reg 0) (reg 0))))) (tests_text (bytes "true && (false && r0 == r0)"))
    ∷ prints 0 (tests (both (not (both always never)) (not always))) (tests_text (bytes "!(true && false) && !true"))
    ∷ prints 0 (tests (less (plus (reg 0) (constant 1)) (minus (constant 2) (minus (constant 3) (reg 0))))) (tests_text (bytes "r0 + 1 < 2 - (3 - r0)"))
    ∷ prints 0 (tests (equal (times (reg 0) (constant 2)) (divide (plus (reg 0) (constant 1)) (constant 3)))) (tests_text (bytes "r0 * 2 == (r0 + 1) / 3"))
    -- twelve deep: to the right ten pairs of parentheses, to the left none
    ∷ prints 0 (assigns (to_the_right 11)) (assigns_text (bytes "r0 + (r0 + (r0 + (r0 + (r0 + (r0 + (r0 + (r0 + (r0 + (r0 + (r0 + r0))))))))))"))
    ∷ prints 0 (assigns (to_the_left 11)) (assigns_text (bytes "r0 + r0 + r0 + r0 + r0 + r0 + r0 + r0 + r0 + r0 + r0 + r0"))
    -- "the sheet's own number from 1 to 9", also where nothing would fit
    ∷ refused 30 [] short 0
    ∷ refused 0 (take 42 B) short 35
    ∷ refused 30 (take 35 B) no_halt 27
    ∷ refused 30 (front ++ locks 0) out_of_turn 23
    ∷ refused 30 (front ++ 4 ∷ 0 ∷ 2 ∷ 0 ∷ 0 ∷ []) bad_length 23
    ∷ refused 0 (header 0 100 0 10 ++ locks 0 ++ thread 0 ++ halt) off_range 0
    ∷ refused 30 (assigns (reg 1)) no_such_name 38
    ∷ refused 30 (assigns (to_the_right 12)) bad_expression 38
    ∷ refused 3 (front ++ repeated 9 (variable 0 1) ++ thread 0 ++ halt) too_many 111
    ∷ refused 30 (repeated 1490 (register 0 1)) too_long 0
    -- "then 19 when the text does not fit, place 0": one byte is lacking; nothing is lent
    ∷ refused 60 B output_full 0
    ∷ refused 0 A output_full 0
    ∷ []
