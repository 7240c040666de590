-- Texts worked out by hand from the sentences of 02, ticket 2. All stand in one table, which carries one claim about the definition.
use Rattle.std.specs.Prelude.{◌≡◌, List, [], ◌∷◌, ◌++◌, ℕ, zero, suc, ◌-◌, length}
use Rattle.rules.specs.Refusal.{Refusal, off_range, no_such_name, bad_expression, no_halt, too_many, too_long, output_full, unreadable}
use Rattle.rules.specs.Format.{Bytes}
use Rattle.rules.specs.Sheets.{header, locks, variable, thread, register, halt, skip, assign, branch, store, load, unlock, lock, constant, reg, plus, times, divide, always, not, equal, less}
use Rattle.rules.specs.Worked.{A, B, C, D, E, F}
use Rattle.text.specs.Words.{bytes}
use Rattle.text.specs.Convert.{refused_with, converted_with, convert}

pub data Fact : Type 0 where
  -- a text becomes a sheet
  becomes : Bytes → Bytes → Fact
  -- a text, with room for so many bytes, is refused at a place
  refused : ℕ → Bytes → Refusal → ℕ → Fact

-- into a buffer with one byte more
abbrev pub Holds : Fact → Type 0
Holds (becomes t s) = convert (suc (length s)) t ≡ converted_with (suc (length s)) s
Holds (refused room t r p) = convert room t ≡ refused_with room r p

-- ---- parts of texts and sheets

-- limit 10, budget 100, label 0..10, no locks: 40 bytes of a text, 23 of a sheet
abbrev pub head : Bytes
head = bytes "limit 10\nbudget 100\nlabel 0..10\nlocks 0\n"

abbrev pub front : Bytes
front = header 10 100 0 10 ++ locks 0

-- one thread, its lines from place 47 on; and one with a register, its statements from place 56 on
abbrev pub one_thread : Bytes → Bytes
one_thread s = head ++ bytes "thread\n" ++ s

abbrev pub one_register : Bytes → Bytes
one_register s = one_thread (bytes "reg 0..9\n" ++ s)

-- the sheet of one register and one statement before halt
abbrev pub sheet_of_lem : Bytes → Bytes
sheet_of_lem s = front ++ thread 1 ++ register 0 9 ++ s ++ halt

-- what no sheet of 01 shows
abbrev pub minus : Bytes → Bytes → Bytes
minus a b = 19 ∷ a ++ b

abbrev pub both : Bytes → Bytes → Bytes
both a b = 35 ∷ a ++ b

abbrev pub never : Bytes
never = 33 ∷ []

abbrev pub negative : ℕ → Bytes
negative n = constant (4294967296 - n)

unfoldable pub repeated : ℕ → Bytes → Bytes
repeated zero s = []
repeated (suc n) s = s ++ repeated n s

-- ---- the table

unfoldable pub rows : List Fact
rows =
    -- 01's sheets
    becomes (one_thread (bytes "halt\n")) A
    ∷ becomes (bytes "limit 10\nbudget 100\nlabel 2..3\nlocks 0\nthread\n2..3 skip\nhalt\n") B
    ∷ becomes (one_thread (bytes "1..4 skip\nhalt\nthread\n2..3 skip\nhalt\n")) C
    ∷ becomes (bytes "limit 10\nbudget 100\nlabel 0..10\nlocks 1\nthread\n1..1 lock l0\n1..1 unlock l0\nhalt\nthread\n1..1 lock l0\n1..1 unlock l0\nhalt\n") D
    ∷ becomes (bytes "limit 10\nbudget 100\nlabel 0..10\nlocks 2\nthread\n1..1 lock l0\n1..1 lock l1\nhalt\nthread\n1..1 lock l1\n1..1 lock l0\nhalt\n") E
    ∷ becomes (bytes "limit 11\nbudget 100\nlabel 0..11\nlocks 0\nthread\nreg 0..9\n1..1 if r0 < 5 goto 2\n10..10 skip\nhalt\n") F
    -- every statement, and values that fill their fields
    ∷ becomes (bytes "limit 10\nbudget 100\nlabel 0..10\nlocks 1\nvar -1..1\nvar 0..3\nthread\nreg -2147483648..2147483647\n2..3 r0 := r0 + 2 * 3\n1..1 if r0 < 5 goto 2\n1..1 store r0 to x1\n1..1 load r0 from x1\n1..1 lock l0\n1..1 unlock l0\n1..65535 skip\nhalt\n")
    (header 10 100 0 10 ++ locks 1 ++ variable 4294967295 1 ++ variable 0 3 ++ thread 1 ++ register 2147483648 2147483647
    ++ assign 2 3 0 (plus (reg 0) (times (constant 2) (constant 3))) ++ branch 1 1 2 (less (reg 0) (constant 5)) ++ store 1 1 0 1 ++ load 1 1 0 1
    ++ lock 1 1 0 ++ unlock 1 1 0 ++ skip 1 65535 ++ halt)
    -- spaces, leading zeros, a last newline that is missing
    ∷ becomes (bytes "  limit 010 \nbudget 100\nlabel 2 .. 3\nlocks 0\n thread\n2..  3 skip\nhalt") B
    ∷ becomes (one_register (bytes "1..1 r0:=-0+- 007-r0\nhalt")) (sheet_of_lem (assign 1 1 0 (minus (plus (constant 0) (negative 7)) (reg 0))))
    -- "Multiply and divide bind before plus and minus, all from left to right"
    ∷ becomes (one_register (bytes "1..1 if r0 - 1 - (-2 + r0) * (r0 / -3) == r0 / 2 * 3 goto 0\nhalt\n"))
    (sheet_of_lem (branch 1 1 0 (equal (minus (minus (reg 0) (constant 1)) (times (plus (negative 2) (reg 0)) (divide (reg 0) (negative 3)))) (times (divide (reg 0) (constant 2)) (constant 3)))))
    -- "`!` takes the whole comparison or next `!` after it; `&&` binds last, from the left"
    ∷ becomes (one_register (bytes "1..1 if !(r0 < 5 && true) && (!r0 < 5 && !!false) goto 0\nhalt\n"))
    (sheet_of_lem (branch 1 1 0 (both (not (both (less (reg 0) (constant 5)) always)) (both (not (less (reg 0) (constant 5))) (not (not never))))))
    ∷ becomes (one_register (bytes "1..1 if true && false && true goto 0\nhalt\n")) (sheet_of_lem (branch 1 1 0 (both (both always never) always)))
    ∷ becomes (one_register (bytes "1..1 if (r0 + 1) * 2 == 3 && true goto 0\nhalt\n"))
    (sheet_of_lem (branch 1 1 0 (both (equal (times (plus (reg 0) (constant 1)) (constant 2)) (constant 3)) always)))
    -- parentheses that are not needed, and 32 of them
    ∷ becomes (one_register (bytes "1..1 if !((r0)) < - 5&&(((r0)<5)&&true) goto 0\nhalt\n"))
    (sheet_of_lem (branch 1 1 0 (both (not (less (reg 0) (negative 5))) (both (less (reg 0) (constant 5)) always))))
    ∷ becomes (one_register (bytes "1..1 if ((((((((((((((((((((((((((((((((r0)))))))))))))))))))))))))))))))) < 5 goto 0\nhalt\n"))
    (sheet_of_lem (branch 1 1 0 (less (reg 0) (constant 5))))
    -- 20, at the first byte that cannot go on or at the text's end
    ∷ refused 30 (bytes "") unreadable 0
    ∷ refused 30 (bytes "label 0..10\n") unreadable 1
    ∷ refused 30 (bytes "limit10") unreadable 5
    ∷ refused 30 (bytes "limit 10\n\n") unreadable 9
    ∷ refused 30 (bytes "limit -1") unreadable 6
    ∷ refused 30 (bytes "limit 10") unreadable 8
    ∷ refused 30 (bytes "limit\t10") unreadable 5
    ∷ refused 30 (bytes "Limit 10") unreadable 0
    ∷ refused 30 (bytes "limit 99999999999\nbudget 0\n\n") unreadable 27
    ∷ refused 30 head unreadable 40
    ∷ refused 30 (one_thread (bytes "thread\n")) unreadable 47
    ∷ refused 30 (one_thread (bytes "1..1 halt\n")) unreadable 52
    ∷ refused 30 (one_thread (bytes "halt\n\n")) unreadable 52
    ∷ refused 30 (one_thread (bytes "halt\n ")) unreadable 53
    ∷ refused 30 (one_thread (bytes "halt\nreg 0..1\n")) unreadable 52
    ∷ refused 30 (one_thread (bytes "1..1 stop\nhalt\n")) unreadable 55
    ∷ refused 30 (one_register (bytes "1..1 if r0 < 5 < 3 goto 0\nhalt\n")) unreadable 71
    ∷ refused 30 (one_register (bytes "1..1 if (r0) && true goto 0\nhalt\n")) unreadable 69
    ∷ refused 30 (one_register (bytes "1..1 if (r0 + (r0 < 5 goto 0\nhalt\n")) unreadable 74
    ∷ refused 30 (one_register (bytes "1..1 if !(r0) goto 0\nhalt\n")) unreadable 70
    ∷ refused 30 (one_register (bytes "1..1 if true == true goto 0\nhalt\n")) unreadable 69
    ∷ refused 30 (one_register (bytes "1..1 if - r0 < 5 goto 0\nhalt\n")) unreadable 66
    ∷ refused 30 (one_register (bytes "1..1 if r0 = 5 goto 0\nhalt\n")) unreadable 68
    ∷ refused 30 (one_register (bytes "1..1r0 := 1\nhalt\n")) unreadable 60
    ∷ refused 30 (one_register (bytes "1..1 if r0 < 5goto goto 0\nhalt\n")) unreadable 70
    ∷ refused 30 (one_register (bytes "1..1 if (((((((((((((((((((((((((((((((((r0))))))))))))))))))))))))))))))))) < 5 goto 0\nhalt\n")) unreadable 96
    ∷ refused 30 (one_register (bytes "1..1 r0 := r0 < 5\nhalt\n")) unreadable 70
    -- "at the start of the line at fault, the earlier if two": of limit, budget and label, which share a field
    ∷ refused 30 (bytes "limit 0\nbudget 0\nlabel 0..10\nlocks 0\nthread\nhalt\n") off_range 0
    ∷ refused 30 (bytes "limit 5\nbudget 0\nlabel 0..10\nlocks 0\nthread\nhalt\n") off_range 8
    ∷ refused 30 (bytes "limit 5\nbudget 100\nlabel 0..10\nlocks 0\nthread\nhalt\n") off_range 19
    -- the number 01 gives, in 01's order
    ∷ refused 30 (bytes "limit 10\nbudget 100\nlabel 0..10\nlocks 9\nthread\nhalt\n") off_range 32
    ∷ refused 30 (head ++ bytes "var 1..0\nthread\nhalt\n") off_range 40
    ∷ refused 30 (one_thread (repeated 9 (bytes "reg 0..1\n") ++ bytes "halt\n")) off_range 40
    ∷ refused 30 (head ++ repeated 9 (bytes "var 0..1\n") ++ bytes "thread\nhalt\n") too_many 112
    ∷ refused 30 (head ++ repeated 5 (bytes "thread\nhalt\n")) too_many 88
    ∷ refused 30 (head ++ repeated 3 (bytes "thread\nhalt\n") ++ bytes "thread\n1..1 skip\nthread\nhalt\n") no_halt 83
    ∷ refused 30 (head ++ repeated 4 (bytes "thread\nhalt\n") ++ bytes "thread\n" ++ repeated 9 (bytes "reg 0..1\n") ++ bytes "halt\n") too_many 88
    ∷ refused 30 (one_thread (bytes "0..3 skip\nhalt\n")) off_range 47
    ∷ refused 30 (one_thread (bytes "1..1 skip\n")) no_halt 47
    ∷ refused 30 (one_thread (bytes "1..1 if true goto 9\n0..0 skip\nhalt\n")) off_range 67
    ∷ refused 30 (one_thread (bytes "1..1 if true goto 9\n1..1 skip\n")) no_halt 67
    ∷ refused 30 (one_thread (repeated 65 (bytes "1..1 skip\n") ++ bytes "halt\n")) too_many 687
    ∷ refused 30 (one_register (bytes "1..1 r0 := r1\nhalt\n")) no_such_name 56
    ∷ refused 30 (one_register (bytes "1..1 if true goto 2\nhalt\n")) no_such_name 56
    ∷ refused 30 (one_register (bytes "1..1 if true goto 255\nhalt\n")) no_such_name 56
    ∷ refused 30 (one_register (bytes "1..1 if !!!!!!!!!!!!true goto 0\nhalt\n")) bad_expression 56
    ∷ refused 30 (bytes "limit 10\nbudget 100\nlabel 0..10\nlocks 1\nthread\n1..1 lock l1\nhalt\n") no_such_name 47
    -- "a number too big for its field is 4, first in its line"
    ∷ refused 30 (bytes "limit 4294967296\nbudget 100\nlabel 0..10\nlocks 0\nthread\nhalt\n") off_range 0
    ∷ refused 30 (bytes "limit 10\nbudget 100\nlabel 0..10\nlocks 256\nthread\nhalt\n") off_range 32
    ∷ refused 30 (one_thread (bytes "reg 0..2147483648\nhalt\n")) off_range 47
    ∷ refused 30 (one_register (bytes "1..1 r0 := r9 + 99999999999\nhalt\n")) off_range 56
    ∷ refused 30 (one_register (bytes "1..1 if true goto 256\nhalt\n")) off_range 56
    ∷ refused 30 (one_register (bytes "1..1 r0 := 4294967301\nhalt\n")) off_range 56
    ∷ refused 30 (one_thread (bytes "1..65537 skip\nhalt\n")) off_range 47
    -- the start of a line is behind the newline before it: spaces belong to the line
    ∷ refused 30 (one_thread (bytes "halt\nthread\n  0..3 skip\nhalt\n")) off_range 59
    ∷ refused 30 (head ++ repeated 8 (bytes "var 0..1\n") ++ bytes "var 0..4294967296\nthread\nhalt\n") off_range 112
    ∷ refused 30 (one_thread (repeated 64 (bytes "1..1 skip\n") ++ bytes "1..65536 skip\nhalt\n")) off_range 687
    -- "9 is first, place 0"
    ∷ refused 30 (bytes "limit 10\nbudget 100\nlabel 0..10\nlocks 256\nthread\n" ++ repeated 1489 (bytes "reg 0..1\n") ++ bytes "halt\n") too_long 0
    -- 19, where one byte is lacking
    ∷ refused 42 (bytes "limit 10\nbudget 100\nlabel 2..3\nlocks 0\nthread\n2..3 skip\nhalt\n") output_full 0
    ∷ refused 0 (one_thread (bytes "halt\n")) output_full 0
    ∷ []
