-- The sheet that a text would make is made of bytes: every number in it is below 256.
use mathlib.Core.Bool.{◌&&◌}
use mathlib.Core.List.{List, [], ◌∷◌, ◌++◌}
use Prim.Native.Nat.{ℕ, ◌<◌, min}
use native.Mathlib.Omega.{arith}
use lib.Dec.{T, leb→le, ltb→lt}
use lib.ListN.{length, length-append}
use Rattle.rules.specs.Base.{nil, ◌&◌}
use Rattle.rules.specs.Interval.{Interval}
use Rattle.rules.specs.Program.{Arith, constant, register, operation, Condition, always, never, negation, conjunction, equal, less}
use Rattle.rules.specs.Program.{Action, halt, skip, assign, branch, store, load, unlock, lock, Header}
use Rattle.rules.specs.Format.{AreBytes}
use Rattle.rules.specs.Encoding.{four, encode_value, in_row, encode_header, operator_code, encode_arith, encode_condition, code_of, encode_operands, encode_body}
use Rattle.text.specs.Lines.{Line, locks_line, var_line, thread_line, reg_line, statement_line, Started, starts, Text}
use Rattle.text.specs.Convert.{fits_byte, fits_two, fits_four, fits_signed, range_fits, arith_fits, condition_fits, action_fits, line_fits, header_numbers_fit, Piece, registers_ahead, field_of, pieces, text_pieces, written}
use Rattle.rules.proofs.Base.{if-ind, and_left, and_right, each_both}
use Rattle.rules.proofs.StatementBytes.{code-known}
use Rattle.rules.proofs.Written.{byte, two_bytes, four_bytes, value-bytes, field-bytes, operator-byte}

byte_fits : (n : ℕ) → T (fits_byte n) → n < 256
unfolding fits_byte
byte_fits n h = ltb→lt n 256 h

-- ---- expressions

arith-bytes : (a : Arith) → T (arith_fits a) → AreBytes (encode_arith a)
unfolding arith_fits encode_arith fits_signed
arith-bytes (constant z) h = byte 16 (omega arith) (value-bytes z h)
arith-bytes (register r) h = byte 17 (omega arith) (byte_fits r h & nil)
arith-bytes (operation o a b) h =
    byte (operator_code o) (operator-byte o) (each_both _ _ (arith-bytes a (and_left (arith_fits a) (arith_fits b) h)) (arith-bytes b (and_right (arith_fits a) (arith_fits b) h)))

test-bytes : (c : Condition) → T (condition_fits c) → AreBytes (encode_condition c)
unfolding condition_fits encode_condition
test-bytes always h = byte 32 (omega arith) nil
test-bytes never h = byte 33 (omega arith) nil
test-bytes (negation c) h = byte 34 (omega arith) (test-bytes c h)
test-bytes (conjunction c e) h =
    byte 35 (omega arith) (each_both _ _ (test-bytes c (and_left (condition_fits c) (condition_fits e) h)) (test-bytes e (and_right (condition_fits c) (condition_fits e) h)))
test-bytes (equal a b) h =
    byte 36 (omega arith) (each_both _ _ (arith-bytes a (and_left (arith_fits a) (arith_fits b) h)) (arith-bytes b (and_right (arith_fits a) (arith_fits b) h)))
test-bytes (less a b) h =
    byte 37 (omega arith) (each_both _ _ (arith-bytes a (and_left (arith_fits a) (arith_fits b) h)) (arith-bytes b (and_right (arith_fits a) (arith_fits b) h)))

-- ---- statements

two-names : (r v : ℕ) → T (fits_byte r && fits_byte v) → AreBytes (r ∷ v ∷ [])
two-names r v h = byte_fits r (and_left (fits_byte r) (fits_byte v) h) & byte_fits v (and_right (fits_byte r) (fits_byte v) h) & nil

operand-bytes : (x : Action) → T (action_fits x) → AreBytes (encode_operands x)
unfolding action_fits encode_operands
operand-bytes halt h = nil
operand-bytes skip h = nil
operand-bytes (assign r a) h = byte_fits r (and_left (fits_byte r) (arith_fits a) h) & arith-bytes a (and_right (fits_byte r) (arith_fits a) h)
operand-bytes (branch t c) h = byte_fits t (and_left (fits_byte t) (condition_fits c) h) & test-bytes c (and_right (fits_byte t) (condition_fits c) h)
operand-bytes (store r v) h = two-names r v h
operand-bytes (load r v) h = two-names r v h
operand-bytes (unlock l) h = byte_fits l h & nil
operand-bytes (lock l) h = byte_fits l h & nil

body_bytes : (a b : ℕ) (x : Action) → T ((fits_two a && fits_two b) && action_fits x) → AreBytes (encode_body a b x)
unfolding fits_two
body_bytes a b x h =
    let t = and_left (fits_two a && fits_two b) (action_fits x) h in
    let k = leb→le (code_of x) 7 (code-known x) in
    each_both _ _ (each_both _ _ (two_bytes a (ltb→lt a 65536 (and_left (fits_two a) (fits_two b) t))) (two_bytes b (ltb→lt b 65536 (and_right (fits_two a) (fits_two b) t))))
    (byte (code_of x) (omega arith) (operand-bytes x (and_right (fits_two a && fits_two b) (action_fits x) h)))

-- ---- lines and the whole

range-bytes : (i : Interval) → T (range_fits i) → AreBytes (encode_value i.low ++ encode_value i.high)
unfolding range_fits fits_signed
range-bytes i h =
    each_both _ _ (value-bytes i.low (and_left (fits_signed i.low) (fits_signed i.high) h)) (value-bytes i.high (and_right (fits_signed i.low) (fits_signed i.high) h))

line-bytes : (n : ℕ) (x : Line) → T (line_fits x) → length (field_of n x) < 65536 → AreBytes (field_of n x)
unfolding line_fits field_of
line-bytes n (locks_line k) h l = field-bytes 3 (k ∷ []) (omega arith) (omega arith) (byte_fits k h & nil)
line-bytes n (var_line i) h l = field-bytes 2 _ (omega arith) (omega arith) (range-bytes i h)
line-bytes n thread_line h l = field-bytes 4 (min n 255 ∷ []) (omega arith) (omega arith) (byte (min n 255) (omega arith) nil)
line-bytes n (reg_line i) h l = field-bytes 5 _ (omega arith) (omega arith) (range-bytes i h)
line-bytes n (statement_line a b x) h l = field-bytes 6 (encode_body a b x) (omega arith) (omega arith) (body_bytes a b x h)

-- a piece that is not too long is written in bytes
piece_bytes : (x : Piece) → (T x.fits → AreBytes x.whole) → AreBytes (written x)
unfolding written
piece_bytes x f = if-ind x.fits x.whole (0 ∷ 0 ∷ 0 ∷ []) AreBytes f (λ _. byte 0 (omega arith) (byte 0 (omega arith) (byte 0 (omega arith) nil)))

pieces-bytes : (ys : List Started) → length (in_row (λ (x : Piece). x.whole) (pieces ys)) < 65536 → AreBytes (in_row written (pieces ys))
unfolding pieces in_row
pieces-bytes [] l = nil
pieces-bytes (starts p x ∷ ys) l =
    let n = registers_ahead ys in
    let e = length-append (field_of n x) (in_row (λ (x : Piece). x.whole) (pieces ys)) in
    let piece : Piece = record { start = p; whole = field_of n x; fits = line_fits x } in
    each_both _ _ (piece_bytes piece (λ h. line-bytes n x h (omega arith))) (pieces-bytes ys (omega arith))

header-bytes : (h : Header) → T (header_numbers_fit h) → AreBytes (encode_header h)
unfolding header_numbers_fit fits_four
header-bytes h f =
    let a = fits_four h.limit && fits_four h.budget in
    let b = fits_four h.label_low && fits_four h.label_high in
    let one : (n : ℕ) → T (fits_four n) → AreBytes (four n) = λ n t. four_bytes n (ltb→lt n 4294967296 t) in
    field-bytes 1 _ (omega arith) (omega arith) (each_both _ _ (each_both _ _ (each_both _ _
    (one h.limit (and_left (fits_four h.limit) (fits_four h.budget) (and_left a b f)))
    (one h.budget (and_right (fits_four h.limit) (fits_four h.budget) (and_left a b f))))
    (one h.label_low (and_left (fits_four h.label_low) (fits_four h.label_high) (and_right a b f))))
    (one h.label_high (and_right (fits_four h.label_low) (fits_four h.label_high) (and_right a b f))))

pub text-bytes : (t : Text) → length (in_row (λ (x : Piece). x.whole) (text_pieces t)) < 65536 → AreBytes (in_row written (text_pieces t))
unfolding text_pieces in_row
text-bytes t l =
    let e = length-append (encode_header t.header) (in_row (λ (x : Piece). x.whole) (pieces t.lines)) in
    each_both _ _ (piece_bytes _ (header-bytes t.header)) (pieces-bytes t.lines (omega arith))
