-- What is written of a program that fits are bytes: each number stands in those that the format has for it.
use mathlib.Core.List.{List, [], ◌∷◌, ◌++◌}
use Prim.Native.Nat.{ℕ, zero, suc, ◌/◌, ◌%◌, ◌≤◌, ◌<◌}
use native.Mathlib.Omega.{arith}
use lib.Dec.{T, leb→le, ltb→lt}
use lib.IntN.{ℤ}
use lib.ListN.{length, length-append}
use Rattle.rules.specs.Base.{Each, nil, ◌&◌}
use Rattle.rules.specs.Constants.{longest_sheet, deepest, most_variables, most_registers, most_locks, most_statements}
use Rattle.rules.specs.Interval.{Interval, Operator, plus, minus, times, divide}
use Rattle.rules.specs.Program.{Arith, constant, register, operation, Condition, always, never, negation, conjunction, equal, less}
use Rattle.rules.specs.Program.{Action, halt, skip, assign, branch, store, load, unlock, lock, Statement, Thread, Header, Program}
use Rattle.rules.specs.Format.{Bytes, AreBytes, Names, target_fits}
use Rattle.rules.specs.Encoding.{two, four, field, unsigned, encode_value, operator_code, encode_arith, encode_condition, code_of, encode_operands, encode_body, encode_statement, in_row, encode_range, encode_header, encode_locks, encode_opening, encode_thread, encode_front, encode}
use Rattle.rules.specs.Fits.{Value, HeaderFits, RangeFits, ArithFits, ConditionFits, ActionFits, StatementFits, ThreadFits, ProgramFits}
use Rattle.rules.proofs.Base.{each_both}
use Rattle.rules.proofs.Format.{times-in-order}
use Rattle.rules.proofs.Values.{unsigned_small}
use Rattle.rules.proofs.StatementBytes.{code-known}

-- one byte, then others
pub byte : (b : ℕ) {bs : Bytes} → b < 256 → AreBytes bs → AreBytes (b ∷ bs)
byte b h k = h & k

-- ---- numbers and fields

pub two_bytes : (n : ℕ) → n < 65536 → AreBytes (two n)
two_bytes n h = byte (n / 256) (omega arith) (byte (n % 256) (omega arith) nil)

pub four_bytes : (n : ℕ) → n < 4294967296 → AreBytes (four n)
four_bytes n h = each_both (two (n / 65536)) (two (n % 65536)) (two_bytes (n / 65536) (omega arith)) (two_bytes (n % 65536) (omega arith))

pub value-bytes : (z : ℤ) → Value z → AreBytes (encode_value z)
value-bytes z v = four_bytes (unsigned z) (unsigned_small z v)

pub field-bytes : (tag : ℕ) (body : Bytes) → tag < 256 → length body < 65536 → AreBytes body → AreBytes (field tag body)
field-bytes tag body t n b = byte tag t (each_both (two (length body)) body (two_bytes (length body) n) b)

range-bytes : (tag : ℕ) → tag < 256 → (i : Interval) → RangeFits i → AreBytes (encode_range tag i)
range-bytes tag t i f =
    field-bytes tag (encode_value i.low ++ encode_value i.high) t (omega arith)
    (each_both (encode_value i.low) (encode_value i.high) (value-bytes i.low f.low) (value-bytes i.high f.high))

header-bytes : (h : Header) → HeaderFits h → AreBytes (encode_header h)
header-bytes h f =
    let limit = f.limit_most in let budget = f.budget_most in let ordered = f.label_ordered in let most = f.label_most in
    let l = four_bytes h.limit (omega arith) in let b = four_bytes h.budget (omega arith) in
    let a = four_bytes h.label_low (omega arith) in let z = four_bytes h.label_high (omega arith) in
    field-bytes 1 (four h.limit ++ four h.budget ++ four h.label_low ++ four h.label_high) (omega arith) (omega arith)
    (each_both (four h.limit) (four h.budget ++ four h.label_low ++ four h.label_high) l
    (each_both (four h.budget) (four h.label_low ++ four h.label_high) b (each_both (four h.label_low) (four h.label_high) a z)))

-- ---- expressions, where at most 8 registers are named

pub operator-byte : (o : Operator) → operator_code o < 256
operator-byte plus = omega arith
operator-byte minus = omega arith
operator-byte times = omega arith
operator-byte divide = omega arith

module _ (n : ℕ) (few : n ≤ most_registers) where
  arith-bytes : (d : ℕ) (a : Arith) → ArithFits d n a → AreBytes (encode_arith a)
  unfolding encode_arith
  arith-bytes zero a f = absurd f
  arith-bytes (suc d) (constant z) f = byte 16 (omega arith) (value-bytes z f)
  arith-bytes (suc d) (register r) f = byte 17 (omega arith) (byte r (omega arith) nil)
  arith-bytes (suc d) (operation o a b) f = operator-byte o & each_both (encode_arith a) (encode_arith b) (arith-bytes d a f.0) (arith-bytes d b f.1)

  condition-bytes : (d : ℕ) (c : Condition) → ConditionFits d n c → AreBytes (encode_condition c)
  unfolding encode_condition
  condition-bytes zero c f = absurd f
  condition-bytes (suc d) always f = byte 32 (omega arith) nil
  condition-bytes (suc d) never f = byte 33 (omega arith) nil
  condition-bytes (suc d) (negation c) f = byte 34 (omega arith) (condition-bytes d c f)
  condition-bytes (suc d) (conjunction a b) f = byte 35 (omega arith) (each_both (encode_condition a) (encode_condition b) (condition-bytes d a f.0) (condition-bytes d b f.1))
  condition-bytes (suc d) (equal a b) f = byte 36 (omega arith) (each_both (encode_arith a) (encode_arith b) (arith-bytes d a f.0) (arith-bytes d b f.1))
  condition-bytes (suc d) (less a b) f = byte 37 (omega arith) (each_both (encode_arith a) (encode_arith b) (arith-bytes d a f.0) (arith-bytes d b f.1))

-- ---- statements, where names and targets are few

module _ (ns : Names) (regs : ns.regs ≤ most_registers) (vars : ns.vars ≤ most_variables) (locks : ns.locks ≤ most_locks) (n : ℕ) (few : n ≤ most_statements) where
  operand-bytes : (a : Action) → ActionFits ns a → T (target_fits n a) → AreBytes (encode_operands a)
  unfolding encode_operands target_fits
  operand-bytes halt f t = nil
  operand-bytes skip f t = nil
  operand-bytes (assign r a) f t = let h = f.0 in byte r (omega arith) (arith-bytes ns.regs regs deepest a f.1)
  operand-bytes (branch to c) f t = let h = ltb→lt to n t in byte to (omega arith) (condition-bytes ns.regs regs deepest c f)
  operand-bytes (store r v) f t = let h = f.0 in let k = f.1 in byte r (omega arith) (byte v (omega arith) nil)
  operand-bytes (load r v) f t = let h = f.0 in let k = f.1 in byte r (omega arith) (byte v (omega arith) nil)
  operand-bytes (unlock l) f t = byte l (omega arith) nil
  operand-bytes (lock l) f t = byte l (omega arith) nil

  statement-bytes : (x : Statement) → StatementFits ns x → T (target_fits n x.action) → length (encode_statement x) < 65536 → AreBytes (encode_statement x)
  unfolding encode_statement
  statement-bytes x f t m =
      let a = x.action in
      let k = leb→le (code_of a) 7 (code-known a) in
      let order = times-in-order (code_of a) x.least x.greatest f.times in
      let top = f.two_bytes in
      field-bytes 6 (encode_body x.least x.greatest a) (omega arith) (omega arith)
      (each_both (two x.least) (two x.greatest ++ code_of a ∷ encode_operands a) (two_bytes x.least (omega arith))
      (each_both (two x.greatest) (code_of a ∷ encode_operands a) (two_bytes x.greatest (omega arith)) (byte (code_of a) (omega arith) (operand-bytes a f.action t))))

  statements-bytes : (xs : List Statement) → Each (StatementFits ns) xs → Each (λ (x : Statement). T (target_fits n x.action)) xs → length (in_row encode_statement xs) < 65536
      → AreBytes (in_row encode_statement xs)
  unfolding in_row
  statements-bytes [] nil nil m = nil
  statements-bytes (x ∷ xs) (f & fs) (t & ts) m =
      let l = length-append (encode_statement x) (in_row encode_statement xs) in
      each_both (encode_statement x) (in_row encode_statement xs) (statement-bytes x f t (omega arith)) (statements-bytes xs fs ts (omega arith))

-- ---- threads and the sheet

row-bytes : {A : Type 0} (write : A → Bytes) (Good : A → Type 0) → ((x : A) → Good x → length (write x) < 65536 → AreBytes (write x))
    → (xs : List A) → Each Good xs → length (in_row write xs) < 65536 → AreBytes (in_row write xs)
unfolding in_row
row-bytes write Good f [] nil n = nil
row-bytes write Good f (x ∷ xs) (w & ws) n =
    let m = length-append (write x) (in_row write xs) in
    each_both (write x) (in_row write xs) (f x w (omega arith)) (row-bytes write Good f xs ws (omega arith))

opening-bytes : (rs : List Interval) → length rs ≤ most_registers → Each RangeFits rs → length (encode_opening rs) < 65536 → AreBytes (encode_opening rs)
unfolding encode_opening
opening-bytes rs few f n =
    let m = length-append (field 4 (length rs ∷ [])) (in_row (encode_range 5) rs) in
    each_both (field 4 (length rs ∷ [])) (in_row (encode_range 5) rs) (field-bytes 4 (length rs ∷ []) (omega arith) (omega arith) (byte (length rs) (omega arith) nil))
    (row-bytes (encode_range 5) RangeFits (λ i v _. range-bytes 5 (omega arith) i v) rs f (omega arith))

module _ (vars locks : ℕ) (vars_few : vars ≤ most_variables) (locks_few : locks ≤ most_locks) where
  thread-bytes : (t : Thread) → ThreadFits vars locks t → length (encode_thread t) < 65536 → AreBytes (encode_thread t)
  unfolding encode_thread
  thread-bytes t f n =
      let m = length-append (encode_opening t.regs) (in_row encode_statement t.statements) in
      let names : Names = record { regs = length t.regs; vars = vars; locks = locks } in
      each_both (encode_opening t.regs) (in_row encode_statement t.statements) (opening-bytes t.regs f.regs_few f.regs (omega arith))
      (statements-bytes names f.regs_few vars_few locks_few (length t.statements) f.few t.statements f.statements f.targets (omega arith))

pub written_bytes : (g : Program) → ProgramFits g → AreBytes (encode g)
unfolding encode encode_front
written_bytes g f =
    let fore = encode_header g.header ++ encode_locks g.locks in
    let vars = in_row (encode_range 2) g.vars in
    let threads = in_row encode_thread g.threads in
    let short : length ((fore ++ vars) ++ threads) ≤ longest_sheet = f.short in
    let l = length-append (fore ++ vars) threads in
    let m = length-append fore vars in
    let few = f.locks_few in
    each_both (fore ++ vars) threads
    (each_both fore vars
    (each_both (encode_header g.header) (encode_locks g.locks) (header-bytes g.header f.header) (field-bytes 3 (g.locks ∷ []) (omega arith) (omega arith) (byte g.locks (omega arith) nil)))
    (row-bytes (encode_range 2) RangeFits (λ i v _. range-bytes 2 (omega arith) i v) g.vars f.vars (omega arith)))
    (row-bytes encode_thread (ThreadFits (length g.vars) g.locks) (thread-bytes (length g.vars) g.locks f.vars_few f.locks_few) g.threads f.threads (omega arith))
