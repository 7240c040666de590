-- The format's other direction: the bytes of a program, field by field as 01's "The sheet" lays them out. It follows the readers
-- of `Format` one for one; that they are inverse is claimed in `Fits`.
use Rattle.std.specs.Prelude.{List, [], ◌∷◌, ◌++◌, ℕ, ◌+◌, ◌-◌, ◌/◌, ◌%◌, ℤ, pos, negsuc, length}
use Rattle.rules.specs.Interval.{Interval, Operator, plus, minus, times, divide}
use Rattle.rules.specs.Program.{Arith, constant, register, operation, Condition, always, never, negation, conjunction, equal, less}
use Rattle.rules.specs.Program.{Action, halt, skip, assign, branch, store, load, unlock, lock, Statement, Thread, Header, Program}
use Rattle.rules.specs.Format.{Bytes}

-- ---- "Numbers have the high byte first and are unsigned, but starting values and constants are signed, two's complement."

abbrev pub two : ℕ → Bytes
two n = n / 256 ∷ n % 256 ∷ []

abbrev pub four : ℕ → Bytes
four n = two (n / 65536) ++ two (n % 65536)

-- the unsigned number that has the 32 bits of a value
abbrev pub unsigned : ℤ → ℕ
unsigned (pos n) = n
unsigned (negsuc n) = 4294967295 - n

abbrev pub encode_value : ℤ → Bytes
encode_value z = four (unsigned z)

-- ---- "Fields are a one-byte tag, a two-byte length, then the body."

abbrev pub field : ℕ → Bytes → Bytes
field tag body = tag ∷ two (length body) ++ body

-- what is written of each, one behind the other
unfoldable pub in_row : {A : Type 0} → (A → Bytes) → List A → Bytes
in_row write [] = []
in_row write (x ∷ xs) = write x ++ in_row write xs

abbrev pub encode_header : Header → Bytes
encode_header h = field 1 (four h.limit ++ four h.budget ++ four h.label_low ++ four h.label_high)

abbrev pub encode_locks : ℕ → Bytes
encode_locks n = field 3 (n ∷ [])

-- a variable has tag 2, a register tag 5
abbrev pub encode_range : ℕ → Interval → Bytes
encode_range tag i = field tag (encode_value i.low ++ encode_value i.high)

-- ---- "Expressions stand operator first"

abbrev pub operator_code : Operator → ℕ
operator_code plus = 18
operator_code minus = 19
operator_code times = 20
operator_code divide = 21

unfoldable pub encode_arith : Arith → Bytes
encode_arith (constant z) = 16 ∷ encode_value z
encode_arith (register r) = 17 ∷ r ∷ []
encode_arith (operation o a b) = operator_code o ∷ encode_arith a ++ encode_arith b

unfoldable pub encode_condition : Condition → Bytes
encode_condition always = 32 ∷ []
encode_condition never = 33 ∷ []
encode_condition (negation c) = 34 ∷ encode_condition c
encode_condition (conjunction c d) = 35 ∷ encode_condition c ++ encode_condition d
encode_condition (equal a b) = 36 ∷ encode_arith a ++ encode_arith b
encode_condition (less a b) = 37 ∷ encode_arith a ++ encode_arith b

-- ---- "a statement: least and greatest time (2 bytes each), code, operands"

unfoldable pub code_of : Action → ℕ
code_of halt = 0
code_of skip = 1
code_of (assign r a) = 2
code_of (branch t c) = 3
code_of (store r v) = 4
code_of (load r v) = 5
code_of (unlock l) = 6
code_of (lock l) = 7

unfoldable pub encode_operands : Action → Bytes
encode_operands halt = []
encode_operands skip = []
encode_operands (assign r a) = r ∷ encode_arith a
encode_operands (branch t c) = t ∷ encode_condition c
encode_operands (store r v) = r ∷ v ∷ []
encode_operands (load r v) = r ∷ v ∷ []
encode_operands (unlock l) = l ∷ []
encode_operands (lock l) = l ∷ []

abbrev pub encode_body : ℕ → ℕ → Action → Bytes
encode_body least greatest a = two least ++ two greatest ++ code_of a ∷ encode_operands a

unfoldable pub encode_statement : Statement → Bytes
encode_statement x = field 6 (encode_body x.least x.greatest x.action)

-- ---- threads and the whole sheet

-- the field that opens a thread, and its registers
unfoldable pub encode_opening : List Interval → Bytes
encode_opening rs = field 4 (length rs ∷ []) ++ in_row (encode_range 5) rs

unfoldable pub encode_thread : Thread → Bytes
encode_thread t = encode_opening t.regs ++ in_row encode_statement t.statements

-- what stands before the first thread
unfoldable pub encode_front : Program → Bytes
encode_front g = encode_header g.header ++ encode_locks g.locks ++ in_row (encode_range 2) g.vars

unfoldable pub encode : Program → Bytes
encode g = encode_front g ++ in_row encode_thread g.threads

-- ---- the places of fields, as the writer puts them

unfoldable pub placed_statement : ℕ → Statement → Statement
placed_statement p x = record { place = p; least = x.least; greatest = x.greatest; action = x.action }

-- each at the place behind those before it
unfoldable pub placed_row : {A : Type 0} → (ℕ → A → A) → (A → Bytes) → ℕ → List A → List A
placed_row put write p [] = []
placed_row put write p (x ∷ xs) = put p x ∷ placed_row put write (p + length (write x)) xs

unfoldable pub placed_thread : ℕ → Thread → Thread
placed_thread p t = record {
  place = p;
  regs = t.regs;
  statements = placed_row placed_statement encode_statement (p + length (encode_opening t.regs)) t.statements;
}

unfoldable pub placed : Program → Program
placed g = record {
  header = g.header;
  locks = g.locks;
  vars = g.vars;
  threads = placed_row placed_thread encode_thread (length (encode_front g)) g.threads;
}
