-- The sheet: from bytes to a program, or the first refusal from 1 to 9 with its place (01, "The sheet" and "What the tool
-- says no to"). Every reader takes the whole sheet and a place in it.
use Rattle.std.specs.Prelude.{Bool, true, false, ◌&&◌, not, List, [], ◌∷◌, ◌++◌, ℕ, zero, suc, ◌+◌, ◌-◌, ◌*◌, ◌<◌, leb, ltb, eqb, ℤ, pos, negsuc, length, get_or, if◌then◌else◌}
use Rattle.std.specs.Int.Signed.{le_z}
use Rattle.rules.specs.Base.{Each}
use Rattle.rules.specs.Refusal.{Refusal, short, out_of_turn, bad_length, off_range, no_such_name, bad_expression, no_halt, too_many, too_long}
use Rattle.rules.specs.Constants.{longest_sheet, deepest, most_variables, most_registers, most_locks, most_threads, most_statements, greatest_limit, greatest_budget}
use Rattle.rules.specs.Interval.{Interval, interval, Operator, plus, minus, times, divide}
use Rattle.rules.specs.Program.{Arith, constant, register, operation, Condition, always, never, negation, conjunction, equal, less}
use Rattle.rules.specs.Program.{Action, halt, skip, assign, branch, store, load, unlock, lock, is_halt, Statement, Thread, Header, Program}

abbrev pub Bytes : Type 0
Bytes = List ℕ

-- every number of a file is one byte's
abbrev pub AreBytes : Bytes → Type 0
AreBytes s = Each (λ b. b < 256) s

-- what a reader gives: a value and the place behind it, or a refusal and the place at fault
pub data Got (A : Type 0) : Type 0 where
  bad : Refusal → ℕ → Got A
  got : A → ℕ → Got A

unfoldable pub and_then : {A B : Type 0} → Got A → (A → ℕ → Got B) → Got B
and_then (bad r p) f = bad r p
and_then (got a q) f = f a q

-- a check: where it fails, refusal r at a place
unfoldable pub need : {A : Type 0} → Bool → Refusal → ℕ → Got A → Got A
need true r at g = g
need false r at g = bad r at

unfoldable pub map_got : {A B : Type 0} → (A → B) → Got A → Got B
map_got f (bad r p) = bad r p
map_got f (got a q) = got (f a) q

-- ---- "Numbers have the high byte first and are unsigned, but starting values and constants are signed, two's complement."

abbrev pub byte : Bytes → ℕ → ℕ
byte s p = get_or s p 0

abbrev pub num16 : Bytes → ℕ → ℕ
num16 s p = byte s p * 256 + byte s (p + 1)

unfoldable pub num32 : Bytes → ℕ → ℕ
num32 s p = num16 s p * 65536 + num16 s (p + 2)

unfoldable pub twos_complement : ℕ → ℤ
twos_complement n = if ltb n 2147483648 then pos n else negsuc (4294967295 - n)

unfoldable pub int32 : Bytes → ℕ → ℤ
int32 s p = twos_complement (num32 s p)

-- ---- "Fields are a one-byte tag, a two-byte length, then the body."

-- a whole header stands at a place; the body behind it lies in the sheet
unfoldable pub has_head : Bytes → ℕ → Bool
has_head s at = leb (at + 3) (length s)

unfoldable pub has_body : Bytes → ℕ → Bool
has_body s at = leb (at + 3 + num16 s (at + 1)) (length s)

-- "within one: header short, tag, too many, body short, length, then contents"

-- the field at a place has the tag that is due
unfoldable pub due : {A : Type 0} → ℕ → Bytes → ℕ → Got A → Got A
due tag s at g = need (has_head s at) short at (need (eqb (byte s at) tag) out_of_turn at g)

-- a field of length n whose contents pass a check
unfoldable pub sized : {A : Type 0} → Bytes → ℕ → ℕ → Bool → A → Got A
sized s at n ok a =
    need (has_body s at) short at (
    need (eqb (num16 s (at + 1)) n) bad_length at (
    need ok off_range at (
    got a (at + 3 + n))))

-- ---- tags 1 and 3

-- "Time limit 1..1,000,000; budget 1..10,000,000; label low at most label high, high at most the limit"
unfoldable pub header_fits : ℕ → ℕ → ℕ → ℕ → Bool
header_fits limit budget low high =
    (leb 1 limit && leb limit greatest_limit) && ((leb 1 budget && leb budget greatest_budget) && (leb low high && leb high limit))

unfoldable pub read_header : Bytes → Got Header
read_header s =
    let limit = num32 s 3 in
    let budget = num32 s 7 in
    let low = num32 s 11 in
    let high = num32 s 15 in
    due 1 s 0 (sized s 0 16 (header_fits limit budget low high)
    (record { limit = limit; budget = budget; label_low = low; label_high = high }))

unfoldable pub read_locks : Bytes → ℕ → Got ℕ
read_locks s at = due 3 s at (sized s at 1 (leb (byte s (at + 3)) most_locks) (byte s (at + 3)))

-- ---- fields that may stand several times

-- what stands at a place where one more may: a fault, one more, or no more
pub data Here : Type 0 where
  wrong : Refusal → Here
  more : Here
  done : Here

unfoldable pub on_here : {A : Type 0} → ℕ → Here → Got A → Got A → Got A
on_here at (wrong r) next end = bad r at
on_here at more next end = next
on_here at done next end = end

-- all of a kind, k more at most: `here n p` is what stands at p once n are read, `one p` reads one
unfoldable pub read_many : {A : Type 0} → (ℕ → ℕ → Here) → (ℕ → Got A) → ℕ → List A → ℕ → Got (List A)
read_many here one zero xs at = on_here at (here (length xs) at) (bad too_many at) (got xs at)
read_many here one (suc k) xs at =
    on_here at (here (length xs) at) (and_then (one at) (λ x q. read_many here one k (xs ++ x ∷ []) q)) (got xs at)

-- ---- tags 2 and 5: "every low at most its high"

unfoldable pub read_range : Bytes → ℕ → Got Interval
read_range s at =
    let a = int32 s (at + 3) in
    let b = int32 s (at + 7) in
    sized s at 8 (le_z a b) (interval a b)

-- one more variable, or the first thread
unfoldable pub variable_here : Bytes → ℕ → Here
variable_here s at =
    if not (has_head s at) then wrong short
    else if eqb (byte s at) 2 then more
    else if eqb (byte s at) 4 then done
    else wrong out_of_turn

unfoldable pub read_variables : Bytes → ℕ → Got (List Interval)
read_variables s at = read_many (λ n p. variable_here s p) (λ p. read_range s p) most_variables [] at

-- registers: "as many as tag 4 said"
unfoldable pub read_registers : ℕ → List Interval → Bytes → ℕ → Got (List Interval)
read_registers zero rs s at = got rs at
read_registers (suc k) rs s at = and_then (due 5 s at (read_range s at)) (λ i q. read_registers k (rs ++ i ∷ []) s q)

-- ---- "Expressions stand operator first and may nest twelve deep (a leaf is one deep)."
-- They are read from a place up to the body's end e, over n registers; d is the depth that is left. A fault in one is its
-- statement's: `exactly` gives it the place of the field.

pub data ArithKind : Type 0 where
  a_constant a_register unknown : ArithKind
  an_operator : Operator → ArithKind

unfoldable pub arith_kind : ℕ → ArithKind
arith_kind c =
    if eqb c 16 then a_constant
    else if eqb c 17 then a_register
    else if eqb c 18 then an_operator plus
    else if eqb c 19 then an_operator minus
    else if eqb c 20 then an_operator times
    else if eqb c 21 then an_operator divide
    else unknown

-- the kind of the code at a place, where there is one
unfoldable pub arith_at : Bytes → ℕ → ℕ → ArithKind
arith_at s e p = if ltb p e then arith_kind (byte s p) else unknown

unfoldable pub read_constant : Bytes → ℕ → ℕ → Got Arith
read_constant s e p = need (leb (p + 4) e) bad_expression p (got (constant (int32 s p)) (p + 4))

unfoldable pub read_register : Bytes → ℕ → ℕ → ℕ → Got Arith
read_register s e n p =
    need (leb (p + 1) e) bad_expression p (
    need (ltb (byte s p) n) no_such_name p (
    got (register (byte s p)) (p + 1)))

unfoldable pub on_arith : ArithKind → Got Arith → Got Arith → (Operator → Got Arith) → Got Arith → Got Arith
on_arith a_constant c r f u = c
on_arith a_register c r f u = r
on_arith (an_operator o) c r f u = f o
on_arith unknown c r f u = u

unfoldable pub read_arith : ℕ → Bytes → ℕ → ℕ → ℕ → Got Arith
read_arith zero s e n p = bad bad_expression p
read_arith (suc d) s e n p =
    on_arith (arith_at s e p)
    (read_constant s e (p + 1))
    (read_register s e n (p + 1))
    (λ o. and_then (read_arith d s e n (p + 1)) (λ a q. and_then (read_arith d s e n q) (λ b r. got (operation o a b) r)))
    (bad bad_expression p)

pub data ConditionKind : Type 0 where
  leaf : Condition → ConditionKind
  a_negation a_conjunction unknown_condition : ConditionKind
  comparison : (Arith → Arith → Condition) → ConditionKind

unfoldable pub condition_kind : ℕ → ConditionKind
condition_kind c =
    if eqb c 32 then leaf always
    else if eqb c 33 then leaf never
    else if eqb c 34 then a_negation
    else if eqb c 35 then a_conjunction
    else if eqb c 36 then comparison equal
    else if eqb c 37 then comparison less
    else unknown_condition

unfoldable pub condition_at : Bytes → ℕ → ℕ → ConditionKind
condition_at s e p = if ltb p e then condition_kind (byte s p) else unknown_condition

unfoldable pub on_condition : ConditionKind → (Condition → Got Condition) → (Unit {0} → Got Condition) → (Unit {0} → Got Condition)
    → ((Arith → Arith → Condition) → Got Condition) → Got Condition → Got Condition
on_condition (leaf c) l n a f u = l c
on_condition a_negation l n a f u = n tt
on_condition a_conjunction l n a f u = a tt
on_condition (comparison k) l n a f u = f k
on_condition unknown_condition l n a f u = u

unfoldable pub read_condition : ℕ → Bytes → ℕ → ℕ → ℕ → Got Condition
read_condition zero s e n p = bad bad_expression p
read_condition (suc d) s e n p =
    on_condition (condition_at s e p)
    (λ c. got c (p + 1))
    (λ _. and_then (read_condition d s e n (p + 1)) (λ c q. got (negation c) q))
    (λ _. and_then (read_condition d s e n (p + 1)) (λ a q. and_then (read_condition d s e n q) (λ b r. got (conjunction a b) r)))
    (λ f. and_then (read_arith d s e n (p + 1)) (λ a q. and_then (read_arith d s e n q) (λ b r. got (f a b) r)))
    (bad bad_expression p)

-- "They end exactly where the field ends."
unfoldable pub exactly : {A : Type 0} → ℕ → ℕ → Got A → Got A
exactly at e (bad r p) = bad r at
exactly at e (got a q) = need (eqb q e) bad_expression at (got a q)

-- ---- tag 6, a statement: "length under 5 (3), code (4), length for the code (3), times (4), names (5), expression"

-- "Body lengths: 5 for halt and skip, 6 for lock and unlock, 7 for store and load, 7 or more for assign and if."
unfoldable pub length_fits : ℕ → ℕ → Bool
length_fits c n =
    if leb c 1 then eqb n 5
    else if leb c 3 then leb 7 n
    else if leb c 5 then eqb n 7
    else eqb n 6

-- "Halt has times 0 and 0; all others have least at least 1": two bytes hold no more than 65,535
unfoldable pub times_fit : ℕ → ℕ → ℕ → Bool
times_fit c least greatest = if eqb c 0 then eqb least 0 && eqb greatest 0 else leb 1 least && leb least greatest

-- how many registers the thread has, and how many variables and locks the sheet
pub record Names : Type 0 where
  pub regs : ℕ
  pub vars : ℕ
  pub locks : ℕ

-- the operands of a code, from p up to the body's end e; an if's target is looked at when the thread closes
unfoldable pub read_action : ℕ → Names → Bytes → ℕ → ℕ → ℕ → Got Action
read_action c names s at e p =
    let a = byte s p in
    let b = byte s (p + 1) in
    let n = names.regs in
    if eqb c 0 then got halt e
    else if eqb c 1 then got skip e
    else if eqb c 2 then need (ltb a n) no_such_name at (map_got (assign a) (exactly at e (read_arith deepest s e n (p + 1))))
    else if eqb c 3 then map_got (branch a) (exactly at e (read_condition deepest s e n (p + 1)))
    else if eqb c 4 then need (ltb a n && ltb b names.vars) no_such_name at (got (store a b) e)
    else if eqb c 5 then need (ltb a n && ltb b names.vars) no_such_name at (got (load a b) e)
    else if eqb c 6 then need (ltb a names.locks) no_such_name at (got (unlock a) e)
    else need (ltb a names.locks) no_such_name at (got (lock a) e)

unfoldable pub read_contents : Names → Bytes → ℕ → Got Statement
read_contents names s at =
    let n = num16 s (at + 1) in
    let least = num16 s (at + 3) in
    let greatest = num16 s (at + 5) in
    let c = byte s (at + 7) in
    need (leb 5 n) bad_length at (
    need (leb c 7) off_range at (
    need (length_fits c n) bad_length at (
    need (times_fit c least greatest) off_range at (
    map_got (λ o. record { place = at; least = least; greatest = greatest; action = o })
    (read_action c names s at (at + 3 + n) (at + 8))))))

unfoldable pub read_statement : Names → Bytes → ℕ → Got Statement
read_statement names s at = need (has_body s at) short at (read_contents names s at)

-- one more statement, or the end of the thread: "A thread closes when the tag of a full header is 4 (after its first
-- statement) or no bytes remain." The first argument is how many were read.
unfoldable pub statement_here : ℕ → Bytes → ℕ → Here
statement_here zero s at =
    if not (has_head s at) then wrong short
    else if eqb (byte s at) 6 then more
    else wrong out_of_turn
statement_here (suc n) s at =
    if eqb at (length s) then done
    else if not (has_head s at) then wrong short
    else if eqb (byte s at) 6 then more
    else if eqb (byte s at) 4 then done
    else wrong out_of_turn

unfoldable pub read_statements : Names → Bytes → ℕ → Got (List Statement)
read_statements names s at = read_many (λ n p. statement_here n s p) (λ p. read_statement names s p) most_statements [] at

-- ---- "closing checks halt, then targets in statement order, before the new field"

unfoldable pub last_halts : {A : Type 0} → List Statement → Got A → Got A
last_halts [] g = g
last_halts (x ∷ []) g = need (is_halt x.action) no_halt x.place g
last_halts (x ∷ y ∷ ys) g = last_halts (y ∷ ys) g

unfoldable pub target_fits : ℕ → Action → Bool
target_fits n halt = true
target_fits n skip = true
target_fits n (assign r a) = true
target_fits n (branch t c) = ltb t n
target_fits n (store r v) = true
target_fits n (load r v) = true
target_fits n (unlock l) = true
target_fits n (lock l) = true

unfoldable pub targets_fit : {A : Type 0} → ℕ → List Statement → Got A → Got A
targets_fit n [] g = g
targets_fit n (x ∷ xs) g = need (target_fits n x.action) no_such_name x.place (targets_fit n xs g)

unfoldable pub close : Got (List Statement) → Got (List Statement)
close (bad r p) = bad r p
close (got xs q) = last_halts xs (targets_fit (length xs) xs (got xs q))

-- ---- tag 4, a thread, and the whole sheet

-- one thread, whose tag stands at a place
unfoldable pub read_thread : ℕ → ℕ → Bytes → ℕ → Got Thread
read_thread vars locks s at =
    let n = byte s (at + 3) in
    and_then (sized s at 1 (leb n most_registers) n) (λ _ p.
    and_then (read_registers n [] s p) (λ rs q.
    and_then (close (read_statements (record { regs = n; vars = vars; locks = locks }) s q)) (λ xs r.
    got (record { place = at; regs = rs; statements = xs }) r)))

-- behind the variables stands the first thread's tag, and a thread closes only at another's or at the sheet's end
unfoldable pub thread_here : Bytes → ℕ → Here
thread_here s at = if eqb at (length s) then done else more

unfoldable pub read_threads : ℕ → ℕ → Bytes → ℕ → Got (List Thread)
read_threads vars locks s at = read_many (λ n p. thread_here s p) (λ p. read_thread vars locks s p) most_threads [] at

-- "Then fields in order", whatever the sheet's length
abbrev pub read_fields : Bytes → Got Program
read_fields s =
    and_then (read_header s) (λ h p.
    and_then (read_locks s p) (λ k q.
    and_then (read_variables s q) (λ vs r.
    and_then (read_threads (length vs) k s r) (λ ts e.
    got (record { header = h; locks = k; vars = vs; threads = ts }) e))))

-- "9 comes first, place 0."
unfoldable pub read_sheet : Bytes → Got Program
read_sheet s = need (leb (length s) longest_sheet) too_long 0 (read_fields s)
