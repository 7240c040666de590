-- How each kind of expression is written, the rules' readers by depth and level, and what a reader owes that goes on from something read.
use Rattle.std.specs.Prelude.{Bool, true, false, List, ℕ, zero, suc, ◌≤◌, eqb, length, drop, if◌then◌else◌, Result, Ok}
use Rattle.rules.specs.Format.{Bytes}
use Rattle.rules.specs.Interval.{Operator, plus, minus, times, divide}
use Rattle.rules.specs.Program.{Arith, operation, Condition, conjunction, equal, less}
use Rattle.rules.specs.Encoding.{encode_arith, encode_condition}
use Rattle.text.specs.Words.{Read, took, then_read, Word}
use Rattle.text.specs.Notation.{Thing, arithmetic, logical, on_thing, is_condition, products, sums, chain, from_left, factor, closed, too_deep, onward, start, either}
use Rattle.text.specs.Convert.{arith_fits, condition_fits}
use Rattle.scan.specs.Writing.{Form, Made, Builds, OnwardBuilt, Begun}
use Rattle.scan.specs.declared.step.Built.{Built}

-- ---- how each kind is written

unfoldable pub arith_form : Form Arith
arith_form = record { bytes = encode_arith; fits = arith_fits; logical = λ a. false }

unfoldable pub condition_form : Form Condition
condition_form = record { bytes = encode_condition; fits = condition_fits; logical = λ c. true }

abbrev pub thing_bytes : Thing → Bytes
thing_bytes (arithmetic a) = encode_arith a
thing_bytes (logical c) = encode_condition c

abbrev pub thing_fits : Thing → Bool
thing_fits (arithmetic a) = arith_fits a
thing_fits (logical c) = condition_fits c

abbrev pub is_logical : Thing → Bool
is_logical (arithmetic a) = false
is_logical (logical c) = true

unfoldable pub thing_form : Form Thing
thing_form = record { bytes = thing_bytes; fits = thing_fits; logical = is_logical }

-- ---- what a code joins by

unfoldable pub op_of : ℕ → Operator
op_of c = if eqb c 18 then plus else if eqb c 19 then minus else if eqb c 20 then times else divide

unfoldable pub operation_of : ℕ → Arith → Arith → Arith
operation_of c = operation (op_of c)

unfoldable pub rel_of : ℕ → Arith → Arith → Condition
rel_of c = if eqb c 36 then equal else less

unfoldable pub both_of : ℕ → Condition → Condition → Condition
both_of c = conjunction

-- ---- the rules' readers, d parentheses deep

-- products bind first
unfoldable pub ops_at : ℕ → List (Word (Arith → Arith → Arith))
ops_at l = if eqb l 1 then products else sums

-- level 0: a factor; 1: a product; 2: a sum
unfoldable pub arith_at : ℕ → ℕ → Bytes → Read Arith
arith_at d zero s = factor d s
arith_at d (suc l) s = from_left (ops_at (suc l)) (λ t. arith_at d l t) s

-- what an opening parenthesis holds where a condition is due
unfoldable pub group_at : ℕ → Bytes → Read Thing
group_at zero r = too_deep r
group_at (suc d) r = closed (either d r)

unfoldable pub start_at : ℕ → Bytes → Read Thing
start_at d s = start (group_at d) (factor d) s

-- what a first operand begins
unfoldable pub begins : ℕ → Read Thing → Read Thing
begins d g = then_read g (λ x r. on_thing x (λ a. onward (factor d) a r) (λ c. took (logical c) r))

-- ---- what a reader owes that goes on

-- further operands behind one that stands written, whatever bounds the turns
abbrev pub ChainBuilds : {A : Type 0} → Form A → List (Word (A → A → A)) → (Bytes → Read A) → Bytes → ℕ → Bytes → Built Bool → Bytes → Result (Built Bool) ℕ → Type 0
ChainBuilds {A} F ws operand s at now first after r =
    (o : Bytes) (a : A) (n : ℕ) → length (drop first.place s) ≤ n → Begun F o at now first a
    → Builds F s o at after (chain ws operand n a (drop first.place s)) r

-- what an opening parenthesis began, closed
abbrev pub Closes : {A : Type 0} → Form A → Bytes → Built Bool → Result (Built Bool) ℕ → Type 0
Closes {A} F s x r = (out : Bytes) (at : ℕ) (after : Bytes) (g : Read A) → Made F s out at after g x → Builds F s out at after (closed g) r

-- a condition, where one is due
abbrev pub Requires : Bytes → Built Bool → Result (Built Bool) ℕ → Type 0
Requires s x r = (out : Bytes) (at : ℕ) (after : Bytes) (g : Read Thing) → Made thing_form s out at after g x
    → Builds condition_form s out at after (then_read g is_condition) r

-- no place and no end goes back
abbrev pub KeepsOn : Bytes → Built Bool → Result (Built Bool) ℕ → Type 0
KeepsOn s x r = (p at : ℕ) → OnwardBuilt s p at (Ok x) → OnwardBuilt s p at r
