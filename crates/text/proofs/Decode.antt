-- What a statement does can be had back from the bytes that are written for it, so these tell it.
use Rattle.std.specs.Prelude.{if◌then◌else◌}
use mathlib.Core.Path.{◌≡◌, refl, sym, ap, ◌∙◌}
use mathlib.Core.Bool.{◌&&◌}
use mathlib.Core.Option.{Option, none, some}
use mathlib.Core.List.{[], ◌∷◌, ◌++◌, append_assoc, append-nil}
use Prim.Native.Nat.{ℕ, zero, suc, ◌+◌, ◌*◌, ◌/◌, ◌%◌, ◌≤◌, max}
use native.Mathlib.Nat.{div-add-mod'}
use native.Mathlib.Omega.{arith}
use lib.Dec.{T, eqb}
use lib.IntN.{ℤ}
use Rattle.rules.specs.Interval.{Operator, plus, minus, times, divide}
use Rattle.rules.specs.Program.{Arith, constant, register, operation, Condition, always, never, negation, conjunction, equal, less}
use Rattle.rules.specs.Program.{Action, halt, skip, assign, branch, store, load, unlock, lock}
use Rattle.rules.specs.Format.{Bytes, twos_complement, ArithKind, a_constant, a_register, an_operator, unknown, arith_kind, ConditionKind, leaf, a_negation, a_conjunction, comparison, unknown_condition, condition_kind}
use Rattle.rules.specs.Encoding.{unsigned, operator_code, encode_arith, encode_condition, code_of, encode_operands}
use Rattle.text.specs.Convert.{fits_byte, fits_signed, arith_fits, condition_fits, action_fits}
use Rattle.rules.proofs.Base.{and_left, and_right}
use Rattle.rules.proofs.Values.{unsigned-read}

-- ---- numbers

abbrev pub low-two : ℕ → ℕ → ℕ
low-two a b = a * 256 + b

abbrev pub low-four : ℕ → ℕ → ℕ → ℕ → ℕ
low-four a b c d = low-two a b * 65536 + low-two c d

pub two_back : (n : ℕ) → low-two (n / 256) (n % 256) ≡ n
two_back n = div-add-mod' n 256

pub four-back : (n : ℕ) → low-four (n / 65536 / 256) (n / 65536 % 256) (n % 65536 / 256) (n % 65536 % 256) ≡ n
four-back n = rw (div-add-mod' (n / 65536) 256, div-add-mod' (n % 65536) 256) (div-add-mod' n 65536)

pub value-back : (z : ℤ) → T (fits_signed z)
    → twos_complement (low-four (unsigned z / 65536 / 256) (unsigned z / 65536 % 256) (unsigned z % 65536 / 256) (unsigned z % 65536 % 256)) ≡ z
unfolding fits_signed
value-back z h = ap twos_complement (four-back (unsigned z)) ∙ unsigned-read z h

-- ---- expressions, operator first: d bounds their depth

-- how deep a tree nests: a leaf is one deep
unfoldable pub nesting : Arith → ℕ
nesting (constant z) = 1
nesting (register r) = 1
nesting (operation o a b) = suc (max (nesting a) (nesting b))

unfoldable pub nesting_test : Condition → ℕ
nesting_test always = 1
nesting_test never = 1
nesting_test (negation c) = suc (nesting_test c)
nesting_test (conjunction c e) = suc (max (nesting_test c) (nesting_test e))
nesting_test (equal a b) = suc (max (nesting a) (nesting b))
nesting_test (less a b) = suc (max (nesting a) (nesting b))

-- a value, and the bytes behind it
pub data Back (A : Type 0) : Type 0 where
  nothing : Back A
  back : A → Bytes → Back A

unfoldable pub then-back : {A B : Type 0} → Back A → (A → Bytes → Back B) → Back B
then-back nothing f = nothing
then-back (back a r) f = f a r

unfoldable pub constant-back : Bytes → Back Arith
constant-back [] = nothing
constant-back (a ∷ []) = nothing
constant-back (a ∷ b ∷ []) = nothing
constant-back (a ∷ b ∷ c ∷ []) = nothing
constant-back (a ∷ b ∷ c ∷ d ∷ r) = back (constant (twos_complement (low-four a b c d))) r

unfoldable pub register-back : Bytes → Back Arith
register-back [] = nothing
register-back (n ∷ r) = back (register n) r

unfoldable pub by_kind : ArithKind → Back Arith → Back Arith → (Operator → Back Arith) → Back Arith
by_kind a_constant c r f = c
by_kind a_register c r f = r
by_kind (an_operator o) c r f = f o
by_kind unknown c r f = nothing

unfoldable pub arith-back : ℕ → Bytes → Back Arith
arith-back zero s = nothing
arith-back (suc d) [] = nothing
arith-back (suc d) (k ∷ s) =
    by_kind (arith_kind k) (constant-back s) (register-back s) (λ o. then-back (arith-back d s) (λ a t. then-back (arith-back d t) (λ b u. back (operation o a b) u)))

operator-kind : (o : Operator) → arith_kind (operator_code o) ≡ an_operator o
unfolding arith_kind
operator-kind plus = refl
operator-kind minus = refl
operator-kind times = refl
operator-kind divide = refl

pub arith-tells : (d : ℕ) (a : Arith) (r : Bytes) → nesting a ≤ d → T (arith_fits a) → arith-back d (encode_arith a ++ r) ≡ back a r
unfolding arith-back encode_arith nesting arith_fits constant-back register-back by_kind then-back arith_kind
arith-tells zero (constant z) r l h = absurd (omega arith)
arith-tells zero (register n) r l h = absurd (omega arith)
arith-tells zero (operation o a b) r l h = absurd (omega arith)
arith-tells (suc d) (constant z) r l h = rw (value-back z h)
arith-tells (suc d) (register n) r l h = refl
arith-tells (suc d) (operation o a b) r l h =
    rw (
      operator-kind o,
      append_assoc (encode_arith a) (encode_arith b) r,
      arith-tells d a (encode_arith b ++ r) (omega arith) (and_left (arith_fits a) (arith_fits b) h),
      arith-tells d b r (omega arith) (and_right (arith_fits a) (arith_fits b) h),
    )

unfoldable pub by_condition : ConditionKind → (Condition → Back Condition) → Back Condition → Back Condition → ((Arith → Arith → Condition) → Back Condition) → Back Condition
by_condition (leaf c) l n a f = l c
by_condition a_negation l n a f = n
by_condition a_conjunction l n a f = a
by_condition (comparison k) l n a f = f k
by_condition unknown_condition l n a f = nothing

unfoldable pub test_back : ℕ → Bytes → Back Condition
test_back zero s = nothing
test_back (suc d) [] = nothing
test_back (suc d) (k ∷ s) =
    by_condition (condition_kind k) (λ c. back c s)
    (then-back (test_back d s) (λ c t. back (negation c) t))
    (then-back (test_back d s) (λ c t. then-back (test_back d t) (λ e u. back (conjunction c e) u)))
    (λ f. then-back (arith-back d s) (λ a t. then-back (arith-back d t) (λ b u. back (f a b) u)))

sides-tell : (d : ℕ) (f : Arith → Arith → Condition) (a b : Arith) (r : Bytes) → nesting a ≤ d → nesting b ≤ d → T (arith_fits a && arith_fits b)
    → then-back (arith-back d (encode_arith a ++ encode_arith b ++ r)) (λ a t. then-back (arith-back d t) (λ b u. back (f a b) u)) ≡ back (f a b) r
unfolding then-back
sides-tell d f a b r l m h =
    rw (
      append_assoc (encode_arith a) (encode_arith b) r,
      arith-tells d a (encode_arith b ++ r) l (and_left (arith_fits a) (arith_fits b) h),
      arith-tells d b r m (and_right (arith_fits a) (arith_fits b) h),
    )

pub test-tells : (d : ℕ) (c : Condition) (r : Bytes) → nesting_test c ≤ d → T (condition_fits c) → test_back d (encode_condition c ++ r) ≡ back c r
unfolding test_back encode_condition nesting_test condition_fits by_condition then-back condition_kind
test-tells zero always r l h = absurd (omega arith)
test-tells zero never r l h = absurd (omega arith)
test-tells zero (negation c) r l h = absurd (omega arith)
test-tells zero (conjunction c e) r l h = absurd (omega arith)
test-tells zero (equal a b) r l h = absurd (omega arith)
test-tells zero (less a b) r l h = absurd (omega arith)
test-tells (suc d) always r l h = refl
test-tells (suc d) never r l h = refl
test-tells (suc d) (negation c) r l h = rw (test-tells d c r (omega arith) h)
test-tells (suc d) (conjunction c e) r l h =
    rw (
      append_assoc (encode_condition c) (encode_condition e) r,
      test-tells d c (encode_condition e ++ r) (omega arith) (and_left (condition_fits c) (condition_fits e) h),
      test-tells d e r (omega arith) (and_right (condition_fits c) (condition_fits e) h),
    )
test-tells (suc d) (equal a b) r l h = sides-tell d equal a b r (omega arith) (omega arith) h
test-tells (suc d) (less a b) r l h = sides-tell d less a b r (omega arith) (omega arith) h

-- ---- what a statement does

unfoldable pub value_of : {A B : Type 0} → (A → B) → Back A → Option B
value_of f nothing = none
value_of f (back a r) = some (f a)

unfoldable pub one_name : (ℕ → Action) → Bytes → Option Action
one_name f [] = none
one_name f (n ∷ r) = some (f n)

unfoldable pub two-names : (ℕ → ℕ → Action) → Bytes → Option Action
two-names f [] = none
two-names f (n ∷ []) = none
two-names f (n ∷ m ∷ r) = some (f n m)

unfoldable pub with-arith : ℕ → Bytes → Option Action
with-arith d [] = none
with-arith d (n ∷ s) = value_of (assign n) (arith-back d s)

unfoldable pub with-test : ℕ → Bytes → Option Action
with-test d [] = none
with-test d (n ∷ s) = value_of (branch n) (test_back d s)

unfoldable pub action-back : ℕ → ℕ → Bytes → Option Action
action-back d c s =
    if eqb c 0 then some halt
    else if eqb c 1 then some skip
    else if eqb c 2 then with-arith d s
    else if eqb c 3 then with-test d s
    else if eqb c 4 then two-names store s
    else if eqb c 5 then two-names load s
    else if eqb c 6 then one_name unlock s
    else one_name lock s

abbrev pub depth : Action → ℕ
depth halt = 0
depth skip = 0
depth (assign r a) = nesting a
depth (branch t c) = nesting_test c
depth (store r v) = 0
depth (load r v) = 0
depth (unlock l) = 0
depth (lock l) = 0

arith-tells-all : (d : ℕ) (a : Arith) → nesting a ≤ d → T (arith_fits a) → arith-back d (encode_arith a) ≡ back a []
arith-tells-all d a l h = ap (arith-back d) (sym (append-nil (encode_arith a))) ∙ arith-tells d a [] l h

test-tells-all : (d : ℕ) (c : Condition) → nesting_test c ≤ d → T (condition_fits c) → test_back d (encode_condition c) ≡ back c []
test-tells-all d c l h = ap (test_back d) (sym (append-nil (encode_condition c))) ∙ test-tells d c [] l h

pub action-tells : (d : ℕ) (x : Action) → depth x ≤ d → T (action_fits x) → action-back d (code_of x) (encode_operands x) ≡ some x
unfolding action-back code_of encode_operands with-arith with-test value_of one_name two-names action_fits
action-tells d halt l h = refl
action-tells d skip l h = refl
action-tells d (assign r a) l h = rw (arith-tells-all d a l (and_right (fits_byte r) (arith_fits a) h))
action-tells d (branch t c) l h = rw (test-tells-all d c l (and_right (fits_byte t) (condition_fits c) h))
action-tells d (store r v) l h = refl
action-tells d (load r v) l h = refl
action-tells d (unlock k) l h = refl
action-tells d (lock k) l h = refl
