-- Expressions of a text (02, ticket 2): "Multiply and divide bind before plus and minus, all from left to right; `!` takes the
-- whole comparison or next `!` after it; `&&` binds last, from the left." Parentheses may stand round arithmetic and round
-- conditions, 32 deep: d is how many more may open. Where a condition is due, what an opening parenthesis holds is known when
-- it is read: either kind is a `Thing`, and arithmetic goes on to a comparison.
use Rattle.std.specs.Prelude.{◌||◌, List, [], ◌∷◌, ℕ, zero, suc, eqb, pos, length, if◌then◌else◌}
use Rattle.rules.specs.Format.{Bytes}
use Rattle.rules.specs.Interval.{plus, minus, times, divide}
use Rattle.rules.specs.Program.{Arith, constant, register, operation, Condition, always, never, negation, conjunction, equal, less}
use Rattle.text.specs.Words.{bytes, Read, stop, took, then_read, map_read, spaces, digits, number, negative, Word, word, following, or_none, spell, keyword, symbol}

-- ---- what may join two operands

-- a sign that joins, and the bytes behind it; none; or one that is begun and cannot go on
pub data Link (M : Type 0) : Type 0 where
  joined : M → Bytes → Link M
  none_here : Link M
  broken : Bytes → Link M

unfoldable pub linked : {M : Type 0} → Read M → Link M
linked (stop r) = broken r
linked (took m r) = joined m r

unfoldable pub link : {M : Type 0} → List (Word M) → Bytes → Link M
link ws [] = none_here
link ws (b ∷ s) = or_none (following b ws) none_here (linked (spell ws (b ∷ s)))

unfoldable pub on_link : {M B : Type 0} → Link M → Read B → (M → Bytes → Read B) → Read B
on_link (joined m r) e f = f m r
on_link none_here e f = e
on_link (broken r) e f = stop r

-- the signs are those of source document 001; two equal signs stand for "equal"
unfoldable pub products : List (Word (Arith → Arith → Arith))
products = word (bytes "*") (operation times) ∷ word (bytes "/") (operation divide) ∷ []

unfoldable pub sums : List (Word (Arith → Arith → Arith))
sums = word (bytes "+") (operation plus) ∷ word (bytes "-") (operation minus) ∷ []

unfoldable pub comparisons : List (Word (Arith → Arith → Condition))
comparisons = word (bytes "==") equal ∷ word (bytes "<") less ∷ []

unfoldable pub conjunctions : List (Word (Condition → Condition → Condition))
conjunctions = word (bytes "&&") conjunction ∷ []

-- ---- operands "from left to right": every further one takes all before it as its left side. The number only bounds the turns.

unfoldable pub chain : {A : Type 0} → List (Word (A → A → A)) → (Bytes → Read A) → ℕ → A → Bytes → Read A
chain ws operand zero a s = took a s
chain ws operand (suc n) a s =
    on_link (link ws (spaces s)) (took a s) (λ f r. then_read (operand r) (λ b t. chain ws operand n (f a b) t))

unfoldable pub from_left : {A : Type 0} → List (Word (A → A → A)) → (Bytes → Read A) → Bytes → Read A
from_left ws operand s = then_read (operand s) (λ a r. chain ws operand (length r) a r)

-- ---- arithmetic

unfoldable pub product : (Bytes → Read Arith) → Bytes → Read Arith
product factor s = from_left products factor s

unfoldable pub sum : (Bytes → Read Arith) → Bytes → Read Arith
sum factor s = from_left sums (product factor) s

-- "A minus where an operand is due belongs to the constant after it", with spaces between them or none. 40 is `(`, 45 `-`, 114 `r`;
-- `inside` reads what `(` opens.
unfoldable pub operand : (Bytes → Read Arith) → Bytes → Read Arith
operand inside [] = stop []
operand inside (b ∷ s) =
    let group = inside s in
    if eqb b 40 then group
    else if eqb b 45 then map_read (λ n. constant (negative n)) (number s)
    else if eqb b 114 then map_read register (digits s)
    else map_read (λ n. constant (pos n)) (digits (b ∷ s))

-- what an opening parenthesis began, closed
unfoldable pub closed : {A : Type 0} → Read A → Read A
closed g = then_read g (λ a r. then_read (symbol (bytes ")") r) (λ _ t. took a t))

-- "a parenthesis 33 deep included": the stop is at that parenthesis
unfoldable pub too_deep : {A : Type 0} → Bytes → Read A
too_deep s = stop (40 ∷ s)

unfoldable pub factor : ℕ → Bytes → Read Arith
factor zero s = operand (λ r. too_deep r) (spaces s)
factor (suc d) s = operand (λ r. closed (sum (λ t. factor d t) r)) (spaces s)

-- ---- conditions

pub data Thing : Type 0 where
  arithmetic : Arith → Thing
  logical : Condition → Thing

unfoldable pub on_thing : {B : Type 0} → Thing → (Arith → B) → (Condition → B) → B
on_thing (arithmetic a) f g = f a
on_thing (logical c) f g = g c

-- where a condition is due: arithmetic alone lacks its comparison, and stops at what stands behind it
unfoldable pub is_condition : Thing → Bytes → Read Condition
is_condition x r = on_thing x (λ a. stop (spaces r)) (λ c. took c r)

unfoldable pub truths : List (Word Thing)
truths = word (bytes "true") (logical always) ∷ word (bytes "false") (logical never) ∷ []

-- the first operand: `(`, a word that begins with `t` (116) or `f` (102), or a number or register
unfoldable pub first : (Bytes → Read Thing) → (Bytes → Read Arith) → Bytes → Read Thing
first inside factor [] = stop []
first inside factor (b ∷ s) =
    let group = inside s in
    let a = map_read arithmetic (factor (b ∷ s)) in
    if eqb b 40 then group
    else if eqb b 116 || eqb b 102 then keyword truths (b ∷ s)
    else a

-- arithmetic, and behind it a comparison with more arithmetic, or none
unfoldable pub comparison : (Bytes → Read Arith) → Arith → Bytes → Read Thing
comparison factor a s =
    on_link (link comparisons (spaces s)) (took (arithmetic a) s) (λ f r. map_read (λ b. logical (f a b)) (sum factor r))

-- the arithmetic that a first operand begins
unfoldable pub onward : (Bytes → Read Arith) → Arith → Bytes → Read Thing
onward factor a s =
    then_read (chain products factor (length s) a s) (λ b r.
    then_read (chain sums (product factor) (length r) b r) (λ c t.
    comparison factor c t))

-- the first operand and, where it is arithmetic, all that it begins
unfoldable pub start : (Bytes → Read Thing) → (Bytes → Read Arith) → Bytes → Read Thing
start inside factor s = then_read (first inside factor s) (λ x r. on_thing x (λ a. onward factor a r) (λ c. took (logical c) r))

unfoldable pub negated : Thing → Bytes → Read Thing
negated x r = map_read (λ c. logical (negation c)) (is_condition x r)

-- one operand of `&&`, with the `!`s (33) and spaces (32) before it: `begin` reads it from its first other byte
unfoldable pub atom : (Bytes → Read Thing) → Bytes → Read Thing
atom begin [] = stop []
atom begin (b ∷ s) =
    let skipped = atom begin s in
    let not = then_read (atom begin s) negated in
    let here = begin (b ∷ s) in
    if eqb b 32 then skipped
    else if eqb b 33 then not
    else here

unfoldable pub atomic : (Bytes → Read Thing) → Bytes → Read Condition
atomic begin s = then_read (atom begin s) is_condition

-- arithmetic alone, or operands of `&&`
unfoldable pub thing : (Bytes → Read Thing) → Bytes → Read Thing
thing begin s = then_read (atom begin s) (λ x r.
    on_thing x (λ a. took (arithmetic a) r) (λ c. map_read logical (chain conjunctions (atomic begin) (length r) c r)))

-- the same where d parentheses may open
unfoldable pub either : ℕ → Bytes → Read Thing
either zero s = thing (start (λ r. too_deep r) (factor zero)) s
either (suc d) s = thing (start (λ r. closed (either d r)) (factor (suc d))) s

-- ---- the whole: "a parenthesis 33 deep" cannot be read

abbrev pub most_parentheses : ℕ
most_parentheses = 32

unfoldable pub read_sum : Bytes → Read Arith
read_sum s = sum (factor most_parentheses) s

unfoldable pub read_test : Bytes → Read Condition
read_test s = then_read (either most_parentheses s) is_condition
