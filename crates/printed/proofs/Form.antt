-- Every printed text has the form.
use Rattle.std.specs.Prelude.{if◌then◌else◌}
use mathlib.Core.Path.{◌≡◌, refl}
use mathlib.Core.Bool.{Bool, true, false}
use mathlib.Core.Option.{none, some}
use mathlib.Core.List.{[], ◌∷◌, ◌++◌}
use Prim.Native.Nat.{ℕ, zero, suc, ◌+◌, ◌/◌, ◌%◌, ◌≤◌, ◌<◌}
use native.Mathlib.Nat.{mod-lt, div-lt_self}
use native.Mathlib.Decide.{dec_lt}
use native.Mathlib.Omega.{arith}
use borrow.Author.Tests.{lt-ltb, le-ltb, ne_eqb}
use lib.Dec.{ltb, eqb}
use lib.IntN.{ℤ, pos, negsuc}
use Rattle.rules.specs.Format.{Bytes}
use Rattle.rules.specs.Product.{bytes, decimal_in, decimal}
use Rattle.rules.specs.Interval.{Operator, plus, minus, times, divide}
use Rattle.rules.specs.Program.{Arith, constant, register, operation}
use Rattle.text.specs.Words.{is_digit}
use Rattle.printed.specs.Print.{print_value, in_parentheses, sign, binding, print_arith}
use Rattle.printed.specs.Form.{Before, a_space, an_opening, a_dot, a_minus, a_zero, a_digit, a_closing, another, ends_operand, in_number, behind_operand, passed, space_may, no_space, digit_may, may, gone_through}
use Rattle.printed.proofs.Numbers.{digit}

-- ---- one text behind another

pub record Goes (x : Before) (s : Bytes) (y : Before) : Type 0 where
  pub is : gone_through x s ≡ some y

both_go : (s t : Bytes) (x y z : Before) → gone_through x s ≡ some y → gone_through y t ≡ some z → gone_through x (s ++ t) ≡ some z
unfolding gone_through
both_go [] t x y z h k = let e : x ≡ y = cc in rw e k
both_go (b ∷ s) t x y z h k = by (may x b) (λ e. both_go s t (passed x b) y z e k) h
  where
    by : (q : Bool) → (gone_through (passed x b) s ≡ some y → gone_through (passed x b) (s ++ t) ≡ some z) → (if q then gone_through (passed x b) s else none) ≡ some y
        → (if q then gone_through (passed x b) (s ++ t) else none) ≡ some z
    by true f e = f e
    by false f e = let n : ◌≡◌ {A = ℕ} 0 1 = cc in absurd (omega arith)

pub goes_then : {s t : Bytes} {x y z : Before} → Goes x s y → Goes y t z → Goes x (s ++ t) z
goes_then {s} {t} {x} {y} {z} h k = record { is = both_go s t x y z h.is k.is }

-- a text, and the kind of what stands at its end
pub record Reaches (P : Before → Type 0) (x : Before) (s : Bytes) : Type 0 where
  pub last : Before
  pub kind : P last
  pub goes : Goes x s last

-- a text that leads from every state of a kind to one state
abbrev pub Leads : (Before → Type 0) → Bytes → Before → Type 0
Leads P s y = (x : Before) → P x → Goes x s y

pub then-leads : {P : Before → Type 0} {x y : Before} {s t : Bytes} → Reaches P x s → Leads P t y → Goes x (s ++ t) y
then-leads a f = goes_then a.goes (f a.last a.kind)

pub then-reaches : {Q : Before → Type 0} {x y : Before} {s t : Bytes} → Goes x s y → Reaches Q y t → Reaches Q x (s ++ t)
then-reaches h b = record { last = b.last; kind = b.kind; goes = goes_then h b.goes }

-- an operand may begin here
pub data Ready : Before → Type 0 where
  spaced : Ready (a_space false)
  opened : Ready an_opening
  dotted : Ready a_dot

-- one has ended; or a word has
pub data Ended : Before → Type 0 where
  by_zero : Ended a_zero
  by_digit : Ended a_digit
  by_closing : Ended a_closing

pub data Solid : Before → Type 0 where
  operand : {x : Before} → Ended x → Solid x
  worded : Solid another

-- by their cases
pub from-ready : {s : Bytes} {y : Before} → gone_through (a_space false) s ≡ some y → gone_through an_opening s ≡ some y → gone_through a_dot s ≡ some y → Leads Ready s y
from-ready a b c x spaced = record { is = a }
from-ready a b c x opened = record { is = b }
from-ready a b c x dotted = record { is = c }

pub from-ended : {s : Bytes} {y : Before} → gone_through a_zero s ≡ some y → gone_through a_digit s ≡ some y → gone_through a_closing s ≡ some y → Leads Ended s y
from-ended a b c x by_zero = record { is = a }
from-ended a b c x by_digit = record { is = b }
from-ended a b c x by_closing = record { is = c }

pub from-solid : {s : Bytes} {y : Before} → Leads Ended s y → gone_through another s ≡ some y → Leads Solid s y
from-solid f a x (operand e) = f x e
from-solid f a x worded = record { is = a }

-- ---- numbers

-- a digit other than 0, and one more digit
first-digit : (x : Before) (d : ℕ) (s : Bytes) → digit_may x ≡ true → 1 ≤ d → d < 10 → gone_through x ((48 + d) ∷ s) ≡ gone_through a_digit s
unfolding gone_through may passed
first-digit x d s h l m = rw (digit d m, h, ne_eqb (48 + d) 48 (λ e. absurd (omega arith)))

next-digit : (d : ℕ) (s : Bytes) → d < 10 → gone_through a_digit ((48 + d) ∷ s) ≡ gone_through a_digit s
unfolding gone_through may passed digit_may in_number
next-digit d s m = rw (digit d m) (by (eqb (48 + d) 48))
  where
    by : (q : Bool) → gone_through (if q then a_digit else a_digit) s ≡ gone_through a_digit s
    by true = refl
    by false = refl

positive-in : (k n : ℕ) (x : Before) → digit_may x ≡ true → 1 ≤ n → n ≤ k → gone_through x (decimal_in k n) ≡ some a_digit
unfolding decimal_in gone_through
positive-in zero n x h l m = absurd (omega arith)
positive-in (suc k) n x h l m = elim (dec_lt n 10) [
  | yes j ↦ rw (lt-ltb n 10 j) (first-digit x n [] h l j)
  | no j ↦
      let g : 10 ≤ n = omega arith in
      let r : n % 10 < 10 = mod-lt n (omega arith) in
      let less : n / 10 < n = div-lt_self (omega arith) (omega arith) in
      rw (le-ltb n 10 g)
      (both_go (decimal_in k (n / 10)) ((48 + n % 10) ∷ []) x a_digit a_digit (positive-in k (n / 10) x h (omega arith) (omega arith)) (next-digit (n % 10) [] r))
]

positive-goes : (n : ℕ) (x : Before) → digit_may x ≡ true → Goes x (decimal (suc n)) a_digit
unfolding decimal
positive-goes n x h = record { is = positive-in (suc n) (suc n) x h (omega arith) (omega arith) }

-- where no digit stands before
pub number-goes : (n : ℕ) (x : Before) → digit_may x ≡ true → in_number x ≡ false → Reaches Ended x (decimal n)
unfolding decimal decimal_in gone_through may passed is_digit
number-goes zero x h k = record { last = a_zero; kind = by_zero; goes = record { is = rw (h, k) } }
number-goes (suc n) x h k = record { last = a_digit; kind = by_digit; goes = positive-goes n x h }

pub ready-number : (n : ℕ) {x : Before} → Ready x → Reaches Ended x (decimal n)
unfolding digit_may in_number
ready-number n spaced = number-goes n (a_space false) refl refl
ready-number n opened = number-goes n an_opening refl refl
ready-number n dotted = number-goes n a_dot refl refl

-- a constant's minus, and the number behind it
minus-goes : (n : ℕ) {x : Before} → Ready x → Goes x (45 ∷ decimal (suc n)) a_digit
unfolding gone_through may passed is_digit behind_operand digit_may
minus-goes n spaced = record { is = (positive-goes n (a_minus false) refl).is }
minus-goes n opened = record { is = (positive-goes n (a_minus false) refl).is }
minus-goes n dotted = record { is = (positive-goes n (a_minus false) refl).is }

pub value-goes : (z : ℤ) {x : Before} → Ready x → Reaches Ended x (print_value z)
unfolding print_value
value-goes (pos n) r = ready-number n r
value-goes (negsuc n) r = record { last = a_digit; kind = by_digit; goes = minus-goes n r }

-- ---- expressions

-- two operands and what stands between them
pub between : {P Q : Before → Type 0} {x y : Before} {s w t : Bytes} → Reaches P x s → Leads P w y → Reaches Q y t → Reaches Q x (s ++ (w ++ t))
between a f b = record { last = b.last; kind = b.kind; goes = goes_then a.goes (goes_then (f a.last a.kind) b.goes) }

-- ` + `, and the others, lead from an operand's end to where the next one may begin
sign-leads : (o : Operator) → Leads Ended (sign o) (a_space false)
unfolding gone_through may passed is_digit ends_operand behind_operand space_may
sign-leads plus = from-ended refl refl refl
sign-leads minus = from-ended refl refl refl
sign-leads times = from-ended refl refl refl
sign-leads divide = from-ended refl refl refl

-- `)` may stand behind each, and `(`, `!` or a letter where an operand may begin
pub closing-leads : Leads Solid (41 ∷ []) a_closing
unfolding gone_through may passed is_digit no_space
closing-leads = from-solid (from-ended refl refl refl) refl

opening-leads : Leads Ready (40 ∷ []) an_opening
unfolding gone_through may passed is_digit
opening-leads = from-ready refl refl refl

register-leads : Leads Ready (bytes "r") another
unfolding gone_through may passed is_digit
register-leads = from-ready refl refl refl

pub group-goes : {P : Before → Type 0} (q : Bool) (s : Bytes) (x : Before) → Ready x → ((y : Before) → Ready y → Reaches P y s) → Leads P (41 ∷ []) a_closing → P a_closing
    → Reaches P x (in_parentheses q s)
unfolding in_parentheses
group-goes true s x r f g p = record { last = a_closing; kind = p; goes = goes_then (opening-leads x r) (then-leads (f an_opening opened) g) }
group-goes false s x r f g p = f x r

pub arith-goes : (p : ℕ) (a : Arith) (x : Before) → Ready x → Reaches Ended x (print_arith p a)
unfolding print_arith digit_may in_number
arith-goes p (constant z) x r = value-goes z r
arith-goes p (register n) x r = then-reaches (register-leads x r) (number-goes n another refl refl)
arith-goes p (operation o a b) x r =
    group-goes (ltb (binding o) p) _ x r
    (λ y h. between (arith-goes (binding o) a y h) (sign-leads o) (arith-goes (suc (binding o)) b (a_space false) spaced))
    (λ y e. closing-leads y (operand e)) by_closing
