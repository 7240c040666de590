-- Where every value is known, an if has one way: its yes state is empty exactly where the condition does not hold.
use mathlib.Core.Path.{◌≡◌, refl, sym, ap, ◌∙◌}
use mathlib.Core.Bool.{Bool, true, false, not, ◌&&◌}
use mathlib.Core.Option.{Option, none, some}
use mathlib.Core.List.{List, [], ◌∷◌, map}
use native.Mathlib.Omega.{arith}
use lib.Dec.{T, leb→le}
use lib.IntN.{ℤ, pos, negsuc}
use lib.Signed.{le_z, lt_z, ◌≤ℤ◌, ≤ℤ_refl, le_z_yes, lt_z_yes, clash_ℤ}
use Rattle.rules.specs.Refusal.{Result, value, fault, on_value, on_both}
use Rattle.rules.specs.Interval.{Interval, interval, eq_z, min_z, max_z, meet}
use Rattle.rules.specs.Program.{Arith, Condition, always, never, negation, conjunction, equal, less}
use Rattle.rules.specs.Expression.{Regs, all_parts, equal_yes, equal_no, less_yes, less_no, join_both, then_narrow, compared, narrow_yes, narrow_no}
use Rattle.rules.specs.Run.{AllIn, no_values, one_value, value_of, truth_of}
use Rattle.rules.specs.Faults.{single, single_of}
use Rattle.rules.proofs.Base.{if-ind, and_both, not-both}
use Rattle.rules.proofs.Order.{≤ℤ-trans, min-left, min-right, max-left, max-right}
use Rattle.rules.proofs.Expression.{Narrower, no_regs, one_reg, in-ordered, IsValue}
use Rattle.rules.proofs.Faults.{evaluate-single}
use Rattle.rules.proofs.Narrowing.{Narrower?, yes-narrower}
use Rattle.rules.proofs.NarrowingSound.{Kept, Splits, narrowing-sound}

-- ---- registers of one value each

single-in : (zs : List ℤ) → AllIn zs (map single zs)
single-in [] = no_values
single-in (z ∷ zs) = one_value (record { low = ≤ℤ_refl z; high = ≤ℤ_refl z }) (single-in zs)

both_ways : (a b : ℤ) → a ≤ℤ b → b ≤ℤ a → a ≡ b
both_ways (pos a) (pos b) h k = let l = leb→le a b h.le in let m = leb→le b a k.le in let e : a ≡ b = omega arith in ap pos e
both_ways (pos a) (negsuc b) h k = absurd h.le
both_ways (negsuc a) (pos b) h k = absurd k.le
both_ways (negsuc a) (negsuc b) h k = let l = leb→le b a h.le in let m = leb→le a b k.le in let e : a ≡ b = omega arith in ap negsuc e

-- nothing narrower is left of them but they themselves
same-single : (zs : List ℤ) {js : Regs} → Narrower js (map single zs) → js ≡ map single zs
same-single [] no_regs = refl
same-single (z ∷ zs) (one_reg {i} h k) =
    let low : i.low ≡ z = both_ways i.low z (≤ℤ-trans h.ordered h.inside.high) h.inside.low in
    let high : i.high ≡ z = both_ways i.high z h.inside.high (≤ℤ-trans h.inside.low h.ordered) in
    let rest = same-single zs k in
    λ t. interval (low t) (high t) ∷ rest t

-- ---- of the two ways, the one that is not taken is empty

abbrev Empties : Result Bool → Option Regs → Option Regs → Type 0
Empties (fault r) y n = Unit {0}
Empties (value true) y n = n ≡ none
Empties (value false) y n = y ≡ none

empties-if : (b : Bool) (y n : Option Regs) → (T b → n ≡ none) → (T (not b) → y ≡ none) → Empties (value b) y n
empties-if true y n f g = f tt
empties-if false y n f g = g tt

empties-not : (v : Result Bool) (y n : Option Regs) → Empties v y n → Empties (on_value (λ b. value (not b)) v) n y
unfolding on_value
empties-not (fault r) y n h = tt
empties-not (value true) y n h = h
empties-not (value false) y n h = h

-- the right side of an "and" is worked out on what the left side keeps: nothing, or all of it
then-empty : (zs : List ℤ) (left : Option Regs) (right : Regs → Option Regs) → Narrower? left (map single zs) → right (map single zs) ≡ none → then_narrow left right ≡ none
unfolding then_narrow
then-empty zs none right h e = refl
then-empty zs (some js) right h e = ap right (same-single zs h) ∙ e

empties-and : (zs : List ℤ) (v w : Result Bool) (y n n' : Option Regs) (right : Regs → Option Regs) → Narrower? y (map single zs) → Empties v y n
    → Empties w (right (map single zs)) n' → Empties (on_both (λ a b. value (a && b)) v w) (then_narrow y right) (join_both n n')
unfolding on_both then_narrow join_both
empties-and zs (fault r) w y n n' right l h k = tt
empties-and zs (value a) (fault r) y n n' right l h k = tt
empties-and zs (value true) (value true) y n n' right l h k = ap (λ (o : Option Regs). join_both o n') h ∙ k
empties-and zs (value true) (value false) y n n' right l h k = then-empty zs y right l k
empties-and zs (value false) (value b) y n n' right l h k = ap (λ (o : Option Regs). then_narrow o right) h

module _ (a b : Arith) (rs : Regs) (x y : ℤ) where
  equal-empties : Empties (value (eq_z x y)) (equal_yes a b rs (single x) (single y)) (equal_no rs (single x) (single y))
  unfolding equal_yes equal_no eq_z meet
  equal-empties = empties-if (eq_z x y) (equal_yes a b rs (single x) (single y)) (equal_no rs (single x) (single y))
      (λ t. if-ind (eq_z x x && (eq_z y y && eq_z x y)) none (some rs) (λ o. o ≡ none) (λ _. refl)
      (λ u. absurd (not-both (eq_z x x && (eq_z y y && eq_z x y)) u (and_both (eq_z x x) (eq_z y y && eq_z x y) (itself x) (and_both (eq_z y y) (eq_z x y) (itself y) t)))))
      (λ t. if-ind (le_z (max_z x y) (min_z x y)) _ none (λ o. o ≡ none)
      (λ u. absurd (not-both (eq_z x y) t (and_both (le_z x y) (le_z y x)
      (≤ℤ-trans (max-left x y) (≤ℤ-trans (le_z_yes u) (min-right x y))).le (≤ℤ-trans (max-right x y) (≤ℤ-trans (le_z_yes u) (min-left x y))).le)))
      (λ _. refl))
    where
      itself : (z : ℤ) → T (eq_z z z)
      itself z = and_both (le_z z z) (le_z z z) (≤ℤ_refl z).le (≤ℤ_refl z).le

  less-empties : Empties (value (lt_z x y)) (less_yes a b rs (single x) (single y)) (less_no a b rs (single x) (single y))
  unfolding less_yes less_no
  less-empties = empties-if (lt_z x y) (less_yes a b rs (single x) (single y)) (less_no a b rs (single x) (single y))
      (λ t. if-ind (le_z y x) _ none (λ o. o ≡ none) (λ u. clash_ℤ (lt_z_yes {a = x} {b = y} t) (le_z_yes u)) (λ _. refl))
      (λ t. if-ind (lt_z x y) _ none (λ o. o ≡ none) (λ u. absurd (not-both (lt_z x y) t u)) (λ _. refl))

-- two sides with their values
compared-empties : (test : ℤ → ℤ → Bool) (f g : Interval → Interval → Option Regs) → ((x y : ℤ) → Empties (value (test x y)) (f (single x) (single y)) (g (single x) (single y)))
    → (v w : Result ℤ) → Empties (on_both (λ x y. value (test x y)) v w) (compared f (single_of v) (single_of w)) (compared g (single_of v) (single_of w))
unfolding on_both compared
compared-empties test f g h (fault r) w = tt
compared-empties test f g h (value x) (fault r) = tt
compared-empties test f g h (value x) (value y) = h x y

empties : (c : Condition) (zs : List ℤ) → Empties (truth_of c zs) (narrow_yes c (map single zs)) (narrow_no c (map single zs))
unfolding truth_of narrow_yes
empties always zs = refl
empties never zs = refl
empties (negation c) zs = empties-not (truth_of c zs) (narrow_yes c (map single zs)) (narrow_no c (map single zs)) (empties c zs)
empties (conjunction c d) zs =
    let rs = map single zs in
    empties-and zs (truth_of c zs) (truth_of d zs) (narrow_yes c rs) (narrow_no c rs) (narrow_no d rs) (λ ss. narrow_yes d ss)
    (yes-narrower c rs (in-ordered (single-in zs))) (empties c zs) (empties d zs)
empties (equal a b) zs =
    let rs = map single zs in
    rw (evaluate-single a zs, evaluate-single b zs) (compared-empties eq_z (equal_yes a b rs) (equal_no rs) (equal-empties a b rs) (value_of a zs) (value_of b zs))
empties (less a b) zs =
    let rs = map single zs in
    rw (evaluate-single a zs, evaluate-single b zs) (compared-empties lt_z (less_yes a b rs) (less_no a b rs) (less-empties a b rs) (value_of a zs) (value_of b zs))

-- ---- so the yes state tells the truth

-- whether a way is left
abbrev pub is_open : Option Regs → Bool
is_open none = false
is_open (some rs) = true

opened : (zs : List ℤ) (y : Option Regs) → Kept zs y → is_open y ≡ true
opened zs none h = absurd h
opened zs (some rs) h = refl

by-truth : (zs : List ℤ) (v : Result Bool) (y n : Option Regs) → Splits v y n zs → Empties v y n → v ≡ value (is_open y)
by-truth zs (fault r) y n h k = absurd h
by-truth zs (value true) y n h k = ap value (sym (opened zs y h))
by-truth zs (value false) y n h k = ap (λ (o : Option Regs). value (is_open o)) (sym k)

pub truth-by-yes : (c : Condition) (zs : List ℤ) → IsValue (all_parts c (map single zs)) → truth_of c zs ≡ value (is_open (narrow_yes c (map single zs)))
truth-by-yes c zs h =
    let rs = map single zs in
    by-truth zs (truth_of c zs) (narrow_yes c rs) (narrow_no c rs) (narrowing-sound c rs zs (single-in zs) h) (empties c zs)
