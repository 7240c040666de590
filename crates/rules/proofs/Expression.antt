-- Evaluation over intervals: a reading contains the value, and narrower registers keep their readings.
use mathlib.Core.List.{List, [], ◌∷◌}
use Prim.Native.Nat.{ℕ, zero, suc}
use lib.IntN.{ℤ, pos}
use lib.Signed.{≤ℤ_refl}
use lib.ListN.{get_or}
use Rattle.rules.specs.Base.{Each, nil, ◌&◌}
use Rattle.rules.specs.Refusal.{Result, value, fault, on_both}
use Rattle.rules.specs.Constants.{half32}
use Rattle.rules.specs.Interval.{Interval, interval, ◌∈◌, Operator, calculate, combine}
use Rattle.rules.specs.Program.{Arith, constant, register, operation, Condition, always, never, negation, conjunction, equal, less}
use Rattle.rules.specs.Expression.{Regs, zero_interval, evaluate, all_parts}
use Rattle.rules.specs.Run.{AllIn, no_values, one_value, value_of}
use Rattle.rules.proofs.Order.{≤ℤ-trans}
use Rattle.rules.proofs.Interval.{Agree, combine-agrees, Ordered, ⊑_refl, ⊑_trans, Part, Below, combine-below}

-- ---- a reading contains the value

point : (z : ℤ) → z ∈ interval z z
point z = record { low = ≤ℤ_refl z; high = ≤ℤ_refl z }

pub get_in : {zs : List ℤ} {is : Regs} → AllIn zs is → (r : ℕ) → get_or zs r (pos 0) ∈ get_or is r zero_interval
get_in no_values r = point (pos 0)
get_in (one_value h t) zero = h
get_in (one_value h t) (suc r) = get_in t r

agree-both : (n : ℕ) (o : Operator) (x y : Result Interval) (v w : Result ℤ) → Agree x v → Agree y w
    → Agree (on_both (combine n o) x y) (on_both (calculate n o) v w)
unfolding on_both
agree-both n o (fault r) y v w h k = tt
agree-both n o (value i) (fault r) v w h k = tt
agree-both n o (value i) (value j) (fault r) w h k = absurd h
agree-both n o (value i) (value j) (value x) (fault r) h k = absurd k
agree-both n o (value i) (value j) (value x) (value y) h k = combine-agrees n o i j x y h k

-- an expression that has a reading has a value, on it
pub evaluate-agrees : (a : Arith) {zs : List ℤ} {is : Regs} → AllIn zs is → Agree (evaluate a is) (value_of a zs)
unfolding evaluate value_of
evaluate-agrees (constant z) h = point z
evaluate-agrees (register r) h = get_in h r
evaluate-agrees (operation o a b) {zs} {is} h =
    agree-both half32 o (evaluate a is) (evaluate b is) (value_of a zs) (value_of b zs) (evaluate-agrees a h) (evaluate-agrees b h)

-- ---- narrower registers, none of them empty

pub data Narrower : Regs → Regs → Type 0 where
  no_regs : Narrower [] []
  one_reg : {i j : Interval} {rs ss : Regs} → Part i j → Narrower rs ss → Narrower (i ∷ rs) (j ∷ ss)

pub narrower-refl : {rs : Regs} → Each Ordered rs → Narrower rs rs
narrower-refl nil = no_regs
narrower-refl (◌&◌ {x = i} p ps) = one_reg (record { inside = ⊑_refl i; ordered = p }) (narrower-refl ps)

pub narrower-trans : {rs ss ts : Regs} → Narrower rs ss → Narrower ss ts → Narrower rs ts
narrower-trans no_regs l = l
narrower-trans (one_reg {i} {j} h t) (one_reg {j = k} h' t') =
    one_reg (record { inside = ⊑_trans i j k h.inside h'.inside; ordered = h.ordered }) (narrower-trans t t')

pub narrower-ordered : {rs ss : Regs} → Narrower rs ss → Each Ordered rs
narrower-ordered no_regs = nil
narrower-ordered (one_reg h t) = h.ordered & narrower-ordered t

-- registers that hold values are not empty
pub in-ordered : {zs : List ℤ} {is : Regs} → AllIn zs is → Each Ordered is
in-ordered no_values = nil
in-ordered (one_value h t) = ≤ℤ-trans h.low h.high & in-ordered t

-- ---- a narrower reading is a reading

below_both : (n : ℕ) (o : Operator) (x y v w : Result Interval) → Below x v → Below y w → Below (on_both (combine n o) x y) (on_both (combine n o) v w)
unfolding on_both
below_both n o (fault r) y v w h k = tt
below_both n o (value i) (fault r) v w h k = tt
below_both n o (value i) (value j) (fault r) w h k = absurd h
below_both n o (value i) (value j) (value i') (fault r) h k = absurd k
below_both n o (value i) (value j) (value i') (value j') h k = combine-below n o i j i' j' h k

point-part : (z : ℤ) → Part (interval z z) (interval z z)
point-part z = record { inside = ⊑_refl (interval z z); ordered = ≤ℤ_refl z }

get-below : {js is : Regs} → Narrower js is → (r : ℕ) → Part (get_or js r zero_interval) (get_or is r zero_interval)
get-below no_regs r = point-part (pos 0)
get-below (one_reg h t) zero = h
get-below (one_reg h t) (suc r) = get-below t r

pub evaluate-below : (a : Arith) {js is : Regs} → Narrower js is → Below (evaluate a is) (evaluate a js)
unfolding evaluate
evaluate-below (constant z) h = point-part z
evaluate-below (register r) h = get-below h r
evaluate-below (operation o a b) {js} {is} h =
    below_both half32 o (evaluate a is) (evaluate b is) (evaluate a js) (evaluate b js) (evaluate-below a h) (evaluate-below b h)

-- ---- every part of a condition

abbrev pub IsValue : {A : Type 0} → Result A → Type 0
IsValue (value a) = Unit {0}
IsValue (fault r) = ⊥

-- two results both of which are needed
pub both_values : {A B : Type 0} (x : Result A) (y : Result B) → IsValue (on_both (λ _ _. value (tt {0})) x y) → IsValue x × IsValue y
unfolding on_both
both_values (fault r) y h = absurd h
both_values (value a) (fault r) h = absurd h
both_values (value a) (value b) h = (tt, tt)

pub values-both : {A B : Type 0} (x : Result A) (y : Result B) → IsValue x → IsValue y → IsValue (on_both (λ _ _. value (tt {0})) x y)
unfolding on_both
values-both (fault r) y h k = h
values-both (value a) (fault r) h k = k
values-both (value a) (value b) h k = tt

value-below : (x y : Result Interval) → Below x y → IsValue x → IsValue y
value-below (fault r) y h t = absurd t
value-below (value k) (fault r) h t = h
value-below (value k) (value m) h t = tt

sides-below : (a b : Arith) {js is : Regs} → Narrower js is → IsValue (on_both (λ _ _. value (tt {0})) (evaluate a is) (evaluate b is))
    → IsValue (on_both (λ _ _. value (tt {0})) (evaluate a js) (evaluate b js))
sides-below a b {js} {is} h t =
    let p = both_values (evaluate a is) (evaluate b is) t in
    values-both (evaluate a js) (evaluate b js)
    (value-below (evaluate a is) (evaluate a js) (evaluate-below a h) p.0) (value-below (evaluate b is) (evaluate b js) (evaluate-below b h) p.1)

-- no refusal on narrower registers where there is none before
pub parts_below : (c : Condition) {js is : Regs} → Narrower js is → IsValue (all_parts c is) → IsValue (all_parts c js)
unfolding all_parts
parts_below always h t = tt
parts_below never h t = tt
parts_below (negation c) h t = parts_below c h t
parts_below (conjunction c d) {js} {is} h t =
    let p = both_values (all_parts c is) (all_parts d is) t in
    values-both (all_parts c js) (all_parts d js) (parts_below c h p.0) (parts_below d h p.1)
parts_below (equal a b) h t = sides-below a b h t
parts_below (less a b) h t = sides-below a b h t
