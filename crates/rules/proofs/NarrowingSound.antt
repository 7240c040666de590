-- Narrowing by yes (no) keeps every value for which the condition is true (false).
use mathlib.Core.Path.{◌≡◌, refl, sym, subst}
use mathlib.Core.Bool.{Bool, true, false, not, ◌&&◌}
use mathlib.Core.Option.{Option, none, some}
use mathlib.Core.List.{List}
use Prim.Native.Nat.{ℕ, zero, suc, zero-le}
use native.Mathlib.Nat.{le_of_suc-le-suc}
use native.Mathlib.Omega.{arith}
use lib.Dec.{T, T_not, le→leb, ltb→lt}
use lib.IntN.{ℤ, pos, negsuc, pred_ℤ, suc_ℤ}
use lib.Signed.{le_z, lt_z, ◌≤ℤ◌, ◌<ℤ◌, le_z_yes, lt_z_yes, lt_z_no, clash_ℤ, <ℤ-≤ℤ_trans}
use lib.ListN.{get_or, set}
use Rattle.rules.specs.Base.{◌&◌}
use Rattle.rules.specs.Refusal.{Result, value, fault, on_value, on_both}
use Rattle.rules.specs.Interval.{Interval, ◌∈◌, eq_z, meet, join}
use Rattle.rules.specs.Program.{Arith, constant, register, operation, Condition, always, never, negation, conjunction, equal, less}
use Rattle.rules.specs.Expression.{Regs, zero_interval, evaluate, all_parts, narrow_yes, narrow_no, join_regs, join_both, then_narrow, compared, keep, on_register, at_most, at_least, equal_yes, equal_no, less_yes, less_no}
use Rattle.rules.specs.Run.{AllIn, no_values, one_value, value_of, truth_of}
use Rattle.rules.proofs.Base.{if-ind, and_left, and_right, and_both, not-elim}
use Rattle.rules.proofs.Order.{≤ℤ-trans, min-left, min-right, max-left, max-right, min-above, max-below}
use Rattle.rules.proofs.Interval.{Agree}
use Rattle.rules.proofs.Narrowing.{Narrower?, yes-narrower, no-narrower}
use Rattle.rules.proofs.Expression.{get_in, evaluate-agrees, Narrower, no_regs, one_reg, in-ordered, IsValue, both_values, parts_below}

abbrev pub Kept : List ℤ → Option Regs → Type 0
Kept zs none = ⊥
Kept zs (some js) = AllIn zs js

-- a truth value, with the yes result and the no result
abbrev pub Splits : Result Bool → Option Regs → Option Regs → List ℤ → Type 0
Splits (fault r) y n zs = ⊥
Splits (value true) y n zs = Kept zs y
Splits (value false) y n zs = Kept zs n

splits-if : (b : Bool) (y n : Option Regs) (zs : List ℤ) → (T b → Kept zs y) → (T (not b) → Kept zs n) → Splits (value b) y n zs
splits-if true y n zs f g = f tt
splits-if false y n zs f g = g tt

≤-<-trans : (a b c : ℤ) → a ≤ℤ b → b <ℤ c → a <ℤ c
≤-<-trans a b c h k = lt_z_yes (not-elim (lt_z a c) (λ t. clash_ℤ k (≤ℤ-trans (lt_z_no t) h)))

below-pred : (a b : ℤ) → T (lt_z a b) → T (le_z a (pred_ℤ b))
below-pred (pos a) (pos zero) h = absurd (omega (arith, ltb→lt a zero h))
below-pred (pos a) (pos (suc b)) h = le→leb a b (le_of_suc-le-suc (ltb→lt a (suc b) h))
below-pred (pos a) (negsuc b) h = absurd h
below-pred (negsuc a) (pos zero) h = le→leb zero a zero-le
below-pred (negsuc a) (pos (suc b)) h = tt
below-pred (negsuc a) (negsuc b) h = h

suc-below : (a b : ℤ) → T (lt_z a b) → T (le_z (suc_ℤ a) b)
suc-below (pos a) (pos b) h = h
suc-below (pos a) (negsuc b) h = absurd h
suc-below (negsuc zero) (pos b) h = le→leb zero b zero-le
suc-below (negsuc (suc a)) (pos b) h = tt
suc-below (negsuc zero) (negsuc b) h = absurd (omega (arith, ltb→lt b zero h))
suc-below (negsuc (suc a)) (negsuc b) h = le→leb b a (le_of_suc-le-suc (ltb→lt b (suc a) h))

set-in : {zs : List ℤ} {js : Regs} → AllIn zs js → (r : ℕ) (i : Interval) → get_or zs r (pos 0) ∈ i → AllIn zs (set js r i)
set-in no_values r i h = no_values
set-in (one_value k t) zero i h = one_value h t
set-in (one_value k t) (suc r) i h = one_value k (set-in t r i h)

keep-kept : (zs : List ℤ) (js : Regs) → AllIn zs js → (r : ℕ) (i : Interval) → get_or zs r (pos 0) ∈ i → Kept zs (keep js r i)
unfolding keep
keep-kept zs js k r i h =
    if-ind (le_z i.low i.high) (some (set js r i)) none (Kept zs)
    (λ t. set-in k r i h) (λ t. T_not (le_z i.low i.high) t (≤ℤ-trans h.low h.high).le)

register-kept : (zs : List ℤ) (f : Interval → Interval) (a : Arith) (x : ℤ) → value_of a zs ≡ value x → ((i : Interval) → x ∈ i → x ∈ f i)
    → (o : Option Regs) → Kept zs o → Kept zs (on_register f a o)
unfolding on_register value_of
register-kept zs f (constant z) x e m o h = h
register-kept zs f (register r) x e m none h = h
register-kept zs f (register r) x e m (some js) h =
    let p : get_or zs r (pos 0) ≡ x = cc in
    let i = get_or js r zero_interval in
    keep-kept zs js h r (f i) (subst (λ (z : ℤ). z ∈ f i) (sym p) (m i (subst (λ (z : ℤ). z ∈ i) p (get_in h r))))
register-kept zs f (operation o a b) x e m js h = h

in_meet : {x : ℤ} {i j : Interval} → x ∈ i → x ∈ j → x ∈ meet i j
unfolding meet
in_meet h k = record { low = max-below h.low k.low; high = min-above h.high k.high }

in-at_most : {x z : ℤ} {i : Interval} → x ≤ℤ z → x ∈ i → x ∈ at_most z i
unfolding at_most
in-at_most l h = record { low = h.low; high = min-above h.high l }

in-at_least : {x z : ℤ} {i : Interval} → z ≤ℤ x → x ∈ i → x ∈ at_least z i
unfolding at_least
in-at_least l h = record { low = max-below h.low l; high = h.high }

eq-le : (a b : ℤ) → T (eq_z a b) → (a ≤ℤ b) × (b ≤ℤ a)
unfolding eq_z
eq-le a b t = (le_z_yes (and_left (le_z a b) (le_z b a) t), le_z_yes (and_right (le_z a b) (le_z b a) t))

-- the registers is hold the values zs; the two sides have the values x and y, on the intervals i and j
module _ (a b : Arith) (is : Regs) (zs : List ℤ) (h : AllIn zs is) (x y : ℤ) (p : value_of a zs ≡ value x) (q : value_of b zs ≡ value y)
    (i j : Interval) (hx : x ∈ i) (hy : y ∈ j) where
  -- two cuts that keep the sides' values
  cuts-kept : (f g : Interval → Interval) → ((k : Interval) → x ∈ k → x ∈ f k) → ((k : Interval) → y ∈ k → y ∈ g k)
      → Kept zs (on_register g b (on_register f a (some is)))
  cuts-kept f g m n = register-kept zs g b y q n (on_register f a (some is)) (register-kept zs f a x p m (some is) h)

  equal-yes : T (eq_z x y) → Kept zs (equal_yes a b is i j)
  unfolding equal_yes
  equal-yes t =
      let l = eq-le x y t in
      let m = meet i j in
      let xm : x ∈ m = in_meet hx (record { low = ≤ℤ-trans hy.low l.1; high = ≤ℤ-trans l.0 hy.high }) in
      let ym : y ∈ m = in_meet (record { low = ≤ℤ-trans hx.low l.0; high = ≤ℤ-trans l.1 hx.high }) hy in
      if-ind (le_z m.low m.high) (on_register (λ k. meet k m) b (on_register (λ k. meet k m) a (some is))) none (Kept zs)
      (λ u. cuts-kept (λ k. meet k m) (λ k. meet k m) (λ k xk. in_meet xk xm) (λ k yk. in_meet yk ym))
      (λ u. T_not (le_z m.low m.high) u (≤ℤ-trans xm.low xm.high).le)

  -- both sides are the same single value
  one-value-equal : T (eq_z i.low i.high && (eq_z j.low j.high && eq_z i.low j.low)) → T (eq_z x y)
  unfolding eq_z
  one-value-equal u =
      let v = and_right (eq_z i.low i.high) (eq_z j.low j.high && eq_z i.low j.low) u in
      let ii = eq-le i.low i.high (and_left (eq_z i.low i.high) (eq_z j.low j.high && eq_z i.low j.low) u) in
      let jj = eq-le j.low j.high (and_left (eq_z j.low j.high) (eq_z i.low j.low) v) in
      let ij = eq-le i.low j.low (and_right (eq_z j.low j.high) (eq_z i.low j.low) v) in
      and_both (le_z x y) (le_z y x)
      (≤ℤ-trans hx.high (≤ℤ-trans ii.1 (≤ℤ-trans ij.0 hy.low))).le (≤ℤ-trans hy.high (≤ℤ-trans jj.1 (≤ℤ-trans ij.1 hx.low))).le

  equal-no : T (not (eq_z x y)) → Kept zs (equal_no is i j)
  unfolding equal_no
  equal-no t =
      if-ind (eq_z i.low i.high && (eq_z j.low j.high && eq_z i.low j.low)) none (some is) (Kept zs)
      (λ u. T_not (eq_z x y) t (one-value-equal u)) (λ u. h)

  less-yes : T (lt_z x y) → Kept zs (less_yes a b is i j)
  unfolding less_yes
  less-yes t =
      let l : x <ℤ y = lt_z_yes t in
      let below : x ≤ℤ pred_ℤ j.high = le_z_yes (below-pred x j.high (<ℤ-≤ℤ_trans l hy.high).lt) in
      let above : suc_ℤ i.low ≤ℤ y = le_z_yes (suc-below i.low y (≤-<-trans i.low x y hx.low l).lt) in
      if-ind (lt_z i.low j.high) (on_register (at_least (suc_ℤ i.low)) b (on_register (at_most (pred_ℤ j.high)) a (some is))) none (Kept zs)
      (λ u. cuts-kept (at_most (pred_ℤ j.high)) (at_least (suc_ℤ i.low)) (λ k xk. in-at_most below xk) (λ k yk. in-at_least above yk))
      (λ u. T_not (lt_z i.low j.high) u (<ℤ-≤ℤ_trans (≤-<-trans i.low x y hx.low l) hy.high).lt)

  less-no : T (not (lt_z x y)) → Kept zs (less_no a b is i j)
  unfolding less_no
  less-no t =
      let l : y ≤ℤ x = lt_z_no t in
      if-ind (le_z j.low i.high) (on_register (at_most i.high) b (on_register (at_least j.low) a (some is))) none (Kept zs)
      (λ u. cuts-kept (at_least j.low) (at_most i.high) (λ k xk. in-at_least (≤ℤ-trans hy.low l) xk) (λ k yk. in-at_most (≤ℤ-trans l hx.high) yk))
      (λ u. T_not (le_z j.low i.high) u (≤ℤ-trans hy.low (≤ℤ-trans l hx.high)).le)

  equal-splits : Splits (value (eq_z x y)) (equal_yes a b is i j) (equal_no is i j) zs
  equal-splits = splits-if (eq_z x y) (equal_yes a b is i j) (equal_no is i j) zs equal-yes equal-no

  less-splits : Splits (value (lt_z x y)) (less_yes a b is i j) (less_no a b is i j) zs
  less-splits = splits-if (lt_z x y) (less_yes a b is i j) (less_no a b is i j) zs less-yes less-no

-- two readings and two values, handed to a rule for both
compared-splits : (zs : List ℤ) (t : ℤ → ℤ → Bool) (f g : Interval → Interval → Option Regs) (v w : Result ℤ) (x y : Result Interval)
    → ((a b : ℤ) → v ≡ value a → w ≡ value b → (i j : Interval) → a ∈ i → b ∈ j → Splits (value (t a b)) (f i j) (g i j) zs)
    → Agree x v → Agree y w → IsValue (on_both (λ _ _. value (tt {0})) x y) → Splits (on_both (λ a b. value (t a b)) v w) (compared f x y) (compared g x y) zs
unfolding on_both compared
compared-splits zs t f g v w (fault r) y k h l u = absurd u
compared-splits zs t f g v w (value i) (fault r) k h l u = absurd u
compared-splits zs t f g (fault r) w (value i) (value j) k h l u = absurd h
compared-splits zs t f g (value a) (fault r) (value i) (value j) k h l u = absurd l
compared-splits zs t f g (value a) (value b) (value i) (value j) k h l u = k a b refl refl i j h l

splits-negation : (o : Result Bool) (y n : Option Regs) (zs : List ℤ) → Splits o y n zs → Splits (on_value (λ b. value (not b)) o) n y zs
unfolding on_value
splits-negation (fault r) y n zs h = h
splits-negation (value true) y n zs h = h
splits-negation (value false) y n zs h = h

join-left : {zs : List ℤ} {js ks is : Regs} → Narrower js is → Narrower ks is → AllIn zs js → AllIn zs (join_regs js ks)
unfolding join_regs join
join-left no_regs k h = h
join-left (one_reg {i} a s) (one_reg {i = j} b t) (one_value h r) =
    one_value (record { low = ≤ℤ-trans (min-left i.low j.low) h.low; high = ≤ℤ-trans h.high (max-left i.high j.high) }) (join-left s t r)

join-right : {zs : List ℤ} {js ks is : Regs} → Narrower js is → Narrower ks is → AllIn zs ks → AllIn zs (join_regs js ks)
unfolding join_regs join
join-right no_regs no_regs h = h
join-right (one_reg {i} a s) (one_reg {i = j} b t) (one_value h r) =
    one_value (record { low = ≤ℤ-trans (min-right i.low j.low) h.low; high = ≤ℤ-trans h.high (max-right i.high j.high) }) (join-right s t r)

join_both-left : (zs : List ℤ) (is : Regs) (p q : Option Regs) → Narrower? p is → Narrower? q is → Kept zs p → Kept zs (join_both p q)
unfolding join_both
join_both-left zs is none q i j h = absurd h
join_both-left zs is (some js) none i j h = h
join_both-left zs is (some js) (some ks) i j h = join-left i j h

join_both-right : (zs : List ℤ) (is : Regs) (p q : Option Regs) → Narrower? p is → Narrower? q is → Kept zs q → Kept zs (join_both p q)
unfolding join_both
join_both-right zs is none q i j h = h
join_both-right zs is (some js) none i j h = absurd h
join_both-right zs is (some js) (some ks) i j h = join-right i j h

then-kept : (zs : List ℤ) (is : Regs) (o : Option Regs) (f : Regs → Option Regs) → Narrower? o is → Kept zs o
    → ((js : Regs) → Narrower js is → AllIn zs js → Kept zs (f js)) → Kept zs (then_narrow o f)
unfolding then_narrow
then-kept zs is none f i h k = h
then-kept zs is (some js) f i h k = k js i h

-- "and": the two truth values, the left's results, the right's results before narrowing, and r, the right narrowed after the left
splits-and : (p q : Result Bool) (zs : List ℤ) (is : Regs) (cy cn dy dn r : Option Regs) → Narrower? cn is → Narrower? dn is
    → Splits p cy cn zs → Splits q dy dn zs → (Kept zs cy → q ≡ value true → Kept zs r) → Splits (on_both (λ a b. value (a && b)) p q) r (join_both cn dn) zs
unfolding on_both
splits-and (fault e) q zs is cy cn dy dn r i j h k f = h
splits-and (value true) (fault e) zs is cy cn dy dn r i j h k f = k
splits-and (value false) (fault e) zs is cy cn dy dn r i j h k f = k
splits-and (value true) (value true) zs is cy cn dy dn r i j h k f = f h refl
splits-and (value true) (value false) zs is cy cn dy dn r i j h k f = join_both-right zs is cn dn i j k
splits-and (value false) (value true) zs is cy cn dy dn r i j h k f = join_both-left zs is cn dn i j h
splits-and (value false) (value false) zs is cy cn dy dn r i j h k f = join_both-left zs is cn dn i j h

when_true : (q : Result Bool) (y n : Option Regs) (zs : List ℤ) → q ≡ value true → Splits q y n zs → Kept zs y
when_true q y n zs e h = subst (λ (o : Result Bool). Splits o y n zs) e h

pub narrowing-sound : (c : Condition) (is : Regs) (zs : List ℤ) → AllIn zs is → IsValue (all_parts c is) → Splits (truth_of c zs) (narrow_yes c is) (narrow_no c is) zs
unfolding all_parts truth_of narrow_yes
narrowing-sound always is zs h t = h
narrowing-sound never is zs h t = h
narrowing-sound (negation c) is zs h t = splits-negation (truth_of c zs) (narrow_yes c is) (narrow_no c is) zs (narrowing-sound c is zs h t)
narrowing-sound (conjunction c d) is zs h t =
    let p = both_values (all_parts c is) (all_parts d is) t in
    let o = in-ordered h in
    splits-and (truth_of c zs) (truth_of d zs) zs is (narrow_yes c is) (narrow_no c is) (narrow_yes d is) (narrow_no d is) (then_narrow (narrow_yes c is) (λ js. narrow_yes d js))
    (no-narrower c is o) (no-narrower d is o) (narrowing-sound c is zs h p.0) (narrowing-sound d is zs h p.1)
    (λ k e. then-kept zs is (narrow_yes c is) (λ js. narrow_yes d js) (yes-narrower c is o) k
    (λ js i hj. when_true (truth_of d zs) (narrow_yes d js) (narrow_no d js) zs e (narrowing-sound d js zs hj (parts_below d i p.1))))
narrowing-sound (equal a b) is zs h t =
    compared-splits zs eq_z (equal_yes a b is) (equal_no is) (value_of a zs) (value_of b zs) (evaluate a is) (evaluate b is)
    (λ x y p q i j hx hy. equal-splits a b is zs h x y p q i j hx hy) (evaluate-agrees a h) (evaluate-agrees b h) t
narrowing-sound (less a b) is zs h t =
    compared-splits zs lt_z (less_yes a b is) (less_no a b is) (value_of a zs) (value_of b zs) (evaluate a is) (evaluate b is)
    (λ x y p q i j hx hy. less-splits a b is zs h x y p q i j hx hy) (evaluate-agrees a h) (evaluate-agrees b h) t
