-- Interval arithmetic, for values of any size and any width: the ends decide (a value of an operator on two intervals lies
-- between the least and the greatest over the ends).
use mathlib.Core.Path.{◌≡◌, sym, ap, ◌∙◌, subst}
use mathlib.Core.Bool.{Bool, true, false, not, cond}
use Prim.Native.Nat.{ℕ, zero, suc, ◌+◌, ◌-◌, ◌*◌, ◌≤◌}
use native.Mathlib.Omega.{arith}
use lib.Dec.{T, ltb, leb→le, le→leb, ltb→lt, nltb→le}
use lib.IntN.{ℤ, pos, negsuc, neg_ℤ, ◌+ℤ◌, ◌-ℤ◌, ◌*ℤ◌, +ℤ_assoc, +ℤ_comm, +ℤ_idr, +ℤ-suc_ℤ, suc_ℤ-*ℤ, zero-*ℤ, *ℤ_comm, *ℤ-negsuc}
use lib.Signed.{le_z}
use Rattle.rules.specs.Interval.{Interval, ◌∈◌, hull, Operator, plus, minus, times, divide, operate, may_divide_by_zero}
use Rattle.rules.proofs.Order.{neg-anti}
use Rattle.rules.proofs.Hull.{Way, Any, any, hull-holds, flip-way, rise, fall}
use Rattle.rules.proofs.Quotient.{quotient-holds}

-- ---- ℤ: the order as a difference

cond_ind : (c : Bool) (x y : ℤ) (P : ℤ → Type 0) → (T c → P x) → (T (not c) → P y) → P (cond c x y)
cond_ind true x y P f g = f tt
cond_ind false x y P f g = g tt

le-add : (a : ℤ) (n : ℕ) → T (le_z a (a +ℤ pos n))
le-add (pos a) n = le→leb a (a + n) (omega arith)
le-add (negsuc a) n =
    cond_ind (ltb n (suc a)) (negsuc (suc a - suc n)) (pos (n - suc a)) (λ z. T (le_z (negsuc a) z))
    (λ t. le→leb (suc a - suc n) a (omega arith)) (λ t. tt)

le-diff : (a b : ℤ) → T (le_z a b) → (n : ℕ) × (b ≡ a +ℤ pos n)
le-diff (pos a) (pos b) h = let l : a ≤ b = leb→le a b h in (b - a, ap pos (omega arith))
le-diff (pos a) (negsuc b) h = absurd h
le-diff (negsuc a) (pos b) h = (
  b + suc a,
  cond_ind (ltb (b + suc a) (suc a)) (negsuc (suc a - suc (b + suc a))) (pos (b + suc a - suc a)) (λ z. pos b ≡ z)
      (λ t. absurd (omega (arith, ltb→lt (b + suc a) (suc a) t))) (λ t. ap pos (omega arith)),
)
le-diff (negsuc a) (negsuc b) h =
    let l : b ≤ a = leb→le b a h in (
      a - b,
      cond_ind (ltb (a - b) (suc a)) (negsuc (suc a - suc (a - b))) (pos (a - b - suc a)) (λ z. negsuc b ≡ z)
          (λ t. ap negsuc (omega arith)) (λ t. absurd (omega (arith, nltb→le (a - b) (suc a) t))),
    )

plus-up : (c a b : ℤ) → T (le_z a b) → T (le_z (a +ℤ c) (b +ℤ c))
plus-up c a b h =
    let d = le-diff a b h in
    let n : ℕ = d.0 in
    subst (λ (z : ℤ). T (le_z (a +ℤ c) z))
    (+ℤ_assoc a c (pos n) ∙ ap (λ (z : ℤ). a +ℤ z) (+ℤ_comm c (pos n)) ∙ sym (+ℤ_assoc a (pos n) c) ∙ ap (λ (z : ℤ). z +ℤ c) (sym d.1))
    (le-add (a +ℤ c) n)

distrib-pos : (a k : ℤ) (n : ℕ) → (a +ℤ pos n) *ℤ k ≡ a *ℤ k +ℤ pos n *ℤ k
distrib-pos a k zero = ap (λ (z : ℤ). z *ℤ k) (+ℤ_idr a) ∙ sym (ap (λ (z : ℤ). a *ℤ k +ℤ z) (zero-*ℤ k) ∙ +ℤ_idr (a *ℤ k))
distrib-pos a k (suc n) =
    ap (λ (z : ℤ). z *ℤ k) (+ℤ-suc_ℤ a (pos n)) ∙ suc_ℤ-*ℤ (a +ℤ pos n) k ∙ ap (λ (z : ℤ). z +ℤ k) (distrib-pos a k n)
    ∙ +ℤ_assoc (a *ℤ k) (pos n *ℤ k) k ∙ ap (λ (z : ℤ). a *ℤ k +ℤ z) (sym (suc_ℤ-*ℤ (pos n) k))

times-up : (m : ℕ) (a b : ℤ) → T (le_z a b) → T (le_z (a *ℤ pos m) (b *ℤ pos m))
times-up m a b h =
    let d = le-diff a b h in
    subst (λ (z : ℤ). T (le_z (a *ℤ pos m) z)) (sym (distrib-pos a (pos m) d.0) ∙ ap (λ (z : ℤ). z *ℤ pos m) (sym d.1))
    (le-add (a *ℤ pos m) (d.0 * m))

times_down : (m : ℕ) (a b : ℤ) → T (le_z a b) → T (le_z (b *ℤ negsuc m) (a *ℤ negsuc m))
times_down m a b h = rw (*ℤ-negsuc a m, *ℤ-negsuc b m) (neg-anti (a *ℤ pos (suc m)) (b *ℤ pos (suc m)) (times-up (suc m) a b h))

-- ---- the four operators

times_way : (P : ℤ → Type 0) (y : ℤ) → Way P (λ x. x *ℤ y)
times_way P (pos m) = rise P _ (times-up m)
times_way P (negsuc m) = fall P _ (times_down m)

plus-holds : (i j : Interval) (x y : ℤ) → x ∈ i → y ∈ j → x +ℤ y ∈ hull ◌+ℤ◌ i j
plus-holds i j = hull-holds ◌+ℤ◌ Any i j (λ y h. any y)
    (λ y _. rise Any (λ x. x +ℤ y) (plus-up y))
    (λ x. flip-way Any (λ y. y +ℤ x) (λ y. x +ℤ y) (λ y. +ℤ_comm y x) (rise Any (λ y. y +ℤ x) (plus-up x)))

minus-holds : (i j : Interval) (x y : ℤ) → x ∈ i → y ∈ j → x -ℤ y ∈ hull ◌-ℤ◌ i j
minus-holds i j = hull-holds ◌-ℤ◌ Any i j (λ y h. any y)
    (λ y _. rise Any (λ x. x -ℤ y) (plus-up (neg_ℤ y)))
    (λ x. flip-way Any (λ y. neg_ℤ y +ℤ x) (λ y. x -ℤ y) (λ y. +ℤ_comm (neg_ℤ y) x)
    (fall Any (λ y. neg_ℤ y +ℤ x) (λ a b h. plus-up x (neg_ℤ b) (neg_ℤ a) (neg-anti a b h))))

times-holds : (i j : Interval) (x y : ℤ) → x ∈ i → y ∈ j → x *ℤ y ∈ hull ◌*ℤ◌ i j
times-holds i j = hull-holds ◌*ℤ◌ Any i j (λ y h. any y)
    (λ y _. times_way Any y)
    (λ x. flip-way Any (λ y. y *ℤ x) (λ y. x *ℤ y) (λ y. *ℤ_comm y x) (times_way Any x))

-- every operator, where the divisor holds no zero
pub operation-holds : (o : Operator) (i j : Interval) → T (not (may_divide_by_zero o j)) → (x y : ℤ) → x ∈ i → y ∈ j → operate o x y ∈ hull (operate o) i j
unfolding operate may_divide_by_zero
operation-holds plus i j t = plus-holds i j
operation-holds minus i j t = minus-holds i j
operation-holds times i j t = times-holds i j
operation-holds divide i j t = quotient-holds i j t
