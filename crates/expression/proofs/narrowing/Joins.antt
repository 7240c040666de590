-- The join of registers, and what an array has that `from_fn` made. Assumes nothing.
use Prim.Native.Nat.{ℕ, zero, suc, ◌+◌, ◌<◌}
use mathlib.Core.Path.{◌≡◌, refl, sym, ap, ap₂, subst, ◌∙◌}
use mathlib.Core.List.{List, [], ◌∷◌, map}
use native.Mathlib.Omega.{arith}
use denote.Param.Members.{Mut, Called}
use lib.ListN.{length, get_or, take}
use Rattle.std.specs.Array.{IsFromFnResultFrom, IsFromFnResult}
use Rattle.rules.specs.Interval.{join}
use Rattle.rules.specs.Expression.{Regs, join_regs}
use Rattle.interval.specs.declared.Span.{Span}
use Rattle.interval.specs.Shape.{interval_of, zero_span}
use Rattle.expression.specs.Evaluation.{regs_of}

-- ---- the join of registers

join-take : (n : ℕ) (xs ys : Regs) → join_regs (take n xs) (take n ys) ≡ take n (join_regs xs ys)
unfolding join_regs
join-take zero xs ys = refl
join-take (suc n) [] ys = refl
join-take (suc n) (x ∷ xs) [] = refl
join-take (suc n) (x ∷ xs) (y ∷ ys) = ap (λ (l : Regs). join x y ∷ l) (join-take n xs ys)

-- place by place
abbrev pub JoinedAt : List Span → List Span → ℕ → Span → Type 0
JoinedAt a b i y = interval_of y ≡ join (interval_of (get_or a i zero_span)) (interval_of (get_or b i zero_span))

join-map : (a b l : List Span) → length a ≡ length l → length b ≡ length l → ((i : ℕ) → i < length l → JoinedAt a b i (get_or l i zero_span))
    → map interval_of l ≡ join_regs (map interval_of a) (map interval_of b)
unfolding join_regs
join-map [] b [] ha hb at = refl
join-map (x ∷ a) b [] ha hb at = absurd (omega (arith, ha))
join-map [] b (z ∷ l) ha hb at = absurd (omega (arith, ha))
join-map (x ∷ a) [] (z ∷ l) ha hb at = absurd (omega (arith, hb))
join-map (x ∷ a) (y ∷ b) (z ∷ l) ha hb at =
    ap₂ ◌∷◌ (at 0 (omega arith)) (join-map a b l (omega (arith, ha)) (omega (arith, hb)) (λ i h. at (suc i) (omega (arith, h))))

pub joined : (a b l : List Span) (m : ℕ) → length a ≡ m → length b ≡ m → length l ≡ m → ((i : ℕ) → i < m → (d : Span) → JoinedAt a b i (get_or l i d))
    → (n : ℕ) → regs_of n l ≡ join_regs (regs_of n a) (regs_of n b)
unfolding regs_of
joined a b l m ha hb hl at n =
    ap (take n) (join-map a b l (ha ∙ sym hl) (hb ∙ sym hl) (λ i h. at i (omega (arith, h, hl)) zero_span)) ∙ sym (join-take n (map interval_of a) (map interval_of b))

-- the elements of an array that `from_fn` made, where a call gives an element with R and changes nothing
module _ {F B : Type 0} {g : Mut F (ℕ × Unit {0}) B} {f : F} (R : ℕ → B → Type 0) (step : (i : ℕ) (y : B) (q : F) → Called g f (i, tt) y q → (q ≡ f) × R i y) where
  each-from : (ys : List B) (n i j k : ℕ) (p : F) → p ≡ f → IsFromFnResultFrom g p ys i n → k < n → j ≡ i + k → (d : B) → R j (get_or ys j d)
  each-from ys zero i j k p same e h z d = absurd (omega (arith, h))
  each-from ys (suc n) i j zero p same (q, y, at, called, rest) h z d =
      let made = step i y q (subst (λ (x : F). Called g x (i, tt) y q) same called) in
      let here : j ≡ i = omega (arith, z) in
      subst (λ (m : ℕ). R m (get_or ys m d)) (sym here) (subst (R i) (sym (at.1 d)) made.1)
  each-from ys (suc n) i j (suc k) p same (q, y, at, called, rest) h z d =
      let made = step i y q (subst (λ (x : F). Called g x (i, tt) y q) same called) in
      each-from ys n (i + 1) j k q made.0 rest (omega (arith, h)) (omega (arith, z)) d

  pub each-made : {ys : List B} {n : ℕ} → IsFromFnResult g f ys n → (k : ℕ) → k < n → (d : B) → R k (get_or ys k d)
  each-made {ys} {n} e k h d = each-from ys n 0 k k f (λ _. f) e.each h (omega arith) d
