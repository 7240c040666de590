-- Laws of choice by a test, of tests on all of several things, and of a property that every or some element of a list has.
use Rattle.std.specs.Prelude.{if◌then◌else◌}
use mathlib.Core.Bool.{Bool, true, false, not, ◌&&◌, ◌||◌}
use mathlib.Core.List.{List, [], ◌∷◌, ◌++◌}
use Prim.Native.Nat.{ℕ, zero, suc, ◌<◌}
use native.Mathlib.Nat.{not-suc-le-zero}
use native.Mathlib.Decide.{ℕ_discrete}
use native.Mathlib.Omega.{arith}
use mathlib.Core.Path.{◌≡◌, refl, subst, sym}
use lib.Dec.{T}
use lib.ListN.{length, get_or, set}
use Rattle.rules.specs.Base.{all_below, Each, nil, ◌&◌}

-- what holds of both choices, each under its test, holds of the choice
pub if-ind {κ} : {X : Type 0} (b : Bool) (x y : X) (P : X → Type κ) → (T b → P x) → (T (not b) → P y) → P (if b then x else y)
if-ind true x y P f g = f tt
if-ind false x y P f g = g tt

pub and_left : (a b : Bool) → T (a && b) → T a
and_left true b t = tt
and_left false b t = t

pub and_right : (a b : Bool) → T (a && b) → T b
and_right true b t = t
and_right false b t = absurd t

pub and_both : (a b : Bool) → T a → T b → T (a && b)
and_both true b h k = k
and_both false b h k = h

-- "not a, or b" as an implication
pub or_elim : (a b : Bool) → T (not a || b) → T a → T b
or_elim true b h t = h
or_elim false b h t = absurd t

pub or-intro : (a b : Bool) → (T a → T b) → T (not a || b)
or-intro true b f = f tt
or-intro false b f = tt

pub not-both : (b : Bool) → T (not b) → T b → ⊥
not-both true p q = p
not-both false p q = q

pub not-intro : (b : Bool) → (T b → ⊥) → T (not b)
not-intro true f = f tt
not-intro false f = tt

pub not-elim : (b : Bool) → (T (not b) → ⊥) → T b
not-elim true f = tt
not-elim false f = f tt

-- two tests that imply each other are the same
pub same_test : (a b : Bool) → (T a → T b) → (T b → T a) → a ≡ b
same_test true true f g = refl
same_test true false f g = absurd (f tt)
same_test false true f g = absurd (g tt)
same_test false false f g = refl

-- ---- every number below n

-- what holds at n and below n holds below suc n
pub below_suc : {P : ℕ → Type 0} (n : ℕ) → P n → ((u : ℕ) → u < n → P u) → (u : ℕ) → u < suc n → P u
below_suc {P} n p h u k = elim (ℕ_discrete u n) [ yes q ↦ subst P (sym q) p | no q ↦ h u (omega arith) ]

pub all-below-elim : (n : ℕ) (f : ℕ → Bool) → T (all_below n f) → (u : ℕ) → u < n → T (f u)
unfolding all_below
all-below-elim zero f h = λ u k. absurd (not-suc-le-zero k)
all-below-elim (suc n) f h =
    below_suc {P = λ u. T (f u)} n (and_right (all_below n f) (f n) h) (all-below-elim n f (and_left (all_below n f) (f n) h))

pub all-below-intro : (n : ℕ) (f : ℕ → Bool) → ((u : ℕ) → u < n → T (f u)) → T (all_below n f)
unfolding all_below
all-below-intro zero f h = tt
all-below-intro (suc n) f h = and_both (all_below n f) (f n) (all-below-intro n f (λ u k. h u (omega arith))) (h n (omega arith))

-- ---- every element of a list, and some element

pub data Some {A : Type 0} (P : A → Type 0) : List A → Type 0 where
  here : {x : A} {xs : List A} → P x → Some P (x ∷ xs)
  there : {x : A} {xs : List A} → Some P xs → Some P (x ∷ xs)

module _ {A : Type 0} {P : A → Type 0} where
  pub each_snoc : (xs : List A) (x : A) → Each P xs → P x → Each P (xs ++ x ∷ [])
  each_snoc [] x h p = p & nil
  each_snoc (y ∷ ys) x (q & h) p = q & each_snoc ys x h p

  pub each_both : (xs ys : List A) → Each P xs → Each P ys → Each P (xs ++ ys)
  each_both [] ys h k = k
  each_both (x ∷ xs) ys (p & ps) k = p & each_both xs ys ps k

  pub each_set : (xs : List A) (n : ℕ) (y : A) → Each P xs → P y → Each P (set xs n y)
  each_set [] n y nil p = nil
  each_set (x ∷ xs) zero y (q & qs) p = p & qs
  each_set (x ∷ xs) (suc n) y (q & qs) p = q & each_set xs n y qs p

  -- at any index, if the default has the property too
  pub each_at : (xs : List A) (d : A) → P d → Each P xs → (n : ℕ) → P (get_or xs n d)
  each_at [] d p nil n = p
  each_at (x ∷ xs) d p (q & qs) zero = q
  each_at (x ∷ xs) d p (q & qs) (suc n) = each_at xs d p qs n

  pub each_left : (xs ys : List A) → Each P (xs ++ ys) → Each P xs
  each_left [] ys h = nil
  each_left (x ∷ xs) ys (p & ps) = p & each_left xs ys ps

  pub each_right : (xs ys : List A) → Each P (xs ++ ys) → Each P ys
  each_right [] ys h = h
  each_right (x ∷ xs) ys (p & ps) = each_right xs ys ps

  pub some_left : {xs : List A} (ys : List A) → Some P xs → Some P (xs ++ ys)
  some_left ys (here p) = here p
  some_left ys (there s) = there (some_left ys s)

  pub some_right : (xs : List A) {ys : List A} → Some P ys → Some P (xs ++ ys)
  some_right [] s = s
  some_right (x ∷ xs) s = there (some_right xs s)

-- one of those that are there
pub each-get : {A : Type 0} (P : A → Type 0) (xs : List A) (k : ℕ) (d : A) → Each P xs → k < length xs → P (get_or xs k d)
each-get P [] k d h r = absurd (omega arith)
each-get P (x ∷ xs) zero d (p & h) r = p
each-get P (x ∷ xs) (suc k) d (p & h) r = each-get P xs k d h (omega arith)

pub each_map : {A : Type 0} {P Q : A → Type 0} {xs : List A} → ((x : A) → P x → Q x) → Each P xs → Each Q xs
each_map f nil = nil
each_map f (◌&◌ {x} p ps) = f x p & each_map f ps

-- an element that has both properties
pub both_of_lem : {A : Type 0} {P Q : A → Type 0} {xs : List A} → Each P xs → Some Q xs → (x : A) × (P x × Q x)
both_of_lem (◌&◌ {x} p ps) (here q) = (x, (p, q))
both_of_lem nil x3 = elim x3 [ ]
both_of_lem (p & ps) (there s) = both_of_lem ps s
