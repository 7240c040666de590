-- A property of what is got and of the place behind it, carried through the readers' connectives.
use Rattle.std.specs.Prelude.{if◌then◌else◌}
use mathlib.Core.Path.{◌≡◌, refl, sym, ap, subst}
use mathlib.Core.Bool.{Bool, true, false}
use mathlib.Core.List.{List, [], ◌∷◌, ◌++◌}
use Prim.Native.Nat.{ℕ, zero, suc, ◌+◌, ◌≤◌}
use native.Mathlib.Omega.{arith}
use lib.Dec.{T, eqb, eqb→eq, eqb_refl}
use lib.ListN.{length, length-append}
use Rattle.rules.specs.Refusal as R
use Rattle.rules.specs.Refusal.{short, out_of_turn, bad_length, off_range, bad_expression, too_many}
use Rattle.rules.specs.Format.{Bytes, Got, bad, got, need, and_then, map_got, exactly, Here, wrong, more, done, on_here, read_many, has_body, sized, due}
use Rattle.rules.proofs.Format.{If}

abbrev pub IfAt : {A : Type 0} → (A → ℕ → Type 0) → Got A → Type 0
IfAt P (bad r p) = Unit {0}
IfAt P (got a q) = P a q

pub need-at : {A : Type 0} (P : A → ℕ → Type 0) (b : Bool) (r : R.Refusal) (at : ℕ) (g : Got A) → (T b → IfAt P g) → IfAt P (need b r at g)
unfolding need
need-at P true r at g h = h tt
need-at P false r at g h = tt

pub then_at : {A B : Type 0} (Q : A → ℕ → Type 0) (P : B → ℕ → Type 0) (g : Got A) (f : A → ℕ → Got B) → IfAt Q g
    → ((a : A) (q : ℕ) → Q a q → IfAt P (f a q)) → IfAt P (and_then g f)
unfolding and_then
then_at Q P (bad r p) f h k = tt
then_at Q P (got a q) f h k = k a q h

pub map_at : {A B : Type 0} (Q : A → ℕ → Type 0) (P : B → ℕ → Type 0) (f : A → B) (g : Got A) → IfAt Q g → ((a : A) (q : ℕ) → Q a q → P (f a) q) → IfAt P (map_got f g)
unfolding map_got
map_at Q P f (bad r p) h k = tt
map_at Q P f (got a q) h k = k a q h

pub exactly-at : {A : Type 0} (at e : ℕ) (g : Got A) → IfAt (λ a q. (q ≡ e) × (g ≡ got a q)) (exactly at e g)
unfolding exactly
exactly-at at e (bad r p) = tt
exactly-at at e (got a q) = need-at (λ b u. (u ≡ e) × (got a q ≡ got b u)) (eqb q e) bad_expression at (got a q) (λ t. (eqb→eq q e t, refl))

pub sized-at : {A : Type 0} (P : A → ℕ → Type 0) (s : Bytes) (at n : ℕ) (ok : Bool) (a : A) → (T (has_body s at) → T ok → P a (at + 3 + n)) → IfAt P (sized s at n ok a)
unfolding sized
sized-at P s at n ok a h = need-at P _ short at _ (λ b. need-at P _ bad_length at _ (λ _. need-at P ok off_range at _ (λ t. h b t)))

pub due-at : {A : Type 0} (P : A → ℕ → Type 0) (tag : ℕ) (s : Bytes) (at : ℕ) (g : Got A) → IfAt P g → IfAt P (due tag s at g)
unfolding due
due-at P tag s at g h = need-at P _ short at _ (λ _. need-at P _ out_of_turn at g (λ _. h))

-- ---- between the two kinds of property

pub any_at : {A : Type 0} (P : A → Type 0) (g : Got A) → If P g → IfAt (λ a q. P a) g
any_at P (bad r p) h = tt
any_at P (got a q) h = h

pub plain : {A : Type 0} (P : A → Type 0) (g : Got A) → IfAt (λ a q. P a) g → If P g
plain P (bad r p) h = tt
plain P (got a q) h = h

pub both_at : {A : Type 0} (P Q : A → ℕ → Type 0) (g : Got A) → IfAt P g → IfAt Q g → IfAt (λ a q. P a q × Q a q) g
both_at P Q (bad r p) h k = tt
both_at P Q (got a q) h k = (h, k)

pub weaker-at : {A : Type 0} (P Q : A → ℕ → Type 0) (g : Got A) → IfAt P g → ((a : A) (q : ℕ) → P a q → Q a q) → IfAt Q g
weaker-at P Q (bad r p) h f = tt
weaker-at P Q (got a q) h f = f a q h

-- with the reading itself at hand
pub with-reading : {A : Type 0} (P : A → ℕ → Type 0) (g : Got A) → ((a : A) (q : ℕ) → g ≡ got a q → P a q) → IfAt P g
with-reading P (bad r p) f = tt
with-reading P (got a q) f = f a q refl

pub when-got : {A : Type 0} (P : A → ℕ → Type 0) (g : Got A) → IfAt P g → (a : A) (q : ℕ) → g ≡ got a q → P a q
when-got P g h a q e = subst (IfAt P) e h

-- ---- several of a kind

pub here-at : {A : Type 0} (P : A → ℕ → Type 0) (at : ℕ) (h : Here) (k e : Got A) → (h ≡ more → IfAt P k) → (h ≡ done → IfAt P e) → IfAt P (on_here at h k e)
unfolding on_here
here-at P at (wrong r) k e a b = tt
here-at P at more k e a b = a refl
here-at P at done k e a b = b refl

-- what a loop keeps, and that it ended where no more stand
pub many-at : {A : Type 0} (I : List A → ℕ → Type 0) (here : ℕ → ℕ → Here) (one : ℕ → Got A) → ((xs : List A) (p : ℕ) → I xs p → IfAt (λ a q. I (xs ++ a ∷ []) q) (one p))
    → (k : ℕ) (xs : List A) (at : ℕ) → I xs at → IfAt (λ ys q. I ys q × (here (length ys) q ≡ done)) (read_many here one k xs at)
unfolding read_many
many-at {A} I here one f zero xs at h = here-at (λ (ys : List A) (q : ℕ). I ys q × (here (length ys) q ≡ done)) at (here (length xs) at) (bad too_many at) (got xs at) (λ _. tt) (λ d. (h, d))
many-at {A} I here one f (suc k) xs at h =
    here-at (λ (ys : List A) (q : ℕ). I ys q × (here (length ys) q ≡ done)) at (here (length xs) at) (and_then (one at) (λ x q. read_many here one k (xs ++ x ∷ []) q)) (got xs at)
    (λ _. then_at (λ a q. I (xs ++ a ∷ []) q) (λ (ys : List A) (q : ℕ). I ys q × (here (length ys) q ≡ done)) (one at) (λ x q. read_many here one k (xs ++ x ∷ []) q)
    (f xs at h) (λ x q p. many-at I here one f k (xs ++ x ∷ []) q p))
    (λ d. (h, d))

-- no more than there may be
pub many-few : {A : Type 0} (here : ℕ → ℕ → Here) (one : ℕ → Got A) (k : ℕ) (xs : List A) (at : ℕ) → IfAt (λ (ys : List A) q. length ys ≤ length xs + k) (read_many here one k xs at)
unfolding read_many
many-few {A} here one zero xs at = here-at (λ (ys : List A) (q : ℕ). length ys ≤ length xs + 0) at (here (length xs) at) (bad too_many at) (got xs at) (λ _. tt) (λ _. omega arith)
many-few {A} here one (suc k) xs at =
    here-at (λ (ys : List A) (q : ℕ). length ys ≤ length xs + suc k) at (here (length xs) at) (and_then (one at) (λ x q. read_many here one k (xs ++ x ∷ []) q)) (got xs at)
    (λ _. then_at (λ (a : A) (q : ℕ). Unit {0}) (λ (ys : List A) (q : ℕ). length ys ≤ length xs + suc k) (one at) (λ x q. read_many here one k (xs ++ x ∷ []) q)
    (with-reading (λ (a : A) (q : ℕ). Unit {0}) (one at) (λ a q e. tt))
    (λ x q _. subst (λ (n : ℕ). IfAt (λ (ys : List A) (u : ℕ). length ys ≤ n) (read_many here one k (xs ++ x ∷ []) q)) (simp length-append (omega arith)) (many-few here one k (xs ++ x ∷ []) q)))
    (λ _. omega arith)

-- ---- the readers' connectives, where they succeed, and where they refuse

pub need-yes : {A : Type 0} (b : Bool) (r : R.Refusal) (at : ℕ) (g : Got A) → T b → need b r at g ≡ g
unfolding need
need-yes true r at g t = refl
need-yes false r at g t = absurd t

pub need-no : {A : Type 0} (b : Bool) (r : R.Refusal) (at : ℕ) (g : Got A) → b ≡ false → need b r at g ≡ bad r at
unfolding need
need-no b r at g e = ap (λ (t : Bool). need t r at g) e

pub then-got : {A B : Type 0} {g : Got A} {a : A} {q : ℕ} (f : A → ℕ → Got B) → g ≡ got a q → and_then g f ≡ f a q
unfolding and_then
then-got f e = ap (λ g. and_then g f) e

pub then-bad : {A B : Type 0} {g : Got A} {r : R.Refusal} {p : ℕ} (f : A → ℕ → Got B) → g ≡ bad r p → and_then g f ≡ bad r p
unfolding and_then
then-bad f e = ap (λ g. and_then g f) e

-- ---- tests that are passed

pub eq→eqb : (m n : ℕ) → m ≡ n → T (eqb m n)
eq→eqb m n e = subst (λ (k : ℕ). T (eqb m k)) e (eqb_refl m)

pub is_true : (b : Bool) → b ≡ true → T b
is_true b e = subst T (sym e) tt

pub if_yes : {A : Type 0} (b : Bool) (x y : A) → T b → (if b then x else y) ≡ x
if_yes true x y t = refl
if_yes false x y t = absurd t
