-- Two readings alike, in what is read and in refusals, that end at a place or behind it; and that the readers' combinators keep them
-- so.
use Rattle.std.specs.Prelude.{if◌then◌else◌}
use mathlib.Core.Path.{◌≡◌, refl, ap, ◌∙◌, subst}
use mathlib.Core.Bool.{Bool, true, false}
use mathlib.Core.List.{List, [], ◌∷◌, ◌++◌}
use Prim.Native.Nat.{ℕ, zero, suc, ◌≤◌}
use lib.Dec.{eqb}
use lib.ListN.{length}
use Rattle.rules.specs.Refusal.{Refusal, bad_expression, no_such_name, no_halt, too_many}
use Rattle.rules.specs.Program.{is_halt, Statement}
use Rattle.rules.specs.Format.{Got, bad, got, and_then, need, map_got, exactly, Here, wrong, more, done, on_here, read_many, last_halts, target_fits, targets_fit, close}

-- the readings x and y are the same and, where they succeed, end at place k or behind it
abbrev pub Alike : ℕ → {A : Type 0} → Got A → Got A → Type 0
Alike k (bad r p) y = bad r p ≡ y
Alike k (got a q) y = (got a q ≡ y) × (k ≤ q)

module _ (k : ℕ) {A : Type 0} where
  pub need-alike : (b c : Bool) → b ≡ c → (r : Refusal) (at : ℕ) (x y : Got A) → Alike k x y → Alike k (need b r at x) (need c r at y)
  unfolding need
  need-alike true c e r at x y h = subst (λ (d : Bool). Alike k x (need d r at y)) e h
  need-alike false c e r at x y h = ap (λ (d : Bool). need d r at y) e

  pub if_alike : (b : Bool) (x y x' y' : Got A) → Alike k x y → Alike k x' y' → Alike k (if b then x else x') (if b then y else y')
  if_alike true x y x' y' h l = h
  if_alike false x y x' y' h l = l

  pub then-alike : {B : Type 0} (x y : Got A) (f g : A → ℕ → Got B) → Alike k x y → ((a : A) (q : ℕ) → k ≤ q → Alike k (f a q) (g a q)) → Alike k (and_then x f) (and_then y g)
  unfolding and_then
  then-alike (bad r p) y f g h l = ap (λ (z : Got A). and_then z g) h
  then-alike {B} (got a q) y f g h l = subst (λ (z : Got A). Alike k {A = B} (f a q) (and_then z g)) h.0 (l a q h.1)

  pub map-alike : {B : Type 0} (f g : A → B) → f ≡ g → (x y : Got A) → Alike k x y → Alike k (map_got f x) (map_got g y)
  unfolding map_got
  map-alike f g e (bad r p) y h = ap (map_got g) h
  map-alike f g e (got a q) y h = (ap (λ i. got (i a) q) e ∙ ap (map_got g) h.0, h.1)

  pub exactly-alike : (at e : ℕ) (x y : Got A) → Alike k x y → Alike k (exactly at e x) (exactly at e y)
  unfolding exactly
  exactly-alike at e (bad r p) y h = ap (exactly at e) h
  exactly-alike at e (got a q) y h =
      subst (λ (z : Got A). Alike k (need (eqb q e) bad_expression at (got a q)) (exactly at e z)) h.0
      (need-alike (eqb q e) (eqb q e) refl bad_expression at (got a q) (got a q) (refl, h.1))

  here-alike : (at : ℕ) (h h' : Here) → h ≡ h' → (x y x' y' : Got A) → Alike k x y → Alike k x' y' → Alike k (on_here at h x x') (on_here at h' y y')
  unfolding on_here
  here-alike at (wrong r) h' e x y x' y' a b = ap (λ (z : Here). on_here at z y y') e
  here-alike at more h' e x y x' y' a b = subst (λ (z : Here). Alike k x (on_here at z y y')) e a
  here-alike at done h' e x y x' y' a b = subst (λ (z : Here). Alike k x' (on_here at z y y')) e b

pub many-alike : (k : ℕ) {A : Type 0} (here here' : ℕ → ℕ → Here) (one one' : ℕ → Got A) → ((n p : ℕ) → k ≤ p → here n p ≡ here' n p)
    → ((p : ℕ) → k ≤ p → Alike k (one p) (one' p)) → (m : ℕ) (xs : List A) (at : ℕ) → k ≤ at → Alike k (read_many here one m xs at) (read_many here' one' m xs at)
unfolding read_many
many-alike k here here' one one' f g zero xs at l =
    here-alike k at (here (length xs) at) (here' (length xs) at) (f (length xs) at l) (bad too_many at) (bad too_many at) (got xs at) (got xs at) refl (refl, l)
many-alike k here here' one one' f g (suc m) xs at l =
    here-alike k at (here (length xs) at) (here' (length xs) at) (f (length xs) at l)
    (and_then (one at) (λ x q. read_many here one m (xs ++ x ∷ []) q)) (and_then (one' at) (λ x q. read_many here' one' m (xs ++ x ∷ []) q)) (got xs at) (got xs at)
    (then-alike k (one at) (one' at) (λ x q. read_many here one m (xs ++ x ∷ []) q) (λ x q. read_many here' one' m (xs ++ x ∷ []) q) (g at l)
    (λ x q l'. many-alike k here here' one one' f g m (xs ++ x ∷ []) q l')) (refl, l)

-- two of a kind, one behind the other
pub both-alike : (k : ℕ) {A B : Type 0} (one one' : ℕ → Got A) (f : A → A → B) (p : ℕ) → k ≤ p → ((q : ℕ) → k ≤ q → Alike k (one q) (one' q))
    → Alike k (and_then (one p) (λ a q. and_then (one q) (λ b r. got (f a b) r))) (and_then (one' p) (λ a q. and_then (one' q) (λ b r. got (f a b) r)))
both-alike k one one' f p l h =
    then-alike k (one p) (one' p) (λ a q. and_then (one q) (λ b r. got (f a b) r)) (λ a q. and_then (one' q) (λ b r. got (f a b) r)) (h p l)
    (λ a q l'. then-alike k (one q) (one' q) (λ b r. got (f a b) r) (λ b r. got (f a b) r) (h q l') (λ b r l₂. (refl, l₂)))

-- ---- closing looks at no byte

last-alike : (k : ℕ) {A : Type 0} (xs : List Statement) (x y : Got A) → Alike k x y → Alike k (last_halts xs x) (last_halts xs y)
unfolding last_halts
last-alike k [] x y h = h
last-alike k (s ∷ []) x y h = need-alike k (is_halt s.action) (is_halt s.action) refl no_halt s.place x y h
last-alike k (s ∷ s' ∷ xs) x y h = last-alike k (s' ∷ xs) x y h

targets-alike : (k : ℕ) {A : Type 0} (n : ℕ) (xs : List Statement) (x y : Got A) → Alike k x y → Alike k (targets_fit n xs x) (targets_fit n xs y)
unfolding targets_fit
targets-alike k n [] x y h = h
targets-alike k n (s ∷ xs) x y h =
    need-alike k (target_fits n s.action) (target_fits n s.action) refl no_such_name s.place (targets_fit n xs x) (targets_fit n xs y) (targets-alike k n xs x y h)

pub close-alike : (k : ℕ) (x y : Got (List Statement)) → Alike k x y → Alike k (close x) (close y)
unfolding close
close-alike k (bad r p) y h = ap close h
close-alike k (got xs q) y h =
    subst (λ (z : Got (List Statement)). Alike k (close (got xs q)) (close z)) h.0
    (last-alike k xs (targets_fit (length xs) xs (got xs q)) (targets_fit (length xs) xs (got xs q)) (targets-alike k (length xs) xs (got xs q) (got xs q) (refl, h.1)))
