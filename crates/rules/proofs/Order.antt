-- The order of ℤ, negation, and the lesser and greater of two. `◌≤ℤ◌` is a record, so that the two numbers are inferred from a
-- fact.
use mathlib.Core.Bool.{not}
use Prim.Native.Nat.{zero, suc, zero-le, suc-le-suc}
use native.Mathlib.Nat.{le_trans, le_of_lt, le_of_suc-le-suc}
use native.Mathlib.Omega.{arith}
use lib.Dec.{T, leb→le, le→leb, nleb→lt}
use lib.IntN.{ℤ, pos, negsuc, neg_ℤ}
use lib.Signed.{le_z, ◌≤ℤ◌, ≤ℤ_refl, le_z_yes}
use Rattle.rules.specs.Interval.{min_z, max_z}
use Rattle.rules.proofs.Base.{if-ind}

trans' : (a b c : ℤ) → T (le_z a b) → T (le_z b c) → T (le_z a c)
trans' (pos a) (pos b) (pos c) h k = le→leb a c (le_trans (leb→le a b h) (leb→le b c k))
trans' (pos a) (pos b) (negsuc c) h k = k
trans' (pos a) (negsuc b) c h k = absurd h
trans' (negsuc a) (pos b) (pos c) h k = tt
trans' (negsuc a) (pos b) (negsuc c) h k = absurd k
trans' (negsuc a) (negsuc b) (pos c) h k = tt
trans' (negsuc a) (negsuc b) (negsuc c) h k = le→leb c a (le_trans (leb→le c b k) (leb→le b a h))

pub ≤ℤ-trans : {a b c : ℤ} → a ≤ℤ b → b ≤ℤ c → a ≤ℤ c
≤ℤ-trans {a} {b} {c} h k = record { le = trans' a b c h.le k.le }

other' : (a b : ℤ) → T (not (le_z a b)) → T (le_z b a)
other' (pos a) (pos b) t = le→leb b a (le_of_lt (nleb→lt a b t))
other' (pos a) (negsuc b) t = tt
other' (negsuc a) (pos b) t = t
other' (negsuc a) (negsuc b) t = le→leb a b (le_of_lt (nleb→lt b a t))

-- the test failed
pub le_z-no : (a b : ℤ) → T (not (le_z a b)) → b ≤ℤ a
le_z-no a b t = record { le = other' a b t }

pub neg-anti : (a b : ℤ) → T (le_z a b) → T (le_z (neg_ℤ b) (neg_ℤ a))
neg-anti (pos zero) (pos zero) h = tt
neg-anti (pos zero) (pos (suc b)) h = tt
neg-anti (pos zero) (negsuc b) h = absurd h
neg-anti (pos (suc a)) (pos zero) h = absurd (omega (arith, leb→le (suc a) zero h))
neg-anti (pos (suc a)) (pos (suc b)) h = le→leb a b (le_of_suc-le-suc (leb→le (suc a) (suc b) h))
neg-anti (pos (suc a)) (negsuc b) h = absurd h
neg-anti (negsuc a) (pos zero) h = le→leb zero (suc a) zero-le
neg-anti (negsuc a) (pos (suc b)) h = tt
neg-anti (negsuc a) (negsuc b) h = le→leb (suc b) (suc a) (suc-le-suc (leb→le b a h))

pub min-left : (a b : ℤ) → min_z a b ≤ℤ a
unfolding min_z
min-left a b = if-ind (le_z a b) a b (λ z. z ≤ℤ a) (λ t. ≤ℤ_refl a) (λ t. le_z-no a b t)

pub min-right : (a b : ℤ) → min_z a b ≤ℤ b
unfolding min_z
min-right a b = if-ind (le_z a b) a b (λ z. z ≤ℤ b) (λ t. le_z_yes t) (λ t. ≤ℤ_refl b)

pub max-left : (a b : ℤ) → a ≤ℤ max_z a b
unfolding max_z
max-left a b = if-ind (le_z a b) b a (λ z. a ≤ℤ z) (λ t. le_z_yes t) (λ t. ≤ℤ_refl a)

pub max-right : (a b : ℤ) → b ≤ℤ max_z a b
unfolding max_z
max-right a b = if-ind (le_z a b) b a (λ z. b ≤ℤ z) (λ t. ≤ℤ_refl b) (λ t. le_z-no a b t)

-- what holds of both numbers holds of the lesser and of the greater
pub min-has : (P : ℤ → Type 0) (a b : ℤ) → P a → P b → P (min_z a b)
unfolding min_z
min-has P a b p q = if-ind (le_z a b) a b P (λ t. p) (λ t. q)

pub max-has : (P : ℤ → Type 0) (a b : ℤ) → P a → P b → P (max_z a b)
unfolding max_z
max-has P a b p q = if-ind (le_z a b) b a P (λ t. q) (λ t. p)

pub min-above : {c a b : ℤ} → c ≤ℤ a → c ≤ℤ b → c ≤ℤ min_z a b
min-above {c} {a} {b} = min-has (λ z. c ≤ℤ z) a b

pub max-below : {c a b : ℤ} → a ≤ℤ c → b ≤ℤ c → max_z a b ≤ℤ c
max-below {c} {a} {b} = max-has (λ z. z ≤ℤ c) a b

pub min-mono : {a b c d : ℤ} → a ≤ℤ c → b ≤ℤ d → min_z a b ≤ℤ min_z c d
min-mono {a} {b} h k = min-above (≤ℤ-trans (min-left a b) h) (≤ℤ-trans (min-right a b) k)

pub max-mono : {a b c d : ℤ} → a ≤ℤ c → b ≤ℤ d → max_z a b ≤ℤ max_z c d
max-mono {c} {d} h k = max-below (≤ℤ-trans h (max-left c d)) (≤ℤ-trans k (max-right c d))
