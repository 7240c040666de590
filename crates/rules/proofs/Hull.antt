-- The least and the greatest of a function of two numbers over the ends of two intervals: where it rises or falls in each number,
-- its values on the intervals lie between them; and what holds of its four values at the ends holds of them.
use mathlib.Core.Path.{◌≡◌, subst₂}
use lib.Dec.{T}
use lib.IntN.{ℤ}
use lib.Signed.{le_z, ◌≤ℤ◌, ≤ℤ_refl, le_z_yes}
use Rattle.rules.specs.Interval.{Interval, interval, ◌∈◌, min_z, max_z, hull}
use Rattle.rules.proofs.Order.{≤ℤ-trans, min-left, min-right, max-left, max-right, min-has, max-has, min-mono, max-mono}

-- ---- a function that only rises or only falls, where P holds

pub data Way (P : ℤ → Type 0) (f : ℤ → ℤ) : Type 0 where
  up : ((a b : ℤ) → P a → P b → a ≤ℤ b → f a ≤ℤ f b) → Way P f
  down : ((a b : ℤ) → P a → P b → a ≤ℤ b → f b ≤ℤ f a) → Way P f

between : (P : ℤ → Type 0) (f : ℤ → ℤ) → Way P f → (i : Interval) (x : ℤ) → x ∈ i → P i.low → P x → P i.high
    → f x ∈ interval (min_z (f i.low) (f i.high)) (max_z (f i.low) (f i.high))
between P f (up m) i x h p q r = record {
  low = ≤ℤ-trans (min-left (f i.low) (f i.high)) (m i.low x p q h.low);
  high = ≤ℤ-trans (m x i.high q r h.high) (max-right (f i.low) (f i.high));
}
between P f (down m) i x h p q r = record {
  low = ≤ℤ-trans (min-right (f i.low) (f i.high)) (m x i.high q r h.high);
  high = ≤ℤ-trans (m i.low x p q h.low) (max-left (f i.low) (f i.high));
}

lo-in : {i : Interval} {x : ℤ} → x ∈ i → i.low ∈ i
lo-in {i} h = record { low = ≤ℤ_refl i.low; high = ≤ℤ-trans h.low h.high }

hi-in : {i : Interval} {x : ℤ} → x ∈ i → i.high ∈ i
hi-in {i} h = record { low = ≤ℤ-trans h.low h.high; high = ≤ℤ_refl i.high }

pub Any : ℤ → Type 0
Any z = Unit {0}

pub any : (z : ℤ) → Any z
unfolding Any
any z = tt

-- Q holds on j; each row and each column rises or falls
pub hull-holds : (f : ℤ → ℤ → ℤ) (Q : ℤ → Type 0) (i j : Interval) → ((y : ℤ) → y ∈ j → Q y)
    → ((y : ℤ) → Q y → Way Any (λ x. f x y)) → ((x : ℤ) → Way Q (f x))
    → (x y : ℤ) → x ∈ i → y ∈ j → f x y ∈ hull f i j
unfolding hull
hull-holds f Q i j on-j in-x in-y x y hx hy =
    let qy : Q y = on-j y hy in
    let ql : Q j.low = on-j j.low (lo-in hy) in
    let qh : Q j.high = on-j j.high (hi-in hy) in
    let row = between Any (λ x. f x y) (in-x y qy) i x hx (any i.low) (any x) (any i.high) in
    let left = between Q (f i.low) (in-y i.low) j y hy ql qy qh in
    let right = between Q (f i.high) (in-y i.high) j y hy ql qy qh in
    record {
      low = ≤ℤ-trans (min-mono left.low right.low) row.low;
      high = ≤ℤ-trans row.high (max-mono left.high right.high);
    }

-- ---- how to show that a function rises or falls

pub flip-way : (P : ℤ → Type 0) (f g : ℤ → ℤ) → ((z : ℤ) → f z ≡ g z) → Way P f → Way P g
flip-way P f g e (up m) = up (λ a b p q h. subst₂ (λ (y z : ℤ). y ≤ℤ z) (e a) (e b) (m a b p q h))
flip-way P f g e (down m) = down (λ a b p q h. subst₂ (λ (y z : ℤ). y ≤ℤ z) (e b) (e a) (m a b p q h))

pub rise : (P : ℤ → Type 0) (f : ℤ → ℤ) → ((a b : ℤ) → T (le_z a b) → T (le_z (f a) (f b))) → Way P f
rise P f m = up (λ a b _ _ h. le_z_yes (m a b h.le))

pub fall : (P : ℤ → Type 0) (f : ℤ → ℤ) → ((a b : ℤ) → T (le_z a b) → T (le_z (f b) (f a))) → Way P f
fall P f m = down (λ a b _ _ h. le_z_yes (m a b h.le))

-- ---- the values at the ends

-- what holds of all four
pub record Corners (P : ℤ → Type 0) (f : ℤ → ℤ → ℤ) (i j : Interval) : Type 0 where
  pub low_low : P (f i.low j.low)
  pub low_high : P (f i.low j.high)
  pub high_low : P (f i.high j.low)
  pub high_high : P (f i.high j.high)

pub each-corner : {P Q : ℤ → Type 0} {f : ℤ → ℤ → ℤ} {i j : Interval} → Corners P f i j → ((z : ℤ) → P z → Q z) → Corners Q f i j
each-corner {f} {i} {j} c g = record {
  low_low = g (f i.low j.low) c.low_low;
  low_high = g (f i.low j.high) c.low_high;
  high_low = g (f i.high j.low) c.high_low;
  high_high = g (f i.high j.high) c.high_high;
}

module _ (P : ℤ → Type 0) (f : ℤ → ℤ → ℤ) (i j : Interval) (c : Corners P f i j) where
  pub hull-low-has : P (hull f i j).low
  unfolding hull
  hull-low-has = min-has P _ _ (min-has P _ _ c.low_low c.low_high) (min-has P _ _ c.high_low c.high_high)

  pub hull-high-has : P (hull f i j).high
  unfolding hull
  hull-high-has = max-has P _ _ (max-has P _ _ c.low_low c.low_high) (max-has P _ _ c.high_low c.high_high)
