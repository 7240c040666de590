-- "at the first byte that cannot go on": what a reader has read of a text before the text's end stays when more stands behind it.
-- A reader for which this holds is orderly, and so are orderly readers one after another. A stop in the text stays, and so does
-- what is taken with more left than spaces; where a text is read to its end, more of it is read no less far.
use Rattle.std.specs.Prelude.{if◌then◌else◌}
use mathlib.Core.Path.{◌≡◌, refl}
use mathlib.Core.Bool.{Bool, true, false}
use mathlib.Core.List.{[], ◌∷◌, ◌++◌}
use Prim.Native.Nat.{ℕ, ◌≤◌, ◌<◌}
use native.Mathlib.Nat.{le_refl}
use native.Mathlib.Decide.{dec_lt}
use native.Mathlib.Omega.{arith}
use lib.Dec.{eqb}
use lib.ListN.{length, length-append}
use Rattle.rules.specs.Format.{Bytes}
use Rattle.text.specs.Words.{Read, stop, took, then_read, map_read, spaces}
use Rattle.text.proofs.Within.{Within, Shortens, then-within, map-within, on-rest, spaces-shorten}

-- ---- how much is left, past spaces

abbrev pub WithinPast : {A : Type 0} → ℕ → Read A → Type 0
WithinPast n (stop r) = length r ≤ n
WithinPast n (took a r) = length (spaces r) ≤ n

pub within-past : {A : Type 0} (n : ℕ) (g : Read A) → Within n g → WithinPast n g
within-past n (stop r) h = h
within-past n (took a r) h = let k = spaces-shorten r in omega arith

pub past_more : {A : Type 0} {m n : ℕ} (g : Read A) → m ≤ n → WithinPast m g → WithinPast n g
past_more (stop r) l h = omega arith
past_more (took a r) l h = omega arith

-- a text is read to its end: the reader stops there, or leaves no more than spaces
abbrev pub AtEnd : {A : Type 0} → Read A → Type 0
AtEnd g = WithinPast 0 g

-- a reader that first passes over spaces
abbrev pub Skips : {A : Type 0} → (Bytes → Read A) → Type 0
Skips reader = (s : Bytes) → WithinPast (length (spaces s)) (reader s)

pub then-past : {A B : Type 0} (n : ℕ) (g : Read A) (f : A → Bytes → Read B) → WithinPast n g → ((a : A) → Skips (f a)) → WithinPast n (then_read g f)
unfolding then_read
then-past n (stop r) f h k = h
then-past n (took a r) f h k = past_more (f a r) h (k a r)

pub map-past : {A B : Type 0} (n : ℕ) (f : A → B) (g : Read A) → WithinPast n g → WithinPast n (map_read f g)
unfolding map_read
map-past n f (stop r) h = h
map-past n f (took a r) h = h

-- ---- spaces of a text with more behind it

pub spaces-append : (t u : Bytes) → 0 < length (spaces t) → spaces (t ++ u) ≡ spaces t ++ u
unfolding spaces
spaces-append [] u l = absurd (omega arith)
spaces-append (b ∷ t) u l = by (eqb b 32) (λ k. spaces-append t u k) l
  where
    by : (q : Bool) → (0 < length (spaces t) → spaces (t ++ u) ≡ spaces t ++ u) → 0 < length (if q then spaces t else b ∷ t)
        → (if q then spaces (t ++ u) else b ∷ t ++ u) ≡ (if q then spaces t else b ∷ t) ++ u
    by true f k = f k
    by false f k = refl

pub spaces-before : (t u : Bytes) → length (spaces t) ≤ 0 → spaces (t ++ u) ≡ spaces u
unfolding spaces
spaces-before [] u l = refl
spaces-before (b ∷ t) u l = by (eqb b 32) (λ k. spaces-before t u k) l
  where
    by : (q : Bool) → (length (spaces t) ≤ 0 → spaces (t ++ u) ≡ spaces u) → length (if q then spaces t else b ∷ t) ≤ 0
        → (if q then spaces (t ++ u) else b ∷ t ++ u) ≡ spaces u
    by true f k = f k
    by false f k = absurd (omega arith)

pub spaces-before-within : (t u : Bytes) → length (spaces t) ≤ 0 → length (spaces (t ++ u)) ≤ length u
spaces-before-within t u l = rw (spaces-before t u l) (spaces-shorten u)

-- ---- a reading, and the reading with u behind

-- what holds of a value that is taken and the bytes behind it
abbrev pub Left : {A : Type 0} → (A → Bytes → Type 0) → Read A → Type 0
Left P (stop r) = Unit {0}
Left P (took a r) = P a r

-- at most n bytes
abbrev pub Leaves : {A : Type 0} → ℕ → Read A → Type 0
Leaves n g = Left (λ _ r. length r ≤ n) g

pub within-leaves : {A : Type 0} (n : ℕ) (g : Read A) → Within n g → Leaves n g
within-leaves n (stop r) h = tt
within-leaves n (took a r) h = h

module _ (u : Bytes) where
  abbrev pub Extends : {A : Type 0} → Read A → Read A → Type 0
  Extends (stop r) h = (0 < length r → h ≡ stop (r ++ u)) × (length r ≤ 0 → WithinPast (length u) h)
  Extends (took a r) h = (0 < length (spaces r) → h ≡ took a (r ++ u)) × (length (spaces r) ≤ 0 → WithinPast (length u) h)

  pub took-extends : {A : Type 0} (a : A) (r : Bytes) → Extends (took a r) (took a (r ++ u))
  took-extends a r = (λ l. refl, λ l. spaces-before-within r u l)

  pub stop-extends : {A : Type 0} (r : Bytes) → Extends {A = A} (stop r) (stop (r ++ u))
  stop-extends r = (λ l. refl, λ l. let k = length-append r u in omega arith)

  -- read to the end
  pub end-extends : {A : Type 0} (g h : Read A) → AtEnd g → WithinPast (length u) h → Extends g h
  end-extends (stop r) h k l = (λ m. absurd (omega arith), λ m. l)
  end-extends (took a r) h k l = (λ m. absurd (omega arith), λ m. l)

  pub map-extends : {A B : Type 0} (f : A → B) (g h : Read A) → Extends g h → Extends (map_read f g) (map_read f h)
  unfolding map_read
  map-extends f (stop r) h e = (λ l. rw (e.0 l), λ l. map-past (length u) f h (e.1 l))
  map-extends f (took a r) h e = (λ l. rw (e.0 l), λ l. map-past (length u) f h (e.1 l))

  pub if-extends : {A : Type 0} (q : Bool) (g k g' k' : Read A) → Extends g g' → Extends k k' → Extends (if q then g else k) (if q then g' else k')
  if-extends true g k g' k' m n = m
  if-extends false g k g' k' m n = n

  -- one after another: f and k go on, the other where more stands behind; at most m bytes are left for them
  pub then-extends : {A B : Type 0} (m : ℕ) (g h : Read A) (f k : A → Bytes → Read B) → Leaves m g → Extends g h → ((a : A) → Skips (f a)) → ((a : A) → Skips (k a))
      → ((a : A) (r : Bytes) → length r ≤ m → Extends (f a r) (k a (r ++ u))) → Extends (then_read g f) (then_read h k)
  unfolding then_read
  then-extends m (stop r) h f k w e i j x = (λ l. rw (e.0 l), λ l. then-past (length u) h k (e.1 l) j)
  then-extends m (took a r) h f k w e i j x = elim (dec_lt 0 (length (spaces r))) [
    | yes l ↦ rw (e.0 l) (x a r w)
    | no l ↦ end-extends (f a r) (then_read h k) (past_more (f a r) (omega arith) (i a r)) (then-past (length u) h k (e.1 (omega arith)) j)
  ]

-- ---- orderly readers

pub record Orderly {A : Type 0} (reader : Bytes → Read A) : Type 0 where
  pub shorter : Shortens reader
  pub skips : Skips reader
  pub extends : (t u : Bytes) → Extends u (reader t) (reader (t ++ u))

-- a reader for what begins right here
pub record OrderlyHere {A : Type 0} (reader : Bytes → Read A) : Type 0 where
  pub shorter : Shortens reader
  pub extends : (b : ℕ) (t u : Bytes) → Extends u (reader (b ∷ t)) (reader (b ∷ t ++ u))

pub skip-orderly : {A : Type 0} (reader : Bytes → Read A) → OrderlyHere reader → Orderly (λ s. reader (spaces s))
skip-orderly reader o = record {
  shorter = λ s. on-rest reader o.shorter (spaces s) (spaces-shorten s);
  skips = λ s. within-past (length (spaces s)) (reader (spaces s)) (o.shorter (spaces s));
  extends = λ t u. elim (dec_lt 0 (length (spaces t))) [
    | yes l ↦ rw (spaces-append t u l) (here u (spaces t) l)
    | no l ↦ end-extends u (reader (spaces t)) (reader (spaces (t ++ u)))
        (past_more (reader (spaces t)) (omega arith) (within-past (length (spaces t)) (reader (spaces t)) (o.shorter (spaces t))))
        (past_more (reader (spaces (t ++ u))) (spaces-before-within t u (omega arith)) (within-past (length (spaces (t ++ u))) (reader (spaces (t ++ u))) (o.shorter (spaces (t ++ u)))))
  ];
}
  where
    here : (u v : Bytes) → 0 < length v → Extends u (reader v) (reader (v ++ u))
    here u [] l = absurd (omega arith)
    here u (b ∷ v) l = o.extends b v u

pub took-orderly : {A : Type 0} (a : A) → Orderly (λ s. took a s)
took-orderly a = record { shorter = λ s. le_refl (length s); skips = λ s. le_refl (length (spaces s)); extends = λ t u. took-extends u a t }

module _ {A B : Type 0} (reader : Bytes → Read A) (o : Orderly reader) where
  pub then-orderly : (f : A → Bytes → Read B) → ((a : A) → Orderly (f a)) → Orderly (λ s. then_read (reader s) f)
  then-orderly f p = record {
    shorter = λ s. then-within (reader s) f (o.shorter s) (λ a r l. on-rest (f a) (p a).shorter r l);
    skips = λ s. then-past (length (spaces s)) (reader s) f (o.skips s) (λ a. (p a).skips);
    extends = λ t u.
        then-extends u (length t) (reader t) (reader (t ++ u)) f f (within-leaves (length t) (reader t) (o.shorter t)) (o.extends t u) (λ a. (p a).skips) (λ a. (p a).skips) (λ a r l. (p a).extends r u);
  }

  pub map-orderly : (f : A → B) → Orderly (λ s. map_read f (reader s))
  map-orderly f = record {
    shorter = λ s. map-within (length s) f (reader s) (o.shorter s);
    skips = λ s. map-past (length (spaces s)) f (reader s) (o.skips s);
    extends = λ t u. map-extends u f (reader t) (reader (t ++ u)) (o.extends t u);
  }
