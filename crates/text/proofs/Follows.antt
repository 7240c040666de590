-- What may stand behind a reader that is read to the text's end, so that it takes what it has read: calm behind arithmetic, quiet
-- behind a condition.
use Rattle.std.specs.Prelude.{if◌then◌else◌}
use mathlib.Core.Path.{◌≡◌, refl, sym, subst}
use mathlib.Core.Bool.{Bool, true, false, not, ◌&&◌, ◌||◌}
use mathlib.Core.List.{[], ◌∷◌, ◌++◌}
use Prim.Native.Nat.{ℕ, ◌≤◌, ◌<◌}
use native.Mathlib.Omega.{arith}
use lib.Dec.{T, ltb, eqb, ltb→lt, eqb→eq}
use lib.ListN.{length}
use Rattle.rules.specs.Base.{nil, ◌&◌}
use Rattle.rules.specs.Format.{Bytes, AreBytes}
use Rattle.rules.proofs.Base.{if-ind, and_left, and_right, not-both}
use Rattle.text.specs.Words.{is_digit, is_letter, spaces}
use Rattle.text.proofs.Orderly.{spaces-before}

unfoldable pub word_ends : Bytes → Bool
word_ends [] = true
word_ends (b ∷ s) = not (is_digit b || is_letter b)

-- `*`, `/`, `+`, `-`
unfoldable pub no_sign : Bytes → Bool
no_sign [] = true
no_sign (b ∷ s) = not ((eqb b 42 || eqb b 47) || (eqb b 43 || eqb b 45))

-- `=`, `<`, `&`
unfoldable pub no_join : Bytes → Bool
no_join [] = true
no_join (b ∷ s) = not (eqb b 61 || (eqb b 60 || eqb b 38))

pub record Calm (u : Bytes) : Type 0 where
  pub word_ends_lem : T (word_ends u)
  pub no_sign_lem : T (no_sign (spaces u))

pub record Quiet (u : Bytes) : Type 0 where
  pub calm : Calm u
  pub no_join_lem : T (no_join (spaces u))

abbrev pub Anything : {A : Type 0} → A → Type 0
Anything x = Unit {0}

-- spaces alone
abbrev pub Blank : Bytes → Type 0
Blank t = length (spaces t) ≤ 0

ends-before : (t u : Bytes) → Blank t → T (word_ends u) → T (word_ends (t ++ u))
unfolding spaces word_ends is_digit is_letter
ends-before [] u l h = h
ends-before (b ∷ t) u l h = by (eqb b 32) refl l
  where
    by : (q : Bool) → eqb b 32 ≡ q → length (if q then spaces t else b ∷ t) ≤ 0 → T (word_ends (b ∷ t ++ u))
    by true e k = rw (eqb→eq b 32 (subst T (sym e) tt)) tt
    by false e k = absurd (omega arith)

pub calm-before : (t u : Bytes) → Blank t → Calm u → Calm (t ++ u)
calm-before t u l c = record { word_ends_lem = ends-before t u l c.word_ends_lem; no_sign_lem = rw (spaces-before t u l) c.no_sign_lem }

-- a byte that is no space and no sign: behind a space, it may follow anything
unfoldable pub opener : ℕ → Bool
opener c = (ltb c 256 && not (eqb c 32)) && (no_sign (c ∷ []) && no_join (c ∷ []))

module _ (c : ℕ) (o : T (opener c)) where
  pub opener-small : c < 256
  unfolding opener
  opener-small = ltb→lt c 256 (and_left (ltb c 256) (not (eqb c 32)) (and_left (ltb c 256 && not (eqb c 32)) (no_sign (c ∷ []) && no_join (c ∷ [])) o))

  pub opener-stays : (s : Bytes) → spaces (c ∷ s) ≡ c ∷ s
  unfolding opener spaces
  opener-stays s =
      if-ind (eqb c 32) (spaces s) (c ∷ s) (λ r. r ≡ c ∷ s) (λ h. absurd (not-both (eqb c 32) (and_right (ltb c 256) (not (eqb c 32)) (and_left (ltb c 256 && not (eqb c 32)) (no_sign (c ∷ []) && no_join (c ∷ [])) o)) h)) (λ _. refl)

  pub opener-quiet : (s : Bytes) → Quiet (32 ∷ c ∷ s)
  unfolding opener no_sign no_join word_ends is_digit is_letter spaces
  opener-quiet s =
      let signs = and_right (ltb c 256 && not (eqb c 32)) (no_sign (c ∷ []) && no_join (c ∷ [])) o in
      record {
        calm = record { word_ends_lem = tt; no_sign_lem = subst (λ r. T (no_sign r)) (sym (opener-stays s)) (and_left (no_sign (c ∷ [])) (no_join (c ∷ [])) signs) };
        no_join_lem = subst (λ r. T (no_join r)) (sym (opener-stays s)) (and_right (no_sign (c ∷ [])) (no_join (c ∷ [])) signs);
      }

-- ---- bytes

abbrev pub all_bytes : Bytes → Bool
all_bytes [] = true
all_bytes (b ∷ s) = ltb b 256 && all_bytes s

pub are_bytes : (s : Bytes) → T (all_bytes s) → AreBytes s
are_bytes [] h = nil
are_bytes (b ∷ s) h = ltb→lt b 256 (and_left (ltb b 256) (all_bytes s) h) & are_bytes s (and_right (ltb b 256) (all_bytes s) h)
