-- Words and numbers are read in order.
use mathlib.Core.Path.{◌≡◌, refl, subst}
use mathlib.Core.Bool.{◌||◌}
use mathlib.Core.Option.{Option, none, some}
use mathlib.Core.List.{List, [], ◌∷◌, ◌++◌}
use Prim.Native.Nat.{ℕ, ◌+◌, ◌-◌, ◌*◌, ◌≤◌, ◌<◌}
use native.Mathlib.Nat.{le_refl}
use native.Mathlib.Decide.{dec_lt}
use native.Mathlib.Omega.{arith}
use lib.Dec.{T, eqb, eqb→eq}
use lib.IntN.{pos}
use lib.ListN.{length}
use Rattle.rules.specs.Format.{Bytes}
use Rattle.rules.proofs.Base.{if-ind}
use Rattle.text.specs.Words.{Read, stop, took, then_read, map_read, is_digit, is_letter, spaces, apart, numeral, digits, number, negative, signed_here, signed, Word, word, following, whole, or_none, or_whole, spell, keyword, symbol, name, newline, line_end}
use Rattle.text.proofs.Within.{Within, Shortens, within_more, then-within, on-rest, apart-within, numeral-within, digits-within, signed-here-within, spell-within, name-within, newline-within}
use Rattle.text.proofs.Orderly.{within-past, WithinPast, Skips, spaces-append, spaces-before-within, Extends, took-extends, stop-extends, end-extends, map-extends, if-extends, Orderly, OrderlyHere, skip-orderly, then-orderly}

-- ---- a word is taken whatever stands behind it

module _ (u : Bytes) where
  abbrev pub Always : {A : Type 0} → Read A → Read A → Type 0
  Always (stop r) h = (0 < length r → h ≡ stop (r ++ u)) × (length r ≤ 0 → Within (length u) h)
  Always (took a r) h = h ≡ took a (r ++ u)

  pub always-extends : {A : Type 0} (g h : Read A) → Always g h → Extends u g h
  always-extends (stop r) h e = (e.0, λ l. within-past (length u) h (e.1 l))
  always-extends (took a r) h e = rw e (took-extends u a r)

  pub then-always : {A B : Type 0} (g h : Read A) (f : A → Bytes → Read B) → Always g h → ((a : A) → Shortens (f a))
      → ((a : A) (r : Bytes) → Extends u (f a r) (f a (r ++ u))) → Extends u (then_read g f) (then_read h f)
  unfolding then_read
  then-always (stop r) h f e w x = (λ l. rw (e.0 l), λ l. within-past (length u) (then_read h f) (then-within h f (e.1 l) (λ a q k. on-rest (f a) (w a) q k)))
  then-always (took a r) h f e w x = rw e (x a r)

  none-always : {A B : Type 0} (xs : List B) (s : Bytes) (g h : Read A) → Always g h → 0 < length s → Always (or_none xs (stop s) g) (or_none xs (stop (s ++ u)) h)
  unfolding or_none
  none-always [] s g h e l = (λ k. refl, λ k. absurd (omega arith))
  none-always (x ∷ xs) s g h e l = e

  whole-always : {A : Type 0} (o : Option A) (s : Bytes) (g h : Read A) → Always g h → Always (or_whole o s g) (or_whole o (s ++ u) h)
  unfolding or_whole
  whole-always none s g h e = e
  whole-always (some a) s g h e = refl

  pub spell-always : {A : Type 0} (ws : List (Word A)) (t : Bytes) → Always (spell ws t) (spell ws (t ++ u))
  unfolding spell
  spell-always ws [] = (λ l. absurd (omega arith), λ l. spell-within ws u)
  spell-always ws (b ∷ t) =
      let f = following b ws in
      none-always f (b ∷ t) (or_whole (whole f) t (spell f t)) (or_whole (whole f) (t ++ u) (spell f (t ++ u))) (whole-always (whole f) t (spell f t) (spell f (t ++ u)) (spell-always f t)) (omega arith)

  -- behind spaces
  pub spaced-always : {A : Type 0} (ws : List (Word A)) (t : Bytes) → Always (spell ws (spaces t)) (spell ws (spaces (t ++ u)))
  unfolding spell
  spaced-always ws t = elim (dec_lt 0 (length (spaces t))) [
    | yes l ↦ rw (spaces-append t u l) (spell-always ws (spaces t))
    | no l ↦ at_end (spaces t) (omega arith) (within_more (spell ws (spaces (t ++ u))) (spaces-before-within t u (omega arith)) (spell-within ws (spaces (t ++ u))))
  ]
    where
      at_end : (v : Bytes) → length v ≤ 0 → Within (length u) (spell ws (spaces (t ++ u))) → Always (spell ws v) (spell ws (spaces (t ++ u)))
      at_end [] k w = (λ l. absurd (omega arith), λ l. w)
      at_end (b ∷ v) k w = absurd (omega arith)

pub spell-orderly : {A : Type 0} (ws : List (Word A)) → Orderly (λ s. spell ws (spaces s))
spell-orderly ws = skip-orderly (spell ws) (record {
  shorter = spell-within ws;
  extends = λ b t u. always-extends u (spell ws (b ∷ t)) (spell ws (b ∷ t ++ u)) (spell-always u ws (b ∷ t));
})

pub symbol-orderly : (w : Bytes) → Orderly (symbol w)
unfolding symbol
symbol-orderly w = spell-orderly (word w tt ∷ [])

-- ---- behind a word of letters or digits

-- a letter or digit is no space
solid : (b : ℕ) (s : Bytes) → T (is_digit b || is_letter b) → length (spaces (b ∷ s)) ≡ length (b ∷ s)
unfolding spaces is_digit is_letter
solid b s h = if-ind (eqb b 32) (spaces s) (b ∷ s) (λ r. length r ≡ length (b ∷ s)) (λ e. let q = eqb→eq b 32 e in absurd (subst (λ (c : ℕ). T (is_digit c || is_letter c)) q h)) (λ _. refl)

apart-orderly : {A : Type 0} (a : A) → Orderly (apart a)
unfolding apart spaces
apart-orderly a = record { shorter = apart-within a; skips = skips; extends = extends }
  where
    skips : Skips (apart a)
    skips [] = le_refl 0
    skips (b ∷ s) =
        if-ind (is_digit b || is_letter b) (stop (b ∷ s)) (took a (b ∷ s)) (WithinPast (length (spaces (b ∷ s)))) (λ h. let e = solid b s h in omega arith) (λ _. le_refl _)

    extends : (t u : Bytes) → Extends u (apart a t) (apart a (t ++ u))
    extends [] u = end-extends u (took a []) (apart a u) (le_refl 0) (within-past (length u) (apart a u) (apart-within a u))
    extends (b ∷ t) u =
        if-extends u (is_digit b || is_letter b) (stop (b ∷ t)) (took a (b ∷ t)) (stop (b ∷ t ++ u)) (took a (b ∷ t ++ u)) (stop-extends u (b ∷ t)) (took-extends u a (b ∷ t))

pub keyword-orderly : {A : Type 0} (ws : List (Word A)) → Orderly (keyword ws)
unfolding keyword
keyword-orderly ws = then-orderly (λ s. spell ws (spaces s)) (spell-orderly ws) apart apart-orderly

-- ---- numbers

numeral-extends : (n : ℕ) (t u : Bytes) → Extends u (numeral n t) (numeral n (t ++ u))
unfolding numeral spaces
numeral-extends n [] u = end-extends u (took n []) (numeral n u) (le_refl 0) (within-past (length u) (numeral n u) (numeral-within n u))
numeral-extends n (b ∷ t) u =
    let m = n * 10 + (b - 48) in
    if-extends u (is_digit b) (numeral m t) (apart n (b ∷ t)) (numeral m (t ++ u)) (apart n (b ∷ t ++ u)) (numeral-extends m t u) ((apart-orderly n).extends (b ∷ t) u)

pub digits-extends : (t u : Bytes) → Extends u (digits t) (digits (t ++ u))
unfolding digits
digits-extends [] u = end-extends u (stop []) (digits u) (le_refl 0) (within-past (length u) (digits u) (digits-within u))
digits-extends (b ∷ t) u =
    if-extends u (is_digit b) (numeral (b - 48) t) (stop (b ∷ t)) (numeral (b - 48) (t ++ u)) (stop (b ∷ t ++ u)) (numeral-extends (b - 48) t u) (stop-extends u (b ∷ t))

digits-here : OrderlyHere digits
digits-here = record { shorter = digits-within; extends = λ b t u. digits-extends (b ∷ t) u }

pub number-orderly : Orderly number
unfolding number
number-orderly = skip-orderly digits digits-here

pub signed-orderly : Orderly signed
unfolding signed signed_here
signed-orderly = skip-orderly signed_here (record {
  shorter = signed-here-within;
  extends = λ b t u.
      if-extends u (eqb b 45) (map_read negative (number t)) (map_read pos (digits (b ∷ t))) (map_read negative (number (t ++ u))) (map_read pos (digits (b ∷ t ++ u)))
      (map-extends u negative (number t) (number (t ++ u)) (number-orderly.extends t u)) (map-extends u pos (digits (b ∷ t)) (digits (b ∷ t ++ u)) (digits-extends (b ∷ t) u));
})

pub name-orderly : (w : Bytes) → Orderly (name w)
unfolding name symbol
name-orderly w = record {
  shorter = name-within w;
  skips = λ s. within-past (length (spaces s)) (name w s) (then-within (symbol w s) (λ _ r. digits r) (spell-within (word w tt ∷ []) (spaces s)) (λ _ r l. on-rest digits digits-within r l));
  extends = λ t u. then-always u (symbol w t) (symbol w (t ++ u)) (λ _ r. digits r) (spaced-always u (word w tt ∷ []) t) (λ _. digits-within) (λ _ r. digits-extends r u);
}

-- ---- the end of a line

pub line-end-orderly : {A : Type 0} (a : A) → Orderly (line_end a)
unfolding line_end newline
line-end-orderly a = skip-orderly (newline a) (record {
  shorter = newline-within a;
  extends = λ b t u. if-extends u (eqb b 10) (took a t) (stop (b ∷ t)) (took a (t ++ u)) (stop (b ∷ t ++ u)) (took-extends u a t) (stop-extends u (b ∷ t));
})
