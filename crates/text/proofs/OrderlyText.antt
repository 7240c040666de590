-- A text is read in order: what is read of it before its end stays when more stands behind it.
use mathlib.Core.Path.{◌≡◌, refl, sym, subst}
use mathlib.Core.Bool.{Bool, true, false}
use mathlib.Core.List.{List, [], ◌∷◌, ◌++◌}
use Prim.Native.Nat.{ℕ, zero, suc, ◌+◌, ◌-◌, ◌≤◌}
use native.Mathlib.Nat.{le_refl}
use native.Mathlib.Omega.{arith}
use lib.Dec.{T}
use lib.ListN.{length, length-append}
use Rattle.rules.specs.Format.{Bytes}
use Rattle.rules.proofs.Base.{if-ind}
use Rattle.text.specs.Words.{bytes, Read, stop, took, then_read, map_read, spaces, number, line_end}
use Rattle.text.specs.Lines.{Line, word_only, Due, locks_due, var_due, reg_due, statement_due, due_after, line_here, read_line, Started, starts, may_end, read_lines, Text, head_line, ends, read_text}
use Rattle.text.proofs.Within.{Within, Shortens, then-within, map-within, on-rest, spaces-shorten, line-end-within, Eats, eats-within}
use Rattle.text.proofs.LinesWithin.{line-eats, lines-turn}
use Rattle.text.proofs.Orderly.{WithinPast, within-past, past_more, Skips, spaces-before-within, then-past, map-past, Leaves, Extends, end-extends, map-extends, then-extends, within-leaves, Orderly, then-orderly}
use Rattle.text.proofs.OrderlyWords.{number-orderly, line-end-orderly}
use Rattle.text.proofs.OrderlyLines.{range-orderly, word-only-orderly, line-here, line-orderly}

-- ---- all lines

lines-within : (n k : ℕ) (due : Due) → Shortens (read_lines n k due)
unfolding read_lines
lines-within n zero due s = if-ind (may_end due s) (took [] s) (stop s) (Within (length s)) (λ _. le_refl (length s)) (λ _. le_refl (length s))
lines-within n (suc k) due s =
    if-ind (may_end due s) (took [] s) _ (Within (length s)) (λ _. le_refl (length s)) (λ _.
    then-within (read_line due s) _ (eats-within (length s) (read_line due s) (line-eats due s)) (λ z r l.
    map-within (length s) (λ xs. starts (n - length s) z ∷ xs) (read_lines n k (due_after z) r) (on-rest (read_lines n k (due_after z)) (lines-within n k (due_after z)) r l)))

-- the lines behind one that starts at a place
unfoldable pub further : ℕ → ℕ → Line → Bytes → Read (List Started)
further n p z r = map_read (λ xs. starts p z ∷ xs) (read_lines n (length r) (due_after z) r)

line-past : (due : Due) (s : Bytes) → Within (length (spaces s)) (read_line due s)
unfolding read_line
line-past due s = then-within (line_here due (spaces s)) line_end ((line-here due).shorter (spaces s)) (λ z r l. on-rest (line_end z) (line-end-within z) r l)

lines-skip : (n : ℕ) (due : Due) (s : Bytes) → WithinPast (length (spaces s)) (read_lines n (length s) due s)
unfolding further
lines-skip n due s = rw (lines-turn n due s) (if-ind (may_end due s) (took [] s) (then_read (read_line due s) (further n (n - length s))) (WithinPast (length (spaces s))) (λ _. le_refl (length (spaces s))) (λ _.
    within-past (length (spaces s)) (then_read (read_line due s) (further n (n - length s))) (then-within (read_line due s) (further n (n - length s)) (line-past due s) (λ z r l.
    map-within (length (spaces s)) (λ xs. starts (n - length s) z ∷ xs) (read_lines n (length r) (due_after z) r)
    (on-rest (read_lines n (length r) (due_after z)) (lines-within n (length r) (due_after z)) r l)))))

further-skips : (n p : ℕ) (z : Line) → Skips (further n p z)
unfolding further
further-skips n p z r = map-past (length (spaces r)) (λ xs. starts p z ∷ xs) (read_lines n (length r) (due_after z) r) (lines-skip n (due_after z) r)

-- a text may end only where nothing is left
end_empty : (due : Due) (s : Bytes) → T (may_end due s) → length s ≤ 0
unfolding may_end
end_empty locks_due s t = absurd t
end_empty var_due s t = absurd t
end_empty reg_due s t = absurd t
end_empty statement_due [] t = le_refl 0
end_empty statement_due (b ∷ s) t = absurd t

-- and where it may not, it may not with more behind
not_end : (due : Due) (t u : Bytes) → may_end due t ≡ false → may_end due (t ++ u) ≡ false
unfolding may_end
not_end locks_due t u h = refl
not_end var_due t u h = refl
not_end reg_due t u h = refl
not_end statement_due [] u h = let z : ◌≡◌ {A = ℕ} 0 1 = cc in absurd (omega arith)
not_end statement_due (b ∷ t) u h = refl

leaves-less : {A : Type 0} (k n : ℕ) (g : Read A) → n ≤ suc k → Eats n g → Leaves k g
leaves-less k n (stop r) l h = tt
leaves-less k n (took a r) l h = omega arith

module _ (u : Bytes) where
  -- the place of a line is the same with u behind the text
  same_place : (n : ℕ) (t : Bytes) → (n + length u) - length (t ++ u) ≡ n - length t
  same_place n t = omega (arith, length-append t u)

  none_left : (n m : ℕ) (due : Due) (t : Bytes) → length t ≤ 0 → Extends u (read_lines n (length t) due t) (read_lines m (length (t ++ u)) due (t ++ u))
  none_left n m due t l =
      let k = spaces-shorten t in
      end-extends u (read_lines n (length t) due t) (read_lines m (length (t ++ u)) due (t ++ u))
      (past_more (read_lines n (length t) due t) (omega arith) (lines-skip n due t))
      (past_more (read_lines m (length (t ++ u)) due (t ++ u)) (spaces-before-within t u (omega arith)) (lines-skip m due (t ++ u)))

  -- the text goes on, or ends here
  one_line : (k n m : ℕ) (due : Due) (t : Bytes) → m ≡ n + length u → length t ≤ suc k
      → ((z : Line) (r : Bytes) → length r ≤ k → Extends u (read_lines n (length r) (due_after z) r) (read_lines m (length (r ++ u)) (due_after z) (r ++ u)))
      → (q : Bool) → may_end due t ≡ q → Extends u (read_lines n (length t) due t) (read_lines m (length (t ++ u)) due (t ++ u))
  unfolding further
  one_line k n m due t s l x true e = none_left n m due t (end_empty due t (subst T (sym e) tt))
  one_line k n m due t s l x false e =
      let p : m - length (t ++ u) ≡ n - length t = omega (arith, length-append t u) in
      rw (lines-turn n due t, lines-turn m due (t ++ u), e, not_end due t u e, p)
      (then-extends u k (read_line due t) (read_line due (t ++ u)) (further n (n - length t)) (further m (n - length t)) (leaves-less k (length t) (read_line due t) l (line-eats due t))
      ((line-orderly due).extends t u) (further-skips n (n - length t)) (further-skips m (n - length t))
      (λ z r j. map-extends u (λ xs. starts (n - length t) z ∷ xs) (read_lines n (length r) (due_after z) r) (read_lines m (length (r ++ u)) (due_after z) (r ++ u)) (x z r j)))

  lines-extend : (k n : ℕ) (due : Due) (t : Bytes) → length t ≤ k
      → Extends u (read_lines n (length t) due t) (read_lines (n + length u) (length (t ++ u)) due (t ++ u))
  lines-extend zero n due t l = none_left n (n + length u) due t l
  lines-extend (suc k) n due t l = one_line k n (n + length u) due t refl l (λ z r j. lines-extend k n (due_after z) r j) (may_end due t) refl

-- ---- the header lines

pub head-orderly : {A : Type 0} (w : Bytes) (one : Bytes → Read A) → Orderly one → Orderly (head_line w one)
unfolding head_line
head-orderly w one o = then-orderly (λ s. then_read (word_only w s) (λ _ r. one r)) (then-orderly (word_only w) (word-only-orderly w) (λ _ r. one r) (λ _. o)) line_end line-end-orderly

pub ends-orderly : Orderly ends
unfolding ends
ends-orderly = range-orderly {B = ℕ × ℕ} number number-orderly (λ a b. (a, b))

-- ---- the whole text, of n bytes

-- what is read behind `label`: `budget` and `label` stand at p and q
unfoldable pub after-label : ℕ → ℕ → ℕ → ℕ → ℕ → ℕ × ℕ → Bytes → Read Text
after-label n limit p budget q label v = map_read (λ xs. record {
  header = record { limit = limit; budget = budget; label_low = label.0; label_high = label.1 };
  budget_at = p;
  label_at = q;
  lines = xs;
}) (read_lines n (length v) locks_due v)

unfoldable pub after-budget : ℕ → ℕ → ℕ → ℕ → Bytes → Read Text
after-budget n limit p budget t = then_read (head_line (bytes "label") ends t) (after-label n limit p budget (n - length t))

unfoldable pub after-limit : ℕ → ℕ → Bytes → Read Text
after-limit n limit r = then_read (head_line (bytes "budget") number r) (after-budget n limit (n - length r))

pub text_is : (s : Bytes) → read_text s ≡ then_read (head_line (bytes "limit") number s) (after-limit (length s))
unfolding read_text after-limit after-budget after-label
text_is s = refl

after-label-within : (n limit p budget q : ℕ) (label : ℕ × ℕ) → Shortens (after-label n limit p budget q label)
unfolding after-label
after-label-within n limit p budget q label v = map-within (length v) _ (read_lines n (length v) locks_due v) (lines-within n (length v) locks_due v)

after-budget-within : (n limit p budget : ℕ) → Shortens (after-budget n limit p budget)
unfolding after-budget
after-budget-within n limit p budget t =
    then-within (head_line (bytes "label") ends t) _ ((head-orderly (bytes "label") ends ends-orderly).shorter t)
    (λ label v l. on-rest (after-label n limit p budget (n - length t) label) (after-label-within n limit p budget (n - length t) label) v l)

after-limit-within : (n limit : ℕ) → Shortens (after-limit n limit)
unfolding after-limit
after-limit-within n limit r =
    then-within (head_line (bytes "budget") number r) _ ((head-orderly (bytes "budget") number number-orderly).shorter r)
    (λ budget t l. on-rest (after-budget n limit (n - length r) budget) (after-budget-within n limit (n - length r) budget) t l)

pub text-within : Shortens read_text
text-within s =
    rw (text_is s) (then-within (head_line (bytes "limit") number s) (after-limit (length s)) ((head-orderly (bytes "limit") number number-orderly).shorter s)
    (λ limit r l. on-rest (after-limit (length s) limit) (after-limit-within (length s) limit) r l))

pub after-label-skips : (n limit p budget q : ℕ) (label : ℕ × ℕ) → Skips (after-label n limit p budget q label)
unfolding after-label
after-label-skips n limit p budget q label v = map-past (length (spaces v)) _ (read_lines n (length v) locks_due v) (lines-skip n locks_due v)

pub after-budget-skips : (n limit p budget : ℕ) → Skips (after-budget n limit p budget)
unfolding after-budget
after-budget-skips n limit p budget t =
    then-past (length (spaces t)) (head_line (bytes "label") ends t) _ ((head-orderly (bytes "label") ends ends-orderly).skips t) (after-label-skips n limit p budget (n - length t))

pub after-limit-skips : (n limit : ℕ) → Skips (after-limit n limit)
unfolding after-limit
after-limit-skips n limit r =
    then-past (length (spaces r)) (head_line (bytes "budget") number r) _ ((head-orderly (bytes "budget") number number-orderly).skips r) (after-budget-skips n limit (n - length r))

module _ (u : Bytes) where
  -- a reader in front of the others
  ahead : {A : Type 0} (w : Bytes) (one : Bytes → Read A) → Orderly one → (f k : A → Bytes → Read Text) → ((a : A) → Skips (f a)) → ((a : A) → Skips (k a))
      → ((a : A) (r : Bytes) → Extends u (f a r) (k a (r ++ u))) → (t : Bytes) → Extends u (then_read (head_line w one t) f) (then_read (head_line w one (t ++ u)) k)
  ahead w one o f k i j x t =
      let h = head-orderly w one o in
      then-extends u (length t) (head_line w one t) (head_line w one (t ++ u)) f k (within-leaves (length t) (head_line w one t) (h.shorter t)) (h.extends t u) i j (λ a r l. x a r)

  after-label-extends : (n limit p budget q : ℕ) (label : ℕ × ℕ) (v : Bytes) → Extends u (after-label n limit p budget q label v) (after-label (n + length u) limit p budget q label (v ++ u))
  unfolding after-label
  after-label-extends n limit p budget q label v =
      map-extends u _ (read_lines n (length v) locks_due v) (read_lines (n + length u) (length (v ++ u)) locks_due (v ++ u)) (lines-extend u (length v) n locks_due v (le_refl (length v)))

  after-budget-extends : (n limit p budget : ℕ) (t : Bytes) → Extends u (after-budget n limit p budget t) (after-budget (n + length u) limit p budget (t ++ u))
  unfolding after-budget
  after-budget-extends n limit p budget t =
      rw (same_place u n t) (ahead (bytes "label") ends ends-orderly (after-label n limit p budget (n - length t)) (after-label (n + length u) limit p budget (n - length t))
      (after-label-skips n limit p budget (n - length t)) (after-label-skips (n + length u) limit p budget (n - length t)) (after-label-extends n limit p budget (n - length t)) t)

  after-limit-extends : (n limit : ℕ) (r : Bytes) → Extends u (after-limit n limit r) (after-limit (n + length u) limit (r ++ u))
  unfolding after-limit
  after-limit-extends n limit r =
      rw (same_place u n r) (ahead (bytes "budget") number number-orderly (after-budget n limit (n - length r)) (after-budget (n + length u) limit (n - length r))
      (after-budget-skips n limit (n - length r)) (after-budget-skips (n + length u) limit (n - length r)) (after-budget-extends n limit (n - length r)) r)

  pub text-extends : (t : Bytes) → Extends u (read_text t) (read_text (t ++ u))
  text-extends t =
      rw (text_is t, text_is (t ++ u), length-append t u)
      (ahead (bytes "limit") number number-orderly (after-limit (length t)) (after-limit (length t + length u)) (after-limit-skips (length t)) (after-limit-skips (length t + length u)) (after-limit-extends (length t)) t)
