-- Which of several words may stand: told by single letters, and then the one word is read.
use mathlib.Core.Path.{◌≡◌, refl, sym, ap, ◌∙◌}
use mathlib.Core.Bool.{Bool, true, false}
use mathlib.Core.List.{List, [], ◌∷◌}
use Prim.Native.Nat.{ℕ, zero, suc, ◌+◌, ◌≤◌}
use native.Mathlib.Omega.{arith}
use borrow.Author.Tests.{eq-eqb, ne_eqb}
use lib.Dec.{eqb}
use lib.ListN.{length, drop, get_or}
use lib.Seq.{get_or-drop}
use Rattle.rules.specs.Format.{Bytes}
use Rattle.rules.specs.Program.{Action, skip, store, load, unlock, lock}
use Rattle.text.specs.Words.{bytes, Read, stop, took, then_read, map_read, spaces, apart, name, Word, word, following, whole, or_none, or_whole, spell, keyword}
use Rattle.text.specs.Lines.{word_only, jump, transfer, actions}
use Rattle.scan.proofs.WordLaws.{map-apart, spell-map}
use Rattle.lines.specs.Writing.{word_of, action_of, ActionWord}
use Rattle.lines.specs.declared.actions.Opening.{Opening}
use Rattle.lines.specs.declared.actions.Opening.TheVariants as opening

-- ---- one word, whatever it stands for

apart-then : {A B : Type 0} (f : A → Bytes → Read B) (a : A) (g : Read (Unit {0}))
    → then_read (then_read (map_read (λ _. a) g) apart) f ≡ then_read (then_read g apart) (λ _ r. f a r)
unfolding then_read map_read
apart-then f a (stop r) = refl
apart-then f a (took _ r) = ap (λ x. then_read x f) (sym (map-apart (λ _. a) tt r)) ∙ kept (apart tt r)
  where
    kept : (g : Read (Unit {0})) → then_read (map_read (λ _. a) g) f ≡ then_read g (λ _ r. f a r)
    kept (stop u) = refl
    kept (took _ u) = refl

-- of several words this one decides, from a byte that is no space
pub one-decides : {B : Type 0} (ws : List (Word (Bytes → Read B))) (w : Bytes) (f : Bytes → Read B) (s : Bytes) → spaces s ≡ s
    → spell ws s ≡ spell (word w f ∷ []) s
    → then_read (keyword ws s) (λ g r. g r) ≡ then_read (word_only w s) (λ _ r. f r)
unfolding keyword word_only
one-decides ws w f s h e =
    ap (λ t. then_read (then_read (spell ws t) apart) (λ g r. g r)) h
    ∙ ap (λ x. then_read (then_read x apart) (λ g r. g r)) (e ∙ spell-map w f s)
    ∙ apart-then (λ g r. g r) f (spell (word w tt ∷ []) s)
    ∙ ap (λ t. then_read (then_read (spell (word w tt ∷ []) t) apart) (λ _ r. f r)) (sym h)

-- ---- by the first letter

module _ {A : Type 0} where
  same-following : (b : ℕ) (ws vs : List (Word A)) (s : Bytes) → following b ws ≡ following b vs → spell ws (b ∷ s) ≡ spell vs (b ∷ s)
  unfolding spell
  same-following b ws vs s e = rw e

  pub first-is : (b c : ℕ) (w : Bytes) (f : A) (ws : List (Word A)) (s : Bytes) → b ≡ c → following c ws ≡ []
      → spell (word (c ∷ w) f ∷ ws) (b ∷ s) ≡ spell (word (c ∷ w) f ∷ []) (b ∷ s)
  unfolding following
  first-is b c w f ws s e n = same-following b (word (c ∷ w) f ∷ ws) (word (c ∷ w) f ∷ []) s
      (rw (eq-eqb b c e) (ap (λ z. word w f ∷ z) (ap (λ z. following z ws) e ∙ n)))

  pub first-is-not : (b c : ℕ) (w : Bytes) (f : A) (ws : List (Word A)) (s : Bytes) → (b ≡ c → ⊥)
      → spell (word (c ∷ w) f ∷ ws) (b ∷ s) ≡ spell ws (b ∷ s)
  unfolding following
  first-is-not b c w f ws s n = same-following b (word (c ∷ w) f ∷ ws) ws s (rw (ne_eqb b c n))

-- ---- what a statement does

either_way : {P : Type 0} (b : Bool) → (b ≡ true → P) → (b ≡ false → P) → P
either_way true t f = t refl
either_way false t f = f refl

abbrev loads : Bytes → Read Action
loads = transfer (bytes "from") load

abbrev stores : Bytes → Read Action
stores = transfer (bytes "to") store

abbrev locks : Bytes → Read Action
locks = λ s. map_read lock (name (bytes "l") s)

abbrev skips : Bytes → Read Action
skips = λ s. took skip s

spelt-load : (t : Bytes) → get_or t 1 0 ≡ 97 → spell actions (108 ∷ t) ≡ spell (word (bytes "load") loads ∷ []) (108 ∷ t)
unfolding spell following actions or_none whole or_whole
spelt-load [] e = absurd (omega arith)
spelt-load (c ∷ []) e = absurd (omega arith)
spelt-load (c ∷ d ∷ u) e = either_way (eqb c 111) (λ h. rw (h, e)) (λ h. rw h)

spelt-lock : (t : Bytes) → (get_or t 1 0 ≡ 97 → ⊥) → spell actions (108 ∷ t) ≡ spell (word (bytes "lock") locks ∷ []) (108 ∷ t)
unfolding spell following actions or_none whole or_whole
spelt-lock [] n = refl
spelt-lock (c ∷ []) n = either_way (eqb c 111) (λ h. rw h) (λ h. rw h)
spelt-lock (c ∷ d ∷ u) n = either_way (eqb c 111) (λ h. rw (h, ne_eqb d 97 n)) (λ h. rw h)

spelt-store : (t : Bytes) → get_or t 0 0 ≡ 116 → spell actions (115 ∷ t) ≡ spell (word (bytes "store") stores ∷ []) (115 ∷ t)
unfolding spell following actions or_none whole or_whole
spelt-store [] e = absurd (omega arith)
spelt-store (c ∷ u) e = rw e

spelt-skip : (t : Bytes) → (get_or t 0 0 ≡ 116 → ⊥) → spell actions (115 ∷ t) ≡ spell (word (bytes "skip") skips ∷ []) (115 ∷ t)
unfolding spell following actions or_none whole or_whole
spelt-skip [] n = refl
spelt-skip (c ∷ u) n = rw (ne_eqb c 116 n)

spelt-none : (b : ℕ) (t : Bytes) → (b ≡ 105 → ⊥) → (b ≡ 117 → ⊥) → (b ≡ 108 → ⊥) → (b ≡ 115 → ⊥)
    → spell actions (b ∷ t) ≡ spell (word (bytes "skip") skips ∷ []) (b ∷ t)
unfolding following actions
spelt-none b t i u l s =
    same-following b actions (word (bytes "skip") skips ∷ []) t (rw (ne_eqb b 115 s, ne_eqb b 105 i, ne_eqb b 108 l, ne_eqb b 117 u))

-- bytes by their place
pub get_d-out : (s : Bytes) (q : ℕ) → length s ≤ q → get_or s q 0 ≡ 0
get_d-out [] q h = refl
get_d-out (b ∷ s) zero h = absurd (omega arith)
get_d-out (b ∷ s) (suc q) h = get_d-out s q (omega arith)

pub next-byte : (s : Bytes) (q i : ℕ) → get_or (drop (q + 1) s) i 0 ≡ get_or s (q + (i + 1)) 0
next-byte s q i = let e : q + 1 + i ≡ q + (i + 1) = omega arith in get_or-drop (q + 1) s i 0 ∙ ap (λ k. get_or s k 0) e

-- at a place in the text
module _ (s : Bytes) (q : ℕ) (b : ℕ) (t : Bytes) (h : drop q s ≡ b ∷ t) (k : spaces (drop q s) ≡ drop q s) where
  decides : (c : Opening) → spell actions (b ∷ t) ≡ spell (word (word_of c) (action_of c) ∷ []) (b ∷ t) → ActionWord (drop q s) c
  unfolding ActionWord
  decides c e = one-decides actions (word_of c) (action_of c) (drop q s) k (rw h e)

  pub decides-if : b ≡ 105 → ActionWord (drop q s) opening.If
  unfolding following actions
  decides-if e = decides opening.If (same-following b actions (word (bytes "if") jump ∷ []) t (rw e))

  pub decides-unlock : b ≡ 117 → ActionWord (drop q s) opening.Unlock
  unfolding following actions
  decides-unlock e = decides opening.Unlock
      (same-following b actions (word (bytes "unlock") (λ s. map_read unlock (name (bytes "l") s)) ∷ []) t (rw e))

  pub decides-load : b ≡ 108 → get_or t 1 0 ≡ 97 → ActionWord (drop q s) opening.Load
  decides-load e l = decides opening.Load (rw e (spelt-load t l))

  pub decides-lock : b ≡ 108 → (get_or t 1 0 ≡ 97 → ⊥) → ActionWord (drop q s) opening.Lock
  decides-lock e l = decides opening.Lock (rw e (spelt-lock t l))

  pub decides-store : b ≡ 115 → get_or t 0 0 ≡ 116 → ActionWord (drop q s) opening.Store
  decides-store e l = decides opening.Store (rw e (spelt-store t l))

  pub decides-skip : b ≡ 115 → (get_or t 0 0 ≡ 116 → ⊥) → ActionWord (drop q s) opening.Skip
  decides-skip e l = decides opening.Skip (rw e (spelt-skip t l))

  pub decides-none : (b ≡ 105 → ⊥) → (b ≡ 117 → ⊥) → (b ≡ 108 → ⊥) → (b ≡ 115 → ⊥) → ActionWord (drop q s) opening.Skip
  decides-none i u l m = decides opening.Skip (spelt-none b t i u l m)
