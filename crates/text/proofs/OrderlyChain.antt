-- Signs that join, and operands joined by them, are read in order.
use mathlib.Core.Path.{◌≡◌, refl, ap}
use mathlib.Core.List.{List, [], ◌∷◌, ◌++◌}
use Prim.Native.Nat.{ℕ, zero, suc, ◌≤◌, ◌<◌}
use native.Mathlib.Nat.{le_refl}
use native.Mathlib.Decide.{dec_lt}
use native.Mathlib.Omega.{arith}
use lib.ListN.{length}
use Rattle.rules.specs.Format.{Bytes}
use Rattle.text.specs.Words.{Read, stop, took, then_read, spaces, Word, following, or_none, spell}
use Rattle.text.specs.Notation.{Link, joined, none_here, broken, linked, link, on_link, chain, from_left}
use Rattle.text.proofs.Within.{Within, Shortens, within_more, then-within, on-rest, spaces-shorten}
use Rattle.text.proofs.Turns.{LinkWithin, link_here, chain-within, chain-turn}
use Rattle.text.proofs.Orderly.{WithinPast, within-past, past_more, Skips, spaces-append, spaces-before-within, Extends, took-extends, end-extends, within-leaves, then-extends, Orderly, then-orderly}
use Rattle.text.proofs.OrderlyWords.{Always, spell-always}

-- ---- signs that join

-- how much is left behind a sign or where it is broken; it is none that is not there
abbrev LinkLeaves : {M : Type 0} → ℕ → Link M → Type 0
LinkLeaves n (joined m r) = length r ≤ n
LinkLeaves n none_here = ⊥
LinkLeaves n (broken r) = length r ≤ n

module _ (u : Bytes) where
  abbrev pub LinkExtends : {M : Type 0} → Link M → Link M → Type 0
  LinkExtends (joined m r) l = l ≡ joined m (r ++ u)
  LinkExtends none_here l = l ≡ none_here
  LinkExtends (broken r) l = (0 < length r → l ≡ broken (r ++ u)) × (length r ≤ 0 → LinkLeaves (length u) l)

  linked-leaves : {M : Type 0} (n : ℕ) (g : Read M) → Within n g → LinkLeaves n (linked g)
  unfolding linked
  linked-leaves n (stop r) h = h
  linked-leaves n (took m r) h = h

  linked-extends : {M : Type 0} (g h : Read M) → Always u g h → LinkExtends (linked g) (linked h)
  unfolding linked
  linked-extends (stop r) h e = (λ l. ap linked (e.0 l), λ l. linked-leaves (length u) h (e.1 l))
  linked-extends (took m r) h e = ap linked e

  none-link : {M B : Type 0} (xs : List B) (k l : Link M) → LinkExtends k l → LinkExtends (or_none xs none_here k) (or_none xs none_here l)
  unfolding or_none
  none-link [] k l h = refl
  none-link (z ∷ xs) k l h = h

  pub link-extends : {M : Type 0} (ws : List (Word M)) (t : Bytes) → 0 < length t → LinkExtends (link ws t) (link ws (t ++ u))
  unfolding link
  link-extends ws [] l = absurd (omega arith)
  link-extends ws (b ∷ t) l =
      none-link (following b ws) (linked (spell ws (b ∷ t))) (linked (spell ws (b ∷ t ++ u))) (linked-extends (spell ws (b ∷ t)) (spell ws (b ∷ t ++ u)) (spell-always u ws (b ∷ t)))

on-link-past : {M B : Type 0} (n : ℕ) (k : Link M) (d : Read B) (f : M → Bytes → Read B) → LinkWithin n k → WithinPast n d → ((m : M) → Shortens (f m))
    → WithinPast n (on_link k d f)
unfolding on_link
on-link-past n (joined m r) d f h p w = within-past n (f m r) (within_more (f m r) (omega arith) (w m r))
on-link-past n none_here d f h p w = p
on-link-past n (broken r) d f h p w = h

leaves-past : {M B : Type 0} (n : ℕ) (k : Link M) (d : Read B) (f : M → Bytes → Read B) → LinkLeaves n k → ((m : M) → Shortens (f m)) → WithinPast n (on_link k d f)
unfolding on_link
leaves-past n (joined m r) d f h w = within-past n (f m r) (within_more (f m r) h (w m r))
leaves-past n none_here d f h w = absurd h
leaves-past n (broken r) d f h w = h

-- ---- what is read behind a sign, or taken without one

module _ {M B : Type 0} (ws : List (Word M)) (a : B) (f : M → Bytes → Read B) (shorter : (m : M) → Shortens (f m)) where
  behind : Bytes → Read B
  behind s = on_link (link ws (spaces s)) (took a s) f

  pub behind-skips : (s : Bytes) → WithinPast (length (spaces s)) (on_link (link ws (spaces s)) (took a s) f)
  behind-skips s = on-link-past (length (spaces s)) (link ws (spaces s)) (took a s) f (link_here ws (spaces s)) (le_refl (length (spaces s))) shorter

  on-link-extends : (u t : Bytes) (n : ℕ) (k l : Link M) → LinkWithin n k → LinkExtends u k l → ((m : M) (r : Bytes) → length r < n → Extends u (f m r) (f m (r ++ u)))
      → Extends u (on_link k (took a t) f) (on_link l (took a (t ++ u)) f)
  unfolding on_link
  on-link-extends u t n (joined m r) l w e x = rw e (x m r w)
  on-link-extends u t n none_here l w e x = rw e (took-extends u a t)
  on-link-extends u t n (broken r) l w e x = (λ k. rw (e.0 k), λ k. leaves-past (length u) l (took a (t ++ u)) f (e.1 k) shorter)

  pub behind-extends : (t u : Bytes) → ((m : M) (r : Bytes) → length r < length t → Extends u (f m r) (f m (r ++ u)))
      → Extends u (on_link (link ws (spaces t)) (took a t) f) (on_link (link ws (spaces (t ++ u))) (took a (t ++ u)) f)
  unfolding behind
  behind-extends t u x = elim (dec_lt 0 (length (spaces t))) [
    | yes l ↦ let k = spaces-shorten t in
        rw (spaces-append t u l) (on-link-extends u t (length (spaces t)) (link ws (spaces t)) (link ws (spaces t ++ u)) (link_here ws (spaces t)) (link-extends u ws (spaces t) l)
        (λ m r j. x m r (omega arith)))
    | no l ↦ end-extends u (behind t) (behind (t ++ u)) (past_more (behind t) (omega arith) (behind-skips t))
        (past_more (behind (t ++ u)) (spaces-before-within t u (omega arith)) (behind-skips (t ++ u)))
  ]

-- ---- chains

module _ {A : Type 0} (ws : List (Word (A → A → A))) (one : Bytes → Read A) (o : Orderly one) where
  abbrev run : A → Bytes → Read A
  run a s = chain ws one (length s) a s

  onward-from : A → (A → A → A) → Bytes → Read A
  onward-from a f r = then_read (one r) (λ c t. run (f a c) t)

  onward-shorter : (a : A) (f : A → A → A) → Shortens (onward-from a f)
  unfolding onward-from
  onward-shorter a f r = then-within (one r) _ (o.shorter r) (λ c t l. on-rest (chain ws one (length t) (f a c)) (chain-within ws one o.shorter (length t) (f a c)) t l)

  run-turn : (a : A) (s : Bytes) → run a s ≡ on_link (link ws (spaces s)) (took a s) (onward-from a)
  unfolding onward-from
  run-turn a s = chain-turn ws one o.shorter a s

  run-skips : (a : A) → Skips (run a)
  run-skips a s = rw (run-turn a s) (behind-skips ws a (onward-from a) (onward-shorter a) s)

  run-extends : (n : ℕ) (a : A) (t u : Bytes) → length t ≤ n → Extends u (run a t) (run a (t ++ u))
  unfolding onward-from
  run-extends zero a t u l = rw (run-turn a t, run-turn a (t ++ u)) (behind-extends ws a (onward-from a) (onward-shorter a) t u (λ f r k. absurd (omega arith)))
  run-extends (suc n) a t u l = rw (run-turn a t, run-turn a (t ++ u)) (behind-extends ws a (onward-from a) (onward-shorter a) t u (λ f r k.
      then-extends u (length r) (one r) (one (r ++ u)) (λ c v. run (f a c) v) (λ c v. run (f a c) v) (within-leaves (length r) (one r) (o.shorter r)) (o.extends r u)
      (λ c. run-skips (f a c)) (λ c. run-skips (f a c))
      (λ c v j. run-extends n (f a c) v u (omega arith))))

  pub chain-orderly : (a : A) → Orderly (λ s. chain ws one (length s) a s)
  chain-orderly a = record {
    shorter = λ s. chain-within ws one o.shorter (length s) a s;
    skips = run-skips a;
    extends = λ t u. run-extends (length t) a t u (le_refl (length t));
  }

  pub from-left-orderly : Orderly (from_left ws one)
  unfolding from_left
  from-left-orderly = then-orderly one o (λ a r. chain ws one (length r) a r) chain-orderly
