-- Operands joined by signs, read to the text's end, can be completed: also where a sign is begun.
use mathlib.Core.Path.{◌≡◌, refl, sym, ap, subst, ◌∙◌}
use mathlib.Core.List.{List, [], ◌∷◌, ◌++◌}
use Prim.Native.Nat.{ℕ, zero, suc, ◌≤◌, ◌<◌}
use native.Mathlib.Nat.{le_refl}
use native.Mathlib.Omega.{arith}
use lib.Dec.{T}
use lib.ListN.{length}
use Rattle.rules.specs.Base.{nil}
use Rattle.rules.specs.Format.{Bytes}
use Rattle.text.specs.Words.{Read, stop, took, then_read, spaces, Word, following, or_none, spell}
use Rattle.text.specs.Notation.{Link, joined, none_here, broken, linked, link, on_link, chain, from_left}
use Rattle.text.proofs.Chain.{NoLink, chain-over}
use Rattle.text.proofs.Within.{Shortens, then-within, on-rest, spaces-shorten}
use Rattle.text.proofs.Turns.{LinkWithin, link_here, chain-turn}
use Rattle.text.proofs.Orderly.{AtEnd, within-past, spaces-append, spaces-before, within-leaves, Orderly}
use Rattle.text.proofs.OrderlyChain.{LinkExtends, link-extends, chain-orderly}
use Rattle.text.proofs.Follows.{Anything, Blank}
use Rattle.text.proofs.Completes.{Completion, Fresh, Completable, led, read_by, then-later, then-completable, completes}
use Rattle.text.proofs.CompletesWords.{proper, StopsAtEnd, spelled}

-- ---- a sign that is begun

module _ {M : Type 0} (ws : List (Word M)) (r : Bytes) where
  linked-stops : (g : Read M) → linked g ≡ broken r → g ≡ stop r
  unfolding linked
  linked-stops (stop q) e = cc
  linked-stops (took m q) e = let z : ◌≡◌ {A = ℕ} 0 1 = cc in absurd (omega arith)

  next-stops : (b : ℕ) (v : Bytes) (next : List (Word M)) → or_none next none_here (linked (spell ws (b ∷ v))) ≡ broken r → spell ws (b ∷ v) ≡ stop r
  unfolding or_none
  next-stops b v [] e = let z : ◌≡◌ {A = ℕ} 0 1 = cc in absurd (omega arith)
  next-stops b v (x ∷ next) e = linked-stops (spell ws (b ∷ v)) e

  spell-stops : (v : Bytes) → link ws v ≡ broken r → spell ws v ≡ stop r
  unfolding link
  spell-stops [] e = let z : ◌≡◌ {A = ℕ} 0 1 = cc in absurd (omega arith)
  spell-stops (b ∷ v) e = next-stops b v (following b ws) e

  next-joins : (g h : Read M) (next : List (Word M)) → or_none next none_here (linked g) ≡ broken r → or_none next none_here (linked h) ≡ linked h
  unfolding or_none
  next-joins g h [] e = let z : ◌≡◌ {A = ℕ} 0 1 = cc in absurd (omega arith)
  next-joins g h (x ∷ next) e = refl

  -- with the rest of the sign behind it, it joins
  link-joins : (v w : Bytes) (m : M) (q : Bytes) → link ws v ≡ broken r → spell ws (v ++ w) ≡ took m q → link ws (v ++ w) ≡ joined m q
  unfolding link linked
  link-joins [] w m q e h = let z : ◌≡◌ {A = ℕ} 0 1 = cc in absurd (omega arith)
  link-joins (b ∷ v) w m q e h = next-joins (spell ws (b ∷ v)) (spell ws (b ∷ v ++ w)) (following b ws) e ∙ ap linked h

-- ---- what is read behind a sign, or taken without one

module _ {M B : Type 0} (ws : List (Word M)) (good : T (proper ws)) (a : B) (f : M → Bytes → Read B) (shorter : (m : M) → Shortens (f m)) where
  abbrev behind : Bytes → Read B
  behind s = on_link (link ws (spaces s)) (took a s) f

  pub behind-later : {S : Bytes → Type 0} {Good : B → Type 0} (t : Bytes) → 0 < length (spaces t) → ((m : M) (r : Bytes) → length r < length t → AtEnd (f m r) → Completion S Good (f m) r)
      → AtEnd (on_link (link ws (spaces t)) (took a t) f) → Completion S Good (λ s. on_link (link ws (spaces s)) (took a s) f) t
  unfolding on_link
  behind-later {S} {Good} t l x e = by (link ws (spaces t)) refl e
    where
      short : length (spaces t) ≤ length t
      short = spaces-shorten t

      by : (k : Link M) → link ws (spaces t) ≡ k → AtEnd (on_link k (took a t) f) → Completion S Good behind t
      by (joined m r) q e =
          let n = subst (LinkWithin (length (spaces t))) q (link_here ws (spaces t)) in
          let k = short in
          let goes : (w : Bytes) → link ws (spaces (t ++ w)) ≡ joined m (r ++ w) =
          λ w. ap (link ws) (spaces-append t w l) ∙ subst (λ (k : Link M). LinkExtends w k (link ws (spaces t ++ w))) q (link-extends w ws (spaces t) l) in
          read_by behind t (λ w. rw (goes w)) (x m r (omega arith) e)
      by none_here q e = absurd (omega arith)
      by (broken r) q e =
          let k = short in
          let s = spelled (spaces t) ws good (subst StopsAtEnd (sym (spell-stops ws r (spaces t) q)) e) in
          let m = s.value in
          let goes : (w : Bytes) → link ws (spaces (t ++ (s.more ++ w))) ≡ joined m w =
          λ w. ap (link ws) (spaces-append t (s.more ++ w) l) ∙ link-joins ws r (spaces t) (s.more ++ w) m w q (s.reads w) in
          led behind t s.more s.letters (λ w. rw (goes w)) (x m [] (omega arith) (within-past 0 (f m []) (shorter m [])))

-- ---- chains

-- S keeps signs of this chain from what follows
module _ {A : Type 0} {S Q : Bytes → Type 0} (ws : List (Word (A → A → A))) (good : T (proper ws)) (silent : (u : Bytes) → S u → NoLink ws u) (one : Bytes → Read A) (o : Orderly one)
    (c : Completable S Q Anything one) where
  abbrev run : A → Bytes → Read A
  run a s = chain ws one (length s) a s

  abbrev onward-from : A → (A → A → A) → Bytes → Read A
  onward-from a m r = then_read (one r) (λ b v. run (m a b) v)

  onward-shorter : (a : A) (m : A → A → A) → Shortens (onward-from a m)
  onward-shorter a m r = then-within (one r) _ (o.shorter r) (λ b v l. on-rest (run (m a b)) (chain-orderly ws one o (m a b)).shorter v l)

  run-fresh : (a : A) (t : Bytes) → Blank t → Fresh S S Anything (run a) t
  run-fresh a t l = record {
    completion = record {
      more = [];
      letters = nil;
      value = a;
      rest = t;
      blank = l;
      holds = tt;
      reads = λ u s. chain-over ws one (length (t ++ u)) a (t ++ u) (ap (link ws) (spaces-before t u l) ∙ silent u s);
    };
    before = λ u s. s;
  }

  turned : (a : A) (t : Bytes) → Completion S Anything (λ s. on_link (link ws (spaces s)) (took a s) (onward-from a)) t → Completion S Anything (run a) t
  turned a t d = read_by (run a) t (λ w. chain-turn ws one o.shorter a (t ++ w)) d

  run-later : (n : ℕ) (a : A) (t : Bytes) → length t ≤ n → 0 < length (spaces t) → AtEnd (run a t) → Completion S Anything (run a) t
  run-later zero a t l k e = let j = spaces-shorten t in absurd (omega arith)
  run-later (suc n) a t l k e =
      turned a t (behind-later ws good a (onward-from a) (onward-shorter a) {S = S} {Good = Anything} t k (λ m r j x.
      then-later one (λ b v. run (m a b) v) (λ b _ v i. run-fresh (m a b) v i) (λ _ v. length v ≤ length r) r (one r) (within-leaves (length r) (one r) (o.shorter r)) (o.extends r) (completes one c r)
      (λ b v i q z. run-later n (m a b) v (omega arith) q z) x) (subst AtEnd (chain-turn ws one o.shorter a t) e))

  pub chain-completable : (a : A) → Completable S S Anything (λ s. chain ws one (length s) a s)
  chain-completable a = record { later = λ t l e. run-later (length t) a t (le_refl (length t)) l e; fresh = run-fresh a }

  pub from-left-completable : Completable S Q Anything (from_left ws one)
  unfolding from_left
  from-left-completable = then-completable one (λ a r. chain ws one (length r) a r) (λ a _ r l. run-fresh a r l) (λ a r l e. (chain-completable a).later r l e) o c
