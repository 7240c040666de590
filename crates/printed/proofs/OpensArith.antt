-- How many `(` printed arithmetic has at each place, and that no text which reads as it has fewer.
use mathlib.Core.Path.{◌≡◌, refl}
use mathlib.Core.Bool.{Bool, true, false}
use mathlib.Core.List.{List, [], ◌∷◌, ◌++◌}
use Prim.Native.Nat.{ℕ, zero, suc, ◌+◌, ◌≤◌}
use native.Mathlib.Nat.{le_refl}
use native.Mathlib.Omega.{arith}
use borrow.Author.Tests.{lt-ltb, le-ltb}
use lib.Dec.{T, ltb, eqb, ltb→lt}
use lib.IntN.{ℤ, pos}
use lib.ListN.{length}
use Rattle.rules.specs.Format.{Bytes}
use Rattle.rules.specs.Product.{bytes}
use Rattle.rules.specs.Interval.{Operator, plus, minus, times, divide}
use Rattle.rules.specs.Program.{Arith, constant, register, operation}
use Rattle.rules.proofs.Base.{if-ind, not-both}
use Rattle.text.specs.Words.{Read, map_read, spaces, digits, number, negative, Word, following, or_none}
use Rattle.text.specs.Notation.{Link, joined, none_here, broken, linked, link, on_link, products, sums, chain, from_left, product, sum, operand, closed, too_deep, factor, read_sum, most_parentheses}
use Rattle.text.proofs.LinesWithin.{Mean, no_words, one_word, Took, spell-took}
use Rattle.printed.specs.Print.{in_parentheses, binding, sign, print_arith}
use Rattle.printed.specs.Claims.{opens}
use Rattle.printed.proofs.Opens.{opens-append, opens-more, decimal-opens, value-opens, Leaving, stops, takes, Costs, Takes, free, then-leaving, map-leaving, of-more, on-left, past-spaces, spaces-open, digits-take, number-takes, spell-takes, symbol-takes}

-- ---- parentheses of a printed text

pub wrapped-opens : (s : Bytes) → opens (in_parentheses true s) ≡ suc (opens s)
unfolding in_parentheses opens
wrapped-opens s = let e = opens-append s (41 ∷ []) in omega arith

-- one pair at most
pub pair-opens : (p q : Bool) (s : Bytes) → opens (in_parentheses p s) ≤ suc (opens (in_parentheses q s))
unfolding in_parentheses
pair-opens true true s = omega arith
pair-opens true false s = let e = wrapped-opens s in omega arith
pair-opens false true s = let e = wrapped-opens s in omega arith
pair-opens false false s = omega arith

-- no fewer where they must stand
pub asked-opens : (p q : Bool) (s : Bytes) → (T p → T q) → opens (in_parentheses p s) ≤ opens (in_parentheses q s)
unfolding in_parentheses
asked-opens true true s f = le_refl _
asked-opens true false s f = absurd (f tt)
asked-opens false true s f = let e = wrapped-opens s in omega arith
asked-opens false false s f = le_refl _

-- how many `(` a tree needs at a place
abbrev pub needs_at : ℕ → Arith → ℕ
needs_at p a = opens (print_arith p a)

pub place-next : (p : ℕ) (a : Arith) → needs_at p a ≤ needs_at (suc p) a
unfolding print_arith
place-next p (constant z) = le_refl _
place-next p (register r) = le_refl _
place-next p (operation o a b) =
    asked-opens (ltb (binding o) p) (ltb (binding o) (suc p)) _ (λ t. let l = ltb→lt (binding o) p t in below (binding o) (suc p) (omega arith))
  where
    below : (m n : ℕ) → suc m ≤ n → T (ltb m n)
    below m n l = rw (lt-ltb m n l) tt

pub place-any : (p q : ℕ) (a : Arith) → needs_at p a ≤ suc (needs_at q a)
unfolding print_arith
place-any p q (constant z) = omega arith
place-any p q (register r) = omega arith
place-any p q (operation o a b) = pair-opens (ltb (binding o) p) (ltb (binding o) q) _

sign-opens : (o : Operator) → opens (sign o) ≡ 0
unfolding opens
sign-opens plus = refl
sign-opens minus = refl
sign-opens times = refl
sign-opens divide = refl

-- two operands and the sign between them
joined-opens : (o : Operator) (s t : Bytes) → opens (s ++ (sign o ++ t)) ≡ opens s + opens t
joined-opens o s t = let a = opens-append s (sign o ++ t) in let b = opens-append (sign o) t in let c = sign-opens o in omega arith

-- ---- signs that join

pub data Linking {M : Type 0} (P : M → Type 0) (n : ℕ) : Link M → Type 0 where
  links : (m : M) (r : Bytes) → P m → opens r ≤ n → Linking P n (joined m r)
  links_none : Linking P n none_here
  links_broken : (r : Bytes) → Linking P n (broken r)

linked-links : {M : Type 0} (P : M → Type 0) (n : ℕ) {g : Read M} → Costs free n g → Took P g → Linking P n (linked g)
unfolding linked
linked-links P n (stops r) k = links_broken r
linked-links P n (takes m r h) k = links m r k (omega arith)

none-links : {M B : Type 0} {P : M → Type 0} {n : ℕ} (xs : List B) {x : Link M} → Linking P n x → Linking P n (or_none xs none_here x)
unfolding or_none
none-links [] h = links_none
none-links (b ∷ xs) h = h

pub link-takes : {M : Type 0} (P : M → Type 0) (ws : List (Word M)) → Mean P ws → (s : Bytes) → Linking P (opens s) (link ws s)
unfolding link
link-takes P ws f [] = links_none
link-takes P ws f (b ∷ s) = none-links (following b ws) (linked-links P (opens (b ∷ s)) (spell-takes ws (b ∷ s)) (spell-took P ws f (b ∷ s)))

pub on-link : {M B : Type 0} {P : M → Type 0} {Q : B → Bytes → Type 0} {n : ℕ} {x : Link M} {e : Read B} (f : M → Bytes → Read B)
    → Linking P n x → Leaving Q e → ((m : M) (r : Bytes) → P m → opens r ≤ n → Leaving Q (f m r)) → Leaving Q (on_link x e f)
unfolding on_link
on-link f (links m r p l) h k = k m r p l
on-link f links_none h k = h
on-link f (links_broken r) h k = stops r

-- ---- operands from left to right: what is read so far needs `whole`, one more operand `one`

module _ {A : Type 0} (whole one : A → ℕ) (ws : List (Word (A → A → A))) (operand : Bytes → Read A)
    (joins : Mean (λ f. (a b : A) → whole (f a b) ≤ whole a + one b) ws) (costs : Takes one operand) where
  pub chain-takes : (n : ℕ) (a : A) (s : Bytes) (m : ℕ) → opens s + whole a ≤ m → Costs whole m (chain ws operand n a s)
  unfolding chain
  chain-takes zero a s m l = takes a s l
  chain-takes (suc n) a s m l =
      on-link _ (link-takes _ ws joins (spaces s)) (takes a s l) (λ f r p k.
      then-leaving _ (costs r) (λ b t h.
      let i = spaces-open s in
      let j = p a b in
      chain-takes n (f a b) t m (omega arith)))

  pub from-left-takes : ((a : A) → whole a ≤ one a) → Takes whole (from_left ws operand)
  unfolding from_left
  from-left-takes least s = then-leaving _ (costs s) (λ a r h. let k = least a in chain-takes (length r) a r (opens s) (omega arith))

-- ---- arithmetic

-- an operation needs no parentheses where its own binding may stand
operation-needs : (o : Operator) (a b : Arith) → needs_at (binding o) (operation o a b) ≤ needs_at (binding o) a + needs_at (suc (binding o)) b
unfolding print_arith in_parentheses
operation-needs o a b =
    let e = joined-opens o (print_arith (binding o) a) (print_arith (suc (binding o)) b) in
    rw (le-ltb (binding o) (binding o) (le_refl _)) (omega arith)

products-need : Mean (λ f. (a b : Arith) → needs_at 2 (f a b) ≤ needs_at 2 a + needs_at 3 b) products
unfolding products
products-need = one_word (operation-needs times) (one_word (operation-needs divide) no_words)

sums-need : Mean (λ f. (a b : Arith) → needs_at 1 (f a b) ≤ needs_at 1 a + needs_at 2 b) sums
unfolding sums
sums-need = one_word (operation-needs plus) (one_word (operation-needs minus) no_words)

module _ (reader : Bytes → Read Arith) (costs : Takes (needs_at 3) reader) where
  pub products-take : (n : ℕ) (a : Arith) (s : Bytes) (m : ℕ) → opens s + needs_at 3 a ≤ m → Costs (needs_at 2) m (chain products reader n a s)
  products-take n a s m l = let k = place-next 2 a in chain-takes (needs_at 2) (needs_at 3) products reader products-need costs n a s m (omega arith)

  product-takes : Takes (needs_at 2) (product reader)
  unfolding product
  product-takes s = from-left-takes (needs_at 2) (needs_at 3) products reader products-need costs (place-next 2) s

  pub sums-take : (n : ℕ) (a : Arith) (s : Bytes) (m : ℕ) → opens s + needs_at 2 a ≤ m → Costs (needs_at 1) m (chain sums (product reader) n a s)
  sums-take n a s m l = let k = place-next 1 a in chain-takes (needs_at 1) (needs_at 2) sums (product reader) sums-need product-takes n a s m (omega arith)

  pub sum-takes : Takes (needs_at 1) (sum reader)
  unfolding sum
  sum-takes s = from-left-takes (needs_at 1) (needs_at 2) sums (product reader) sums-need product-takes (place-next 1) s

-- what `(` began, closed: its value needs one more where it stands than inside
pub closed-takes : {A : Type 0} {inner outer : A → ℕ} {n : ℕ} {g : Read A} → ((a : A) → outer a ≤ suc (inner a)) → Costs inner n g → Costs outer (suc n) (closed g)
unfolding closed
closed-takes f h =
    then-leaving _ h (λ a r l. then-leaving _ (symbol-takes (bytes ")") r) (λ _ t k. let i = f a in takes a t (omega arith)))

-- what an opening parenthesis leads to, which is counted with it
abbrev pub Inside : {A : Type 0} → (A → ℕ) → (Bytes → Read A) → Type 0
Inside need inside = (s : Bytes) → Costs need (suc (opens s)) (inside s)

pub too-deep-takes : {A : Type 0} (need : A → ℕ) → Inside need (λ r. too_deep r)
unfolding too_deep
too-deep-takes need s = stops (40 ∷ s)

-- behind `(`
pub opened : (b : ℕ) (s : Bytes) → T (eqb b 40) → suc (opens s) ≤ opens (b ∷ s)
unfolding opens
opened b s t = if-ind (eqb b 40) (suc (opens s)) (opens s) (λ n. suc (opens s) ≤ n) (λ _. le_refl _) (λ f. absurd (not-both (eqb b 40) f t))

-- a constant or a register
leaf-takes : {n : ℕ} (f : ℕ → Arith) {g : Read ℕ} → ((k : ℕ) → needs_at 3 (f k) ≡ 0) → Costs free n g → Costs (needs_at 3) n (map_read f g)
leaf-takes f e h = map-leaving _ f h (λ a r l. let k = e a in omega arith)

constant-needs : (z : ℤ) → needs_at 3 (constant z) ≡ 0
unfolding print_arith
constant-needs z = value-opens z

register-needs : (r : ℕ) → needs_at 3 (register r) ≡ 0
unfolding print_arith opens
register-needs r = decimal-opens r

operand-takes : (inside : Bytes → Read Arith) → Inside (needs_at 3) inside → Takes (needs_at 3) (operand inside)
unfolding operand
operand-takes inside h [] = stops []
operand-takes inside h (b ∷ s) =
    let n = opens (b ∷ s) in
    let fewer = opens-more b s in
    if-ind (eqb b 40) (inside s) _ (Costs (needs_at 3) n) (λ t. of-more (needs_at 3) (opened b s t) (h s)) (λ _.
    if-ind (eqb b 45) (map_read (λ k. constant (negative k)) (number s)) _ (Costs (needs_at 3) n)
    (λ _. leaf-takes (λ k. constant (negative k)) (λ k. constant-needs (negative k)) (on-left free number-takes s fewer)) (λ _.
    if-ind (eqb b 114) (map_read register (digits s)) (map_read (λ k. constant (pos k)) (digits (b ∷ s))) (Costs (needs_at 3) n)
    (λ _. leaf-takes register register-needs (on-left free digits-take s fewer))
    (λ _. leaf-takes (λ k. constant (pos k)) (λ k. constant-needs (pos k)) (digits-take (b ∷ s)))))

pub factor-takes : (d : ℕ) → Takes (needs_at 3) (factor d)
unfolding factor
factor-takes zero s = past-spaces (needs_at 3) (operand-takes _ (too-deep-takes (needs_at 3))) s
factor-takes (suc d) s =
    past-spaces (needs_at 3) (operand-takes _ (λ r. closed-takes (place-any 3 1) (sum-takes (factor d) (factor-takes d) r))) s

pub read-sum-takes : Takes (needs_at 1) read_sum
unfolding read_sum
read-sum-takes s = sum-takes (factor most_parentheses) (factor-takes most_parentheses) s
