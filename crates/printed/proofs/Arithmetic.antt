-- Printed arithmetic reads back as the same tree, whatever follows that cannot go on with it, with as many parentheses to open
-- as the tree nests deep.
use mathlib.Core.Path.{◌≡◌, refl, ap, ◌∙◌}
use mathlib.Core.Bool.{true}
use mathlib.Core.List.{[], ◌∷◌, ◌++◌, append_assoc}
use Prim.Native.Nat.{ℕ, zero, suc, ◌≤◌, ◌<◌, max}
use native.Mathlib.Omega.{arith}
use lib.Dec.{T}
use lib.IntN.{ℤ, pos, negsuc}
use lib.ListN.{length, length-append}
use Rattle.rules.specs.Format.{Bytes}
use Rattle.rules.specs.Product.{decimal}
use Rattle.rules.specs.Interval.{Operator, plus, minus, times, divide}
use Rattle.rules.specs.Program.{Arith, constant, register, operation}
use Rattle.text.specs.Words.{Read, took, then_read, map_read, is_digit, is_letter, spaces, digits, number, negative, following, whole, or_none, or_whole, spell, symbol}
use Rattle.text.specs.Notation.{joined, linked, link, products, sums, from_left, product, sum, operand, closed, factor}
use Rattle.text.proofs.Chain.{NoLink}
use Rattle.text.proofs.Follows.{word_ends, Calm}
use Rattle.text.proofs.CompletesNumbers.{numeral-over}
use Rattle.text.proofs.CompletesArith.{no-product, no-sum}
use Rattle.printed.specs.Print.{print_value, in_parentheses, print_arith, any_arith}
use Rattle.printed.proofs.Numbers.{decimal-led, digit-is-not, number-reads, digits-read}
use Rattle.printed.proofs.Upto.{Upto, upto-first, upto_next, upto-over}

-- how deep a tree nests: a leaf is one deep
unfoldable pub nesting : Arith → ℕ
nesting (constant z) = 1
nesting (register r) = 1
nesting (operation o a b) = suc (max (nesting a) (nesting b))

-- ---- what a factor may be

pub factor-space : (d : ℕ) (s : Bytes) → factor d (32 ∷ s) ≡ factor d s
unfolding factor spaces
factor-space zero s = refl
factor-space (suc d) s = refl

product-space : (d : ℕ) (s : Bytes) → product (factor d) (32 ∷ s) ≡ product (factor d) s
unfolding product from_left
product-space d s = rw (factor-space d s)

constant-operand : (inside : Bytes → Read Arith) (z : ℤ) (rest : Bytes) → T (word_ends rest) → operand inside (spaces (print_value z ++ rest)) ≡ took (constant z) rest
unfolding operand number spaces print_value digits map_read negative is_digit
constant-operand inside (pos n) rest h =
    decimal-led (λ s. operand inside (spaces s)) (map_read (λ k. constant (pos k)))
    (λ b t d. rw (digit-is-not b 32 d refl, digit-is-not b 40 d refl, digit-is-not b 45 d refl, digit-is-not b 114 d refl, d)) n rest
    ∙ ap (map_read (λ k. constant (pos k))) (numeral-over n rest h)
constant-operand inside (negsuc n) rest h = ap (map_read (λ k. constant (negative k))) (number-reads (suc n) rest h)

register-operand : (inside : Bytes → Read Arith) (r : ℕ) (rest : Bytes) → T (word_ends rest) → operand inside (spaces (114 ∷ (decimal r ++ rest))) ≡ took (register r) rest
unfolding operand spaces map_read
register-operand inside r rest h = ap (map_read register) (digits-read r rest h)

constant-factor : (d : ℕ) (z : ℤ) (rest : Bytes) → T (word_ends rest) → factor d (print_value z ++ rest) ≡ took (constant z) rest
unfolding factor
constant-factor zero z rest h = constant-operand _ z rest h
constant-factor (suc d) z rest h = constant-operand _ z rest h

register-factor : (d r : ℕ) (rest : Bytes) → T (word_ends rest) → factor d (114 ∷ (decimal r ++ rest)) ≡ took (register r) rest
unfolding factor
register-factor zero r rest h = register-operand _ r rest h
register-factor (suc d) r rest h = register-operand _ r rest h

pub closes : {A : Type 0} (g : Read A) (a : A) (rest : Bytes) → g ≡ took a (41 ∷ rest) → closed g ≡ took a rest
unfolding closed symbol then_read spaces spell following whole or_none or_whole
closes g a rest h = rw h

group-factor : (d : ℕ) (t : Bytes) (a : Arith) (rest : Bytes) → sum (factor d) (t ++ 41 ∷ rest) ≡ took a (41 ∷ rest) → factor (suc d) (in_parentheses true t ++ rest) ≡ took a rest
unfolding factor operand spaces in_parentheses
group-factor d t a rest h = rw (append_assoc t (41 ∷ []) rest) (closes _ a rest h)

-- ---- the three readers on the three printed forms of a tree that nests n deep

pub record ReadsAs (n : ℕ) (a : Arith) (s p f : Bytes) : Type 0 where
  pub some_depth : 1 ≤ n
  pub by_factor : (d : ℕ) → n ≤ suc d → (rest : Bytes) → T (word_ends rest) → factor d (f ++ rest) ≡ took a rest
  pub by_product : (d : ℕ) → n ≤ suc d → (rest : Bytes) → T (word_ends rest) → Upto products (factor d) (p ++ rest) a rest
  pub by_sum : (d : ℕ) → n ≤ suc d → (rest : Bytes) → T (word_ends rest) → NoLink products rest → Upto sums (product (factor d)) (s ++ rest) a rest

product-over : (d : ℕ) (s : Bytes) (a : Arith) (rest : Bytes) → Upto products (factor d) s a rest → NoLink products rest → product (factor d) s ≡ took a rest
unfolding product
product-over d s a rest x h = upto-over products (factor d) s a rest x h

sum_over : (d : ℕ) (s : Bytes) (a : Arith) (rest : Bytes) → Upto sums (product (factor d)) s a rest → NoLink sums rest → sum (factor d) s ≡ took a rest
unfolding sum
sum_over d s a rest x h = upto-over sums (product (factor d)) s a rest x h

-- a leaf is printed alike for each
leaf-reads : (a : Arith) (t : Bytes) → ((d : ℕ) (rest : Bytes) → T (word_ends rest) → factor d (t ++ rest) ≡ took a rest) → ReadsAs 1 a t t t
leaf-reads a t h = record {
  some_depth = omega arith;
  by_factor = λ d n rest e. h d rest e;
  by_product = λ d n rest e. upto-first products (factor d) (t ++ rest) a rest (h d rest e);
  by_sum = λ d n rest e k. upto-first sums (product (factor d)) (t ++ rest) a rest
      (product-over d (t ++ rest) a rest (upto-first products (factor d) (t ++ rest) a rest (h d rest e)) k);
}

-- a sign and what follows it are longer than the rest
sign-length : (c : ℕ) (t rest : Bytes) → length rest < length (32 ∷ c ∷ 32 ∷ (t ++ rest))
sign-length c t rest = let e = length-append t rest in omega arith

module _ (o : Operator) (c : ℕ) (x y : Arith) (sx px fx sy py fy : Bytes) (n m : ℕ)
    (on-x : ReadsAs n x sx px fx) (on-y : ReadsAs m y sy py fy) where
  -- what is read in parentheses where they may open
  in-parentheses : (t : Bytes) → ((d : ℕ) → max n m ≤ suc d → (rest : Bytes) → sum (factor d) (t ++ 41 ∷ rest) ≡ took (operation o x y) (41 ∷ rest))
      → (d : ℕ) → suc (max n m) ≤ suc d → (rest : Bytes) → factor d (in_parentheses true t ++ rest) ≡ took (operation o x y) rest
  in-parentheses t h zero l rest = let p = on-x.some_depth in absurd (omega arith)
  in-parentheses t h (suc d) l rest = group-factor d t (operation o x y) rest (h d (omega arith) rest)

  -- two terms of a sum
  module _ (joins : (u : Bytes) → link sums (spaces (32 ∷ c ∷ u)) ≡ joined (operation o) u)
      (apart_from : (u : Bytes) → NoLink products (32 ∷ c ∷ u)) where
    terms : (d : ℕ) → max n m ≤ suc d → (rest : Bytes) → T (word_ends rest) → NoLink products rest
        → Upto sums (product (factor d)) (sx ++ (32 ∷ c ∷ 32 ∷ py) ++ rest) (operation o x y) rest
    unfolding is_digit is_letter word_ends
    terms d l rest e k =
        rw (append_assoc sx (32 ∷ c ∷ 32 ∷ py) rest)
        (upto_next sums (product (factor d)) (sx ++ (32 ∷ c ∷ 32 ∷ (py ++ rest))) x y (operation o) (32 ∷ c ∷ 32 ∷ (py ++ rest)) (32 ∷ (py ++ rest)) rest
        (on-x.by_sum d (omega arith) (32 ∷ c ∷ 32 ∷ (py ++ rest)) tt (apart_from _))
        (joins _)
        (product-space d (py ++ rest) ∙ product-over d (py ++ rest) y rest (on-y.by_product d (omega arith) rest e) k)
        (sign-length c py rest))

    sum-reads : ReadsAs (suc (max n m)) (operation o x y) (sx ++ (32 ∷ c ∷ 32 ∷ py)) (in_parentheses true (sx ++ (32 ∷ c ∷ 32 ∷ py))) (in_parentheses true (sx ++ (32 ∷ c ∷ 32 ∷ py)))
    unfolding is_digit is_letter word_ends link spaces sums products following or_none
    sum-reads =
        let t = sx ++ (32 ∷ c ∷ 32 ∷ py) in
        let inner : (d : ℕ) → suc (max n m) ≤ suc d → (rest : Bytes) → factor d (in_parentheses true t ++ rest) ≡ took (operation o x y) rest
        = in-parentheses t (λ d l rest. sum_over d (t ++ 41 ∷ rest) (operation o x y) (41 ∷ rest) (terms d l (41 ∷ rest) tt refl) refl) in
        record {
          some_depth = omega arith;
          by_factor = λ d l rest e. inner d l rest;
          by_product = λ d l rest e. upto-first products (factor d) (in_parentheses true t ++ rest) (operation o x y) rest (inner d l rest);
          by_sum = λ d l rest e k. terms d (omega arith) rest e k;
        }

  -- two factors of a product
  module _ (joins : (u : Bytes) → link products (spaces (32 ∷ c ∷ u)) ≡ joined (operation o) u) where
    factors : (d : ℕ) → max n m ≤ suc d → (rest : Bytes) → T (word_ends rest)
        → Upto products (factor d) (px ++ (32 ∷ c ∷ 32 ∷ fy) ++ rest) (operation o x y) rest
    unfolding is_digit is_letter word_ends
    factors d l rest e =
        rw (append_assoc px (32 ∷ c ∷ 32 ∷ fy) rest)
        (upto_next products (factor d) (px ++ (32 ∷ c ∷ 32 ∷ (fy ++ rest))) x y (operation o) (32 ∷ c ∷ 32 ∷ (fy ++ rest)) (32 ∷ (fy ++ rest)) rest
        (on-x.by_product d (omega arith) (32 ∷ c ∷ 32 ∷ (fy ++ rest)) tt)
        (joins _)
        (factor-space d (fy ++ rest) ∙ on-y.by_factor d (omega arith) rest e)
        (sign-length c fy rest))

    as-term : (d : ℕ) → max n m ≤ suc d → (rest : Bytes) → T (word_ends rest) → NoLink products rest
        → Upto sums (product (factor d)) (px ++ (32 ∷ c ∷ 32 ∷ fy) ++ rest) (operation o x y) rest
    as-term d l rest e k =
        let t = px ++ (32 ∷ c ∷ 32 ∷ fy) in
        upto-first sums (product (factor d)) (t ++ rest) (operation o x y) rest (product-over d (t ++ rest) (operation o x y) rest (factors d l rest e) k)

    product-reads : ReadsAs (suc (max n m)) (operation o x y) (px ++ (32 ∷ c ∷ 32 ∷ fy)) (px ++ (32 ∷ c ∷ 32 ∷ fy)) (in_parentheses true (px ++ (32 ∷ c ∷ 32 ∷ fy)))
    unfolding is_digit is_letter word_ends link spaces sums products following or_none
    product-reads =
        let t = px ++ (32 ∷ c ∷ 32 ∷ fy) in
        record {
          some_depth = omega arith;
          by_factor = λ d l rest e. in-parentheses t (λ k l rest. sum_over k (t ++ 41 ∷ rest) (operation o x y) (41 ∷ rest) (as-term k l (41 ∷ rest) tt refl) refl) d l rest;
          by_product = λ d l rest e. factors d (omega arith) rest e;
          by_sum = λ d l rest e k. as-term d (omega arith) rest e k;
        }

-- ---- every tree

pub arith-reads : (a : Arith) → ReadsAs (nesting a) a (print_arith 1 a) (print_arith 2 a) (print_arith 3 a)
unfolding nesting print_arith in_parentheses link linked spaces sums products following whole or_none or_whole spell
arith-reads (constant z) = leaf-reads (constant z) (print_value z) (λ d rest e. constant-factor d z rest e)
arith-reads (register r) = leaf-reads (register r) (114 ∷ decimal r) (λ d rest e. register-factor d r rest e)
arith-reads (operation plus a b) = sum-reads plus 43 a b _ _ _ _ _ _ _ _ (arith-reads a) (arith-reads b) (λ u. refl) (λ u. refl)
arith-reads (operation minus a b) = sum-reads minus 45 a b _ _ _ _ _ _ _ _ (arith-reads a) (arith-reads b) (λ u. refl) (λ u. refl)
arith-reads (operation times a b) = product-reads times 42 a b _ _ _ _ _ _ _ _ (arith-reads a) (arith-reads b) (λ u. refl)
arith-reads (operation divide a b) = product-reads divide 47 a b _ _ _ _ _ _ _ _ (arith-reads a) (arith-reads b) (λ u. refl)

pub sum-reads-back : (d : ℕ) (a : Arith) (rest : Bytes) → nesting a ≤ suc d → Calm rest → sum (factor d) (print_arith any_arith a ++ rest) ≡ took a rest
sum-reads-back d a rest l h =
    sum_over d (print_arith any_arith a ++ rest) a rest ((arith-reads a).by_sum d l rest h.word_ends_lem (no-product rest h)) (no-sum rest h)
