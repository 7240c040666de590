-- A line of numbers: written one behind the other, and its length; and the line of a refusal.
use mathlib.Core.Path.{◌≡◌, ◌∙◌}
use mathlib.Core.List.{List, [], ◌∷◌, ◌++◌}
use Prim.Native.Nat.{ℕ, suc, ◌+◌, ◌*◌, ◌^◌, ◌≤◌, ◌<◌}
use native.Mathlib.Nat.{mul-suc}
use native.Mathlib.Numerals.{add-one}
use native.Mathlib.Omega.{arith}
use borrow.Author.Tests.{ne_eqb}
use lib.ListN.{length, get_or, drop, drop_of_length-le}
use lib.Seq.{drop-cons}
use Rattle.rules.specs.Base.{Each, nil, ◌&◌}
use Rattle.rules.specs.Format.{Bytes}
use Rattle.rules.specs.Product.{decimal}
use Rattle.writing.specs.Out.{Writes, write, line_of, refusal_line}
use Rattle.writing.proofs.Written.{none_written, text-then, writes_end}
use Rattle.writing.proofs.Decimal.{number-length}

-- one number more before the others
pub number-then : (n m : ℕ) (ms : List ℕ) (l₀ l₁ l₂ : Bytes) (p₀ p₁ p₂ : ℕ) → Writes (decimal n ++ 32 ∷ []) l₀ p₀ l₁ p₁ → Writes (line_of (m ∷ ms)) l₁ p₁ l₂ p₂
    → Writes (line_of (n ∷ m ∷ ms)) l₀ p₀ l₂ p₂
unfolding line_of
number-then n m ms l₀ l₁ l₂ p₀ p₁ p₂ v w = text-then (decimal n) 32 (line_of (m ∷ ms)) l₀ l₁ l₂ p₀ p₁ p₂ v w

pub last-number : (n : ℕ) (l₀ l₁ : Bytes) (p₀ p₁ : ℕ) → Writes (decimal n ++ 10 ∷ []) l₀ p₀ l₁ p₁ → Writes (line_of (n ∷ [])) l₀ p₀ l₁ p₁
unfolding line_of
last-number n l₀ l₁ p₀ p₁ v = v

-- in a list of numbers: the number at a place, and the others behind it
module _ (ns : List ℕ) (i : ℕ) (l₀ l₁ l₂ : Bytes) (p₀ p₁ p₂ : ℕ) where
  from_here : i < length ns → drop i ns ≡ get_or ns i 0 ∷ drop (i + 1) ns
  from_here h = rw add-one (drop-cons ns i 0 h)

  pub number-at : i + 1 < length ns → Writes (decimal (get_or ns i 0) ++ 32 ∷ []) l₀ p₀ l₁ p₁ → Writes (line_of (drop (i + 1) ns)) l₁ p₁ l₂ p₂
      → Writes (line_of (drop i ns)) l₀ p₀ l₂ p₂
  number-at h v w =
      let more : drop (i + 1) ns ≡ get_or ns (i + 1) 0 ∷ drop (suc (i + 1)) ns = drop-cons ns (i + 1) 0 h in
      rw (from_here (omega arith), more) (number-then _ _ _ l₀ l₁ l₂ p₀ p₁ p₂ v (rw more at w))

  pub last-at : i + 1 ≡ length ns → Writes (decimal (get_or ns i 0) ++ 10 ∷ []) l₀ p₀ l₁ p₁ → Writes (line_of (drop (i + 1) ns)) l₁ p₁ l₂ p₂
      → Writes (line_of (drop i ns)) l₀ p₀ l₂ p₂
  unfolding line_of write
  last-at e v w =
      let none : drop (i + 1) ns ≡ [] = drop_of_length-le ns (omega arith) in
      rw (from_here (omega arith), none) ((rw none at w) ∙ v)

-- no number is left
pub none_left : (ns : List ℕ) (i : ℕ) → length ns ≤ i → (l : Bytes) (p : ℕ) → Writes (line_of (drop i ns)) l p l p
unfolding line_of
none_left ns i h l p = rw (drop_of_length-le ns h) (none_written l p)

-- numbers of at most k + 1 digits, and one byte behind each
pub line-length : (k : ℕ) (ns : List ℕ) → Each (λ n. n < 10 ^ suc k) ns → length (line_of ns) ≤ (k + 2) * length ns
unfolding line_of
line-length k [] f = omega arith
line-length k (n ∷ []) (h & f) = let x = number-length k n 10 [] h in omega arith
line-length k (n ∷ m ∷ ms) (h & f) =
    let x = number-length k n 32 (line_of (m ∷ ms)) h in
    let y = line-length k (m ∷ ms) f in
    let z : (k + 2) * suc (length (m ∷ ms)) ≡ (k + 2) * length (m ∷ ms) + (k + 2) = mul-suc (k + 2) (length (m ∷ ms)) in
    omega arith

all_in : (k : ℕ) (ns : List ℕ) → ((i : ℕ) → get_or ns i 0 < 10 ^ suc k) → Each (λ n. n < 10 ^ suc k) ns
all_in k [] f = nil
all_in k (n ∷ ns) f = f 0 & all_in k ns (λ i. f (suc i))

-- so it ends in a buffer that has room for it
pub line-ends : (k : ℕ) (ns : List ℕ) → Each (λ n. n < 10 ^ suc k) ns → (l m : Bytes) (a r : ℕ) → Writes (line_of ns) l a m r → a + (k + 2) * length ns ≤ length l → r ≤ a + (k + 2) * length ns
line-ends k ns f l m a r w h = let x = line-length k ns f in let e = writes_end (line_of ns) l m a r w (omega arith) in omega arith

-- numbers of 64 bits
pub line-bounded : (ns : List ℕ) → ((i : ℕ) → get_or ns i 0 < 2 ^ 64) → (l m : Bytes) (a r : ℕ) → Writes (line_of ns) l a m r → a + 21 * length ns ≤ length l → r ≤ a + 21 * length ns
line-bounded ns f l m a r w h = line-ends 19 ns (all_in 19 ns (λ i. let g = f i in omega arith)) l m a r w h

-- ---- the line of a refusal

pub no-refusal : (r p : ℕ) (l : Bytes) → r ≡ 0 → Writes (refusal_line r p) l 0 l 0
unfolding refusal_line
no-refusal r p l e = rw e (none_written l 0)

module _ (r p : ℕ) (n : r ≡ 0 → ⊥) where
  pub one-refusal : (l m : Bytes) (e : ℕ) → Writes (line_of (r ∷ p ∷ [])) l 0 m e → Writes (refusal_line r p) l 0 m e
  unfolding refusal_line
  one-refusal l m e w = rw (ne_eqb r 0 n) w
