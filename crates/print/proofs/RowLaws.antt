-- One text for each of a list, written one behind the other; and the lines of ranges.
use mathlib.Core.Path.{◌≡◌, refl, sym, ap, ◌∙◌}
use mathlib.Core.List.{List, [], ◌∷◌, ◌++◌, append_assoc}
use Prim.Native.Nat.{ℕ, zero, suc, ◌+◌, ◌-◌, ◌*◌, ◌≤◌, ◌<◌}
use native.Mathlib.Omega.{arith}
use lib.ListN.{length, get_or, drop}
use lib.Seq.{drop-cons}
use Rattle.rules.specs.Format.{Bytes, num32, twos_complement, int32}
use Rattle.rules.specs.Encoding.{in_row}
use Rattle.rules.specs.Product.{bytes}
use Rattle.reader.specs.Facts.{range_at, ranges}
use Rattle.writing.specs.Out.{Out, out_of, write, Writes}
use Rattle.writing.proofs.Written.{write-append}
use Rattle.printed.specs.Print.{print_value, print_range}
use Rattle.print.specs.Texts.{range_text}

-- ---- what is left to write, once k are written

module _ {A : Type 0} (f : A → Bytes) (d : A) where
  pub row-turn : (xs : List A) (k : ℕ) (l m : Bytes) (a b : ℕ) → k < length xs → Writes (f (get_or xs k d)) l a m b
      → write (in_row f (drop k xs)) (out_of l a) ≡ write (in_row f (drop (k + 1) xs)) (out_of m b)
  unfolding in_row
  row-turn xs k l m a b h e =
      let one : suc k ≡ k + 1 = omega arith in
      ap (λ (ys : List A). write (in_row f ys) (out_of l a)) (drop-cons xs k d h)
      ∙ write-append (f (get_or xs k d)) (in_row f (drop (suc k) xs)) (out_of l a)
      ∙ ap (write (in_row f (drop (suc k) xs))) (sym e)
      ∙ ap (λ (j : ℕ). write (in_row f (drop j xs)) (out_of m b)) one

pub row_done : {A : Type 0} (f : A → Bytes) (xs : List A) (k : ℕ) (o : Out ℕ) → length xs ≤ k → write (in_row f (drop k xs)) o ≡ o
unfolding in_row write
row_done f [] zero o h = refl
row_done f [] (suc k) o h = refl
row_done f (x ∷ xs) zero o h = absurd (omega arith)
row_done f (x ∷ xs) (suc k) o h = row_done f xs k o (omega arith)

-- ---- ranges

-- the first of them
pub ranges-none : (w s : Bytes) (p n : ℕ) (o : Out ℕ) → write (in_row (range_text w) (ranges s p n)) o ≡ write (in_row (range_text w) (ranges s (p + 11 * 0) (n - 0))) o
ranges-none w s p n o =
    let first : p ≡ p + 11 * 0 = omega arith in
    let all : n ≡ n - 0 = omega arith in
    λ j. write (in_row (range_text w) (ranges s (first j) (all j))) o

ranges-next : (w s : Bytes) (p k : ℕ) (l m : Bytes) (a b : ℕ) → Writes (range_text w (range_at s p)) l a m b
    → write (in_row (range_text w) (ranges s p (suc k))) (out_of l a) ≡ write (in_row (range_text w) (ranges s (p + 11) k)) (out_of m b)
unfolding in_row ranges
ranges-next w s p k l m a b e =
    write-append (range_text w (range_at s p)) (in_row (range_text w) (ranges s (p + 11) k)) (out_of l a)
    ∙ ap (write (in_row (range_text w) (ranges s (p + 11) k))) (sym e)

pub ranges-turn : (w s : Bytes) (p n i : ℕ) (l m : Bytes) (a b : ℕ) → i < n → Writes (range_text w (range_at s (p + 11 * i))) l a m b
    → write (in_row (range_text w) (ranges s (p + 11 * i) (n - i))) (out_of l a)
    ≡ write (in_row (range_text w) (ranges s (p + 11 * (i + 1)) (n - (i + 1)))) (out_of m b)
ranges-turn w s p n i l m a b h e =
    let some : n - i ≡ suc (n - (i + 1)) = omega arith in
    let next : p + 11 * i + 11 ≡ p + 11 * (i + 1) = omega arith in
    ap (λ (k : ℕ). write (in_row (range_text w) (ranges s (p + 11 * i) k)) (out_of l a)) some
    ∙ ranges-next w s (p + 11 * i) (n - (i + 1)) l m a b e
    ∙ ap (λ (q : ℕ). write (in_row (range_text w) (ranges s q (n - (i + 1)))) (out_of m b)) next

pub ranges-done : (w s : Bytes) (p n i : ℕ) (o : Out ℕ) → n ≤ i → write (in_row (range_text w) (ranges s p (n - i))) o ≡ o
unfolding in_row ranges write
ranges-done w s p n i o h = let none : n - i ≡ 0 = omega arith in rw none refl

pub range-whole : (w s : Bytes) (p x y : ℕ) → x ≡ num32 s (p + 3) → y ≡ num32 s (p + 7)
    → w ++ (print_value (twos_complement x) ++ (bytes ".." ++ (print_value (twos_complement y) ++ 10 ∷ []))) ≡ range_text w (range_at s p)
unfolding range_text print_range int32
range-whole w s p x y e f = rw (e, f) (ap (λ (t : Bytes). w ++ t) (sym (append_assoc (print_value (twos_complement (num32 s (p + 3)))) (bytes ".." ++ print_value (twos_complement (num32 s (p + 7)))) (10 ∷ []))))
