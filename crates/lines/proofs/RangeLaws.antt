-- Ranges, and lines of a word and a range: the numbers that the code keeps, beside what they are.
use mathlib.Core.Path.{◌≡◌, sym, ap, ◌∙◌}
use mathlib.Core.Bool.{true}
use Prim.Native.Nat.{ℕ}
use lib.IntN.{ℤ}
use lib.ListN.{drop}
use Rattle.rules.specs.Format.{Bytes}
use Rattle.rules.specs.Interval.{Interval, interval}
use Rattle.text.specs.Words.{Read, stop, took, map_read, signed}
use Rattle.text.specs.Lines.{range, head_line}
use Rattle.scan.specs.Reading.{value_code}
use Rattle.scan.proofs.Readings.{map-stop, map-took, head-map, same_head, range-map, range-each}
use Rattle.lines.specs.Reading.{one_end, pair}

-- ---- two ends

module _ {A B : Type 0} (c : A → ℕ) (f : A → A → B) where
  pub record Ends (g : Read B) (m n : ℕ) (w : Bytes) : Type 0 where
    pub low : A
    pub high : A
    pub reads : g ≡ took (f low high) w
    pub low_is : m ≡ c low
    pub high_is : n ≡ c high

  abbrev made : A × A → B
  made x = f x.0 x.1

  abbrev codes : A × A → ℕ × ℕ
  codes x = (c x.0, c x.1)

  -- from the two ends as they stand
  module _ (x : Read (A × A)) {g : Read B} {k : Read (ℕ × ℕ)} (hg : g ≡ map_read made x) (hk : k ≡ map_read codes x) where
    ends-stop : {w : Bytes} → k ≡ stop w → g ≡ stop w
    unfolding map_read
    ends-stop e = hg ∙ ap (map_read made) (map-stop codes x (sym e ∙ hk))

    ends-took : {m n : ℕ} {w : Bytes} → k ≡ took (m, n) w → Ends g m n w
    unfolding map_read
    ends-took e =
        let z = map-took codes x (sym e ∙ hk) in
        record {
          low = z.0.0;
          high = z.0.1;
          reads = hg ∙ ap (map_read made) z.1.0;
          low_is = ap (λ (p : ℕ × ℕ). p.0) z.1.1;
          high_is = ap (λ (p : ℕ × ℕ). p.1) z.1.1;
        }

  module _ (one : Bytes → Read A) where
    abbrev both : Bytes → Read (A × A)
    both = range {B = A × A} one (λ a b. (a, b))

    made-is : (t : Bytes) → range one f t ≡ map_read made (both t)
    made-is t = sym (range-map {B = A × A} one (λ a b. (a, b)) made t)

    codes_are : (t : Bytes) → range (λ u. map_read c (one u)) pair t ≡ map_read codes (both t)
    codes_are t = range-each one c pair t ∙ sym (range-map {B = A × A} one (λ a b. (a, b)) codes t)

    module _ (t w : Bytes) where
      pub range-stops : range (λ u. map_read c (one u)) pair t ≡ stop w → range one f t ≡ stop w
      range-stops = ends-stop (both t) (made-is t) (codes_are t)

      pub range-takes : {m n : ℕ} → range (λ u. map_read c (one u)) pair t ≡ took (m, n) w → Ends (range one f t) m n w
      range-takes = ends-took (both t) (made-is t) (codes_are t)

-- a line of a word and two values
module _ (s word : Bytes) (q : ℕ) where
  abbrev pub ranged : Read Interval
  ranged = head_line word (range signed interval) (drop q s)

  abbrev values : Read (ℤ × ℤ)
  values = head_line word (both value_code interval signed) (drop q s)

  interval-is : ranged ≡ map_read (made value_code interval) values
  interval-is = same_head word (made-is value_code interval signed) (drop q s)
      ∙ head-map word (both value_code interval signed) (made value_code interval) (drop q s)

  pair_is : head_line word (range (one_end true) pair) (drop q s) ≡ map_read (codes value_code interval) values
  pair_is = same_head word (codes_are value_code interval signed) (drop q s)
      ∙ head-map word (both value_code interval signed) (codes value_code interval) (drop q s)

  pub head-stop : {w : Bytes} → head_line word (range (one_end true) pair) (drop q s) ≡ stop w → ranged ≡ stop w
  head-stop = ends-stop value_code interval values interval-is pair_is

  pub head-took : {m n : ℕ} {w : Bytes} → head_line word (range (one_end true) pair) (drop q s) ≡ took (m, n) w
      → Ends value_code interval ranged m n w
  head-took = ends-took value_code interval values interval-is pair_is
