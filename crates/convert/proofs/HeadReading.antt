-- The lines `limit`, `budget` and `label`, read one behind the other, their numbers kept up to a bound.
use Rattle.std.specs.Prelude.{Ok}
use mathlib.Core.Path.{◌≡◌, refl, sym, ap, ◌∙◌}
use mathlib.Core.Bool.{false}
use Prim.Native.Nat.{ℕ, ◌-◌, ◌≤◌}
use native.Mathlib.Omega.{arith}
use lib.ListN.{length, drop, length-drop}
use Rattle.rules.specs.Format.{Bytes}
use Rattle.rules.specs.Program.{Header}
use Rattle.text.specs.Words.{bytes, Read, stop, took, then_read, map_read, number}
use Rattle.text.specs.Lines.{range, head_line, ends, locks_due, read_lines, Text, read_text}
use Rattle.scan.specs.Reading.{capped}
use Rattle.scan.proofs.Readings.{map-stop, map-took, then-stop, then-took, head-map, same_head, range-map, range-each}
use Rattle.lines.specs.Reading.{one_end, pair, pair_of}
use Rattle.lines.specs.declared.ranges.Pair.{Pair}
use Rattle.convert.specs.Head.{text_of}

-- ---- the line `label`, whose numbers are kept up to the bound

abbrev both_capped : ℕ × ℕ → ℕ × ℕ
both_capped x = (capped x.0, capped x.1)

ends-capped : (t : Bytes) → range (one_end false) pair t ≡ map_read both_capped (ends t)
unfolding ends
ends-capped t = range-each number capped pair t ∙ sym (range-map {B = ℕ × ℕ} number (λ a b. (a, b)) both_capped t)

label-capped : (t : Bytes)
    → head_line (bytes "label") (range (one_end false) pair) t ≡ map_read both_capped (head_line (bytes "label") ends t)
label-capped t = same_head (bytes "label") ends-capped t ∙ head-map (bytes "label") ends both_capped t

-- ---- the three lines

module _ (s : Bytes) where
  pub place-of : (q : ℕ) → q ≤ length s → length s - length (drop q s) ≡ q
  place-of q h = let e : length (drop q s) ≡ length s - q = length-drop q s in omega arith

  abbrev from_label : ℕ → ℕ → ℕ → ℕ → ℕ × ℕ → Bytes → Read Text
  from_label limit budget p k label u =
      map_read (text_of (record { limit = limit; budget = budget; label_low = label.0; label_high = label.1 }) p k)
      (read_lines (length s) (length u) locks_due u)

  abbrev from_budget : ℕ → ℕ → ℕ → Bytes → Read Text
  from_budget limit p budget t = then_read (head_line (bytes "label") ends t) (from_label limit budget p (length s - length t))

  abbrev from_limit : ℕ → Bytes → Read Text
  from_limit limit t = then_read (head_line (bytes "budget") number t) (from_budget limit (length s - length t))

  text_is : read_text s ≡ then_read (head_line (bytes "limit") number s) from_limit
  unfolding read_text
  text_is = refl

  pub limit-stops : {w : Bytes} → stop w ≡ map_read capped (head_line (bytes "limit") number s) → read_text s ≡ stop w
  limit-stops h = text_is ∙ then-stop _ from_limit (map-stop capped _ h)

  -- all three were read
  pub record Three (limit p budget k : ℕ) (x : Pair) : Type 0 where
    pub header : Header
    pub reads : read_text s ≡ map_read (text_of header p k) (read_lines (length s) (length (drop x.place s)) locks_due (drop x.place s))
    pub limit_is : limit ≡ capped header.limit
    pub budget_is : budget ≡ capped header.budget
    pub low_is : x.low ≡ capped header.label_low
    pub high_is : x.high ≡ capped header.label_high

  -- the limit was read, up to p
  module _ (limit p : ℕ) (hp : p ≤ length s) (l : took limit (drop p s) ≡ map_read capped (head_line (bytes "limit") number s)) where
    first : (n : ℕ) × ((head_line (bytes "limit") number s ≡ took n (drop p s)) × (limit ≡ capped n))
    first = map-took capped (head_line (bytes "limit") number s) l

    behind-limit : read_text s ≡ then_read (head_line (bytes "budget") number (drop p s)) (from_budget first.0 p)
    behind-limit =
        text_is ∙ then-took (head_line (bytes "limit") number s) from_limit first.1.0
        ∙ ap (λ a. then_read (head_line (bytes "budget") number (drop p s)) (from_budget first.0 a)) (place-of p hp)

    pub budget-stops : {w : Bytes} → stop w ≡ map_read capped (head_line (bytes "budget") number (drop p s)) → read_text s ≡ stop w
    budget-stops h = behind-limit ∙ then-stop _ (from_budget first.0 p) (map-stop capped _ h)

    -- the budget too, up to k
    module _ (budget k : ℕ) (hk : k ≤ length s)
        (b : took budget (drop k s) ≡ map_read capped (head_line (bytes "budget") number (drop p s))) where
      second : (n : ℕ) × ((head_line (bytes "budget") number (drop p s) ≡ took n (drop k s)) × (budget ≡ capped n))
      second = map-took capped (head_line (bytes "budget") number (drop p s)) b

      behind-budget : read_text s ≡ then_read (head_line (bytes "label") ends (drop k s)) (from_label first.0 second.0 p k)
      behind-budget =
          behind-limit ∙ then-took (head_line (bytes "budget") number (drop p s)) (from_budget first.0 p) second.1.0
          ∙ ap (λ a. then_read (head_line (bytes "label") ends (drop k s)) (from_label first.0 second.0 p a)) (place-of k hk)

      pub label-stops : {w : Bytes} → stop w ≡ head_line (bytes "label") (range (one_end false) pair) (drop k s) → read_text s ≡ stop w
      label-stops h = behind-budget ∙ then-stop _ (from_label first.0 second.0 p k) (map-stop both_capped _ (h ∙ label-capped (drop k s)))

      pub three-read : (x : Pair) → pair_of pair s (Ok x) ≡ head_line (bytes "label") (range (one_end false) pair) (drop k s)
          → Three limit p budget k x
      three-read x h =
          let g = map-took both_capped (head_line (bytes "label") ends (drop k s)) (h ∙ label-capped (drop k s)) in
          record {
            header = record { limit = first.0; budget = second.0; label_low = g.0.0; label_high = g.0.1 };
            reads = behind-budget ∙ then-took (head_line (bytes "label") ends (drop k s)) (from_label first.0 second.0 p k) g.1.0;
            limit_is = first.1.1;
            budget_is = second.1.1;
            low_is = ap (λ (z : ℕ × ℕ). z.0) g.1.1;
            high_is = ap (λ (z : ℕ × ℕ). z.1) g.1.1;
          }
