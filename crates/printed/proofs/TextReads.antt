-- A printed text reads back: the header and every line, in order.
use mathlib.Core.Path.{◌≡◌, refl, ap, ◌∙◌}
use mathlib.Core.Bool.{false}
use mathlib.Core.List.{List, [], ◌∷◌, ◌++◌, append_assoc}
use Prim.Native.Nat.{ℕ, zero, suc, ◌-◌, ◌≤◌}
use native.Mathlib.Omega.{arith}
use lib.ListN.{length, length-append}
use Rattle.rules.specs.Format.{Bytes}
use Rattle.rules.specs.Product.{bytes, decimal}
use Rattle.rules.specs.Program.{Header}
use Rattle.rules.specs.Encoding.{in_row}
use Rattle.text.specs.Words.{took, then_read, map_read, is_digit, is_letter, spaces, apart, number, following, whole, or_none, or_whole, spell, keyword, newline, line_end}
use Rattle.text.specs.Lines.{Line, word_only, Due, locks_due, var_due, reg_due, statement_due, due_after, Started, starts, may_end, read_lines, Text, head_line, ends, read_text}
use Rattle.text.specs.Says.{bare}
use Rattle.text.specs.Claims.{MayStand}
use Rattle.text.proofs.Follows.{word_ends}
use Rattle.printed.specs.Print.{print_line, ended, print_header}
use Rattle.printed.proofs.Numbers.{number-reads}
use Rattle.printed.proofs.LineReads.{number-space, range-reads, Printable, line_reads}

-- lines that can be printed and stand one after another from what is due on, up to the text's end
pub data InOrder : Due → List Line → Type 0 where
  at_end : InOrder statement_due []
  one_line : {due : Due} {x : Line} {xs : List Line} → MayStand due x → Printable x → InOrder (due_after x) xs → InOrder due (x ∷ xs)

pub record LinesRead (n k : ℕ) (due : Due) (xs : List Line) : Type 0 where
  pub lines : List Started
  pub reads : read_lines n k due (in_row ended xs) ≡ took lines []
  pub same : bare lines ≡ xs

not_yet : (due : Due) (t r : Bytes) → may_end due (t ++ 10 ∷ r) ≡ false
unfolding may_end
not_yet locks_due t r = refl
not_yet var_due t r = refl
not_yet reg_due t r = refl
not_yet statement_due [] r = refl
not_yet statement_due (b ∷ t) r = refl

ended_is : (x : Line) (r : Bytes) → ended x ++ r ≡ print_line x ++ 10 ∷ r
unfolding ended
ended_is x r = append_assoc (print_line x) (10 ∷ []) r

lines-read : (n k : ℕ) {due : Due} {xs : List Line} → InOrder due xs → length xs ≤ k → LinesRead n k due xs
unfolding read_lines in_row may_end bare then_read map_read
lines-read n zero at_end l = record { lines = []; reads = refl; same = refl }
lines-read n zero (one_line a p o) l = absurd (omega arith)
lines-read n (suc k) at_end l = record { lines = []; reads = refl; same = refl }
lines-read n (suc k) (one_line {due} {x} {xs} a p o) l =
    let y = lines-read n k o (omega arith) in
    let s = ended x ++ in_row ended xs in
    record {
      lines = starts (n - length s) x ∷ y.lines;
      reads = rw (ended_is x (in_row ended xs), not_yet due (print_line x) (in_row ended xs), line_reads a p (in_row ended xs), y.reads);
      same = ap {B = List Line} (λ zs. x ∷ zs) y.same;
    }

-- a line has at least its newline
enough_turns : (xs : List Line) → length xs ≤ length (in_row ended xs)
unfolding in_row ended
enough_turns [] = omega arith
enough_turns (x ∷ xs) =
    let h = enough_turns xs in
    let e = length-append (print_line x ++ (10 ∷ [])) (in_row ended xs) in
    let f = length-append (print_line x) (10 ∷ []) in
    omega arith

pub record TextRead (h : Header) (xs : List Line) : Type 0 where
  pub text : Text
  pub reads : read_text (print_header h ++ in_row ended xs) ≡ took text []
  pub header : text.header ≡ h
  pub lines : bare text.lines ≡ xs

-- a header line, its word spelled
number-line : (n : ℕ) (rest : Bytes) → then_read (number (32 ∷ (decimal n ++ 10 ∷ rest))) line_end ≡ took n rest
unfolding then_read line_end newline spaces is_digit is_letter word_ends
number-line n rest = rw (number-space (decimal n ++ 10 ∷ rest), number-reads n (10 ∷ rest) tt)

label-line : (a b : ℕ) (rest : Bytes) → then_read (ends (32 ∷ (decimal a ++ (46 ∷ 46 ∷ (decimal b ++ 10 ∷ rest))))) line_end ≡ took (a, b) rest
unfolding then_read line_end newline spaces ends is_digit is_letter word_ends
label-line a b rest =
    rw (range-reads {B = ℕ × ℕ} number (λ a b. (a, b)) a b (32 ∷ (decimal a ++ (46 ∷ 46 ∷ (decimal b ++ 10 ∷ rest)))) (decimal b ++ 10 ∷ rest) (10 ∷ rest)
    (number-space _ ∙ number-reads a (46 ∷ 46 ∷ (decimal b ++ 10 ∷ rest)) tt) (number-reads b (10 ∷ rest) tt))

module _ (h : Header) (xs : List Line) where
  -- the text from `label` on, from `budget` on, and the whole
  from_label_lem : Bytes
  from_label_lem = bytes "label " ++ (decimal h.label_low ++ (46 ∷ 46 ∷ (decimal h.label_high ++ 10 ∷ in_row ended xs)))

  from-budget : Bytes
  from-budget = bytes "budget " ++ (decimal h.budget ++ 10 ∷ from_label_lem)

  from-limit : Bytes
  from-limit = bytes "limit " ++ (decimal h.limit ++ 10 ∷ from-budget)

  header_is : print_header h ++ in_row ended xs ≡ from-limit
  unfolding print_header from-limit from-budget from_label_lem
  header_is = simp append_assoc

  limit-read : head_line (bytes "limit") number from-limit ≡ took h.limit from-budget
  unfolding from-limit head_line word_only keyword spell following whole or_none or_whole spaces apart is_digit is_letter then_read
  limit-read = number-line h.limit from-budget

  budget-read : head_line (bytes "budget") number from-budget ≡ took h.budget from_label_lem
  unfolding from-budget head_line word_only keyword spell following whole or_none or_whole spaces apart is_digit is_letter then_read
  budget-read = number-line h.budget from_label_lem

  label-read : head_line (bytes "label") ends from_label_lem ≡ took (h.label_low, h.label_high) (in_row ended xs)
  unfolding from_label_lem head_line word_only keyword spell following whole or_none or_whole spaces apart is_digit is_letter then_read
  label-read = label-line h.label_low h.label_high (in_row ended xs)

  pub text-reads : InOrder locks_due xs → TextRead h xs
  unfolding read_text then_read map_read
  text-reads o =
      let n = length from-limit in
      let y = lines-read n (length (in_row ended xs)) o (enough_turns xs) in
      record {
        text = record { header = h; budget_at = n - length from-budget; label_at = n - length from_label_lem; lines = y.lines };
        reads = ap read_text header_is ∙ rw (limit-read, budget-read, label-read, y.reads);
        header = refl;
        lines = y.same;
      }
