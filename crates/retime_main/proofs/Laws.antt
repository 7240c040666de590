-- What the program prints: written line by line, never longer than its buffer, and told by the first 16,385 bytes of a sheet and by
-- numbers that are cut.
use mathlib.Core.Path.{◌≡◌, refl, ap, ◌∙◌}
use mathlib.Core.List.{List, [], ◌++◌}
use Prim.Native.Nat.{ℕ, ◌+◌, ◌^◌, ◌≤◌, ◌<◌}
use native.Mathlib.Omega.{arith}
use borrow.Author.Tests.{le-leb, eq-eqb, ne_eqb}
use lib.Dec.{leb, eqb}
use lib.IntN.{ℤ}
use lib.ListN.{length, length-append}
use Rattle.rules.specs.Base.{Each}
use Rattle.rules.specs.Refusal.{number, output_full, too_long}
use Rattle.rules.specs.Constants.{longest_sheet, lent_by_program}
use Rattle.rules.specs.Program.{Program}
use Rattle.rules.specs.Format.{Bytes, Got, bad, got, need, and_then, read_sheet}
use Rattle.rules.specs.Search.{Answer, five, answer_by, answer_with, answer}
use Rattle.rules.specs.Product.{line}
use Rattle.rules.proofs.Base.{if-ind, each_map}
use Rattle.rules.proofs.Longest.{told-by-front, sheet-too-long}
use Rattle.reader.proofs.Facts.{program-facts}
use Rattle.writing.specs.Out.{longest_five, out_of, write, Writes, line_of}
use Rattle.writing.proofs.Written.{then-writes, fits-inside}
use Rattle.writing.proofs.Line.{line-length}
use Rattle.retimed.specs.Retime.{Change, no_change, Done, on_statement, change_times, changed, change, checked, preview_answer, preview}
use Rattle.retimed.specs.TakeBack.{taken_back, take_back}
use Rattle.retime_main.specs.Line.{printed, longest_printed, sheet_text, longest_written, change_text, written, back_text, written_back, EnoughRead, CutUnseen, CopyEnough}
use Rattle.retime_main.proofs.Cut.{change-cut, back_cut}

-- ---- two lines

pub previewed : (s copy : Bytes) (work : List ℤ) (t k least greatest : ℕ) (a : Answer) → a ≡ (preview s copy work t k least greatest).answer
    → length copy ≡ longest_sheet → length work ≡ lent_by_program → a ≡ preview_answer s longest_sheet lent_by_program t k least greatest
unfolding preview
previewed s copy work t k least greatest a e m n = e ∙ (λ i. preview_answer s (m i) (n i) t k least greatest)

module _ (x y : Answer) (l₀ l₁ l₂ : Bytes) (p₁ p₂ : ℕ) (v : Writes (line x) l₀ 0 l₁ p₁) (w : Writes (line y) l₁ p₁ l₂ p₂) where
  both : Writes (line x ++ line y) l₀ 0 l₂ p₂
  both = then-writes (line x) (line y) l₀ l₁ l₂ 0 p₁ p₂ v w

  pub two-written : (s : Bytes) (t k least greatest : ℕ) → x ≡ answer s lent_by_program → y ≡ preview_answer s longest_sheet lent_by_program t k least greatest
      → Writes (printed s t k least greatest) l₀ 0 l₂ p₂
  unfolding printed
  two-written s t k least greatest e f = both ∙ (λ i. write (line (e i) ++ line (f i)) (out_of l₀ 0))

  pub two-fit : length (line x) ≤ longest_five → length (line y) ≤ longest_five → longest_printed ≤ length l₀ → p₂ ≤ length l₂
  two-fit a b h = fits-inside (line x ++ line y) l₀ l₂ p₂ both (omega (arith, length-append (line x) (line y)))

-- ---- a sheet behind a line of numbers

pub no-sheet : (r : ℕ) (s l : Bytes) (p : ℕ) → (r ≡ 0 → ⊥) → Writes (sheet_text r s) l p l p
unfolding sheet_text write
no-sheet r s l p n = rw (ne_eqb r 0 n)

pub that-sheet : (r : ℕ) (s l m : Bytes) (p q : ℕ) → r ≡ 0 → Writes s l p m q → Writes (sheet_text r s) l p m q
unfolding sheet_text
that-sheet r s l m p q z w = rw (eq-eqb r 0 z) w

-- at most eight numbers of 64 bits, and the sheet, fit
pub text-fits : (ns : List ℕ) → Each (λ n. n < 2 ^ 64) ns → length ns ≤ 8 → (r : ℕ) (s : Bytes) → length s ≤ longest_sheet + 1 → (l m : Bytes) (p : ℕ)
    → longest_written ≤ length l → Writes (line_of ns ++ sheet_text r s) l 0 m p → p ≤ length m
unfolding sheet_text
text-fits ns f few r s short l m p room w =
    let rest = if-ind (eqb r 0) s [] (λ t. length t ≤ longest_sheet + 1) (λ _. short) (λ _. omega arith) in
    let x = line-length 19 ns (each_map (λ n h. omega arith) f) in
    let y = length-append (line_of ns) (sheet_text r s) in
    fits-inside (line_of ns ++ sheet_text r s) l m p w (omega arith)

-- ---- the claims

module _ (t k least greatest : ℕ) where
  too_long_lem : Answer
  too_long_lem = five (number too_long) 0 0 0 0

  printed-long : (s : Bytes) → longest_sheet < length s → printed s t k least greatest ≡ line too_long_lem ++ line too_long_lem
  unfolding printed answer answer_with answer_by preview_answer checked and_then too_long_lem
  printed-long s h = rw (sheet-too-long s h)

  written-long : (s : Bytes) → longest_sheet < length s → written s t k least greatest ≡ change_text (record { refusal = number too_long; place = 0; change = no_change; sheet = [] })
  unfolding written change_text sheet_text change changed on_statement and_then
  written-long s h = rw (sheet-too-long s h)

back_long : (c : Change) (s : Bytes) → longest_sheet < length s → written_back s c ≡ back_text (record { refusal = number too_long; place = 0; sheet = [] })
unfolding written_back back_text sheet_text take_back taken_back on_statement and_then
back_long c s h = rw (sheet-too-long s h)

pub enough-read : EnoughRead
enough-read = record {
  previewed = λ s t k least greatest. told-by-front (λ x. printed x t k least greatest) longest_sheet _ (printed-long t k least greatest) s;
  changed = λ s t k least greatest. told-by-front (λ x. written x t k least greatest) longest_sheet _ (written-long t k least greatest) s;
  taken_back_lem = λ s c. told-by-front (λ x. written_back x c) longest_sheet _ (back_long c) s;
}

pub cut-unseen : CutUnseen
unfolding printed preview_answer written change written_back take_back
cut-unseen = record {
  previewed = λ s t k least greatest.
      ap (λ (x : Got Done). line (answer s lent_by_program) ++ line (checked lent_by_program (and_then (read_sheet s) (λ g e. need (leb (length s) longest_sheet) output_full 0 x))))
      (change-cut s t k least greatest);
  changed = λ s t k least greatest. ap (λ (x : Got Done). change_text (changed s x)) (change-cut s t k least greatest);
  taken_back_lem = λ s o c. ap (λ (x : Got Bytes). back_text (taken_back s x)) (back_cut s o c);
}

module _ (s : Bytes) (t k least greatest : ℕ) where
  room-for-it : (G : Got Program) → read_sheet s ≡ G
      → and_then G (λ g e. need (leb (length s) longest_sheet) output_full 0 (change_times s t k least greatest)) ≡ change_times s t k least greatest
  unfolding and_then need on_statement
  room-for-it (bad r p) q = rw q
  room-for-it (got g e) q = let f = (program-facts s g e q).fits in rw (le-leb (length s) longest_sheet f)

pub copy-enough : CopyEnough
unfolding preview_answer
copy-enough s n t k least greatest = ap (checked n) (room-for-it s t k least greatest (read_sheet s) refl)
