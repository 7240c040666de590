-- The printed line: in an array of zeros, and told by the first 16,385 bytes of a sheet.
use mathlib.Core.Path.{◌≡◌, ap, ap₂, ◌∙◌}
use mathlib.Core.List.{◌++◌}
use Prim.Native.Nat.{ℕ, zero, suc, ◌+◌, ◌-◌, ◌/◌, ◌≤◌}
use native.Mathlib.Omega.{arith}
use lib.ListN.{length, take, drop, replicate, length-append, length-replicate}
use lib.Seq.{take-append_seam, drop-append_seam}
use Rattle.rules.specs.Constants.{longest_sheet, numbers_per_state, lent_by_program}
use Rattle.rules.specs.Format.{Bytes, Got}
use Rattle.rules.specs.Program.{Program}
use Rattle.rules.specs.Search.{Answer, answer_with, answer}
use Rattle.rules.specs.Product.{line, printed}
use Rattle.rules.proofs.Longest.{sheet-told}
use Rattle.writing.specs.Out.{longest_five, Writes}
use Rattle.writing.proofs.Written.{fits-front}
use Rattle.label_main.specs.declared.Line.{Line}
use Rattle.label_main.specs.Line.{Holds}

-- ---- the line in an array of zeros

-- so many zeros
abbrev zeros : ℕ → Bytes
zeros n = replicate n 0

drop-zeros : (k n : ℕ) → drop k (zeros n) ≡ zeros (n - k)
drop-zeros zero n = let e : n ≡ n - 0 = omega arith in ap zeros e
drop-zeros (suc k) zero = let e : 0 ≡ 0 - suc k = omega arith in ap zeros e
drop-zeros (suc k) (suc n) = let e : n - k ≡ suc n - suc k = omega arith in drop-zeros k n ∙ ap zeros e

pub line-holds : (s : Bytes) (l : Line) → length s ≤ longest_five → Writes s (zeros longest_five) 0 l.bytes l.length → Holds s l
line-holds s l h e =
    let f = fits-front s (zeros longest_five) l.bytes l.length e h in
    let whole : l.bytes ≡ s ++ zeros (longest_five - length s) = f.0 ∙ ap (λ (t : Bytes). s ++ t) (drop-zeros (length s) longest_five) in
    let size = ap length whole ∙ length-append s (zeros (longest_five - length s)) in
    let rest : longest_five - length s ≡ length l.bytes - l.length = omega
    (arith, f.1, size, length-replicate {A = ℕ} (longest_five - length s) 0) in
    record {
      fits = omega (arith, f.1, size);
      front = ap₂ take f.1 whole ∙ take-append_seam s _;
      behind = ap₂ drop f.1 whole ∙ drop-append_seam s _ ∙ ap zeros rest;
    }

-- ---- what is printed of a sheet

pub printed-line : (sheet : Bytes) (n : ℕ) (given : Answer) → given ≡ answer sheet n → n ≡ lent_by_program → line given ≡ printed sheet
unfolding printed
printed-line sheet n given e f = ap line (e ∙ ap (answer sheet) f)

-- it is enough to read one byte more than a sheet may have
pub printed-cut : (s : Bytes) → printed (take (longest_sheet + 1) s) ≡ printed s
unfolding printed answer
printed-cut s = ap (λ (g : Got Program). line (answer_with (lent_by_program / numbers_per_state) g)) (sheet-told s)
