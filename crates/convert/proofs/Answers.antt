-- What the code says of a text that was read, and what a refusal of 0 tells.
use Rattle.std.specs.Prelude.{if◌then◌else◌, Ok, Err}
use mathlib.Core.Path.{◌≡◌, refl, sym, ap, ◌∙◌}
use mathlib.Core.Bool.{Bool, true, false}
use mathlib.Core.List.{◌++◌}
use Prim.Native.Nat.{ℕ, ◌-◌, ◌≤◌, ◌<◌}
use native.Mathlib.Omega.{arith}
use lib.ListN.{length, take, replicate}
use borrow.Author.Tests.{le-leb, lt-leb}
use Rattle.rules.specs.Constants.{longest_sheet}
use Rattle.rules.specs.Refusal.{Refusal, number, off_range, too_long, output_full}
use Rattle.rules.specs.Program.{Program}
use Rattle.rules.specs.Format.{Bytes, Got, bad, read_sheet}
use Rattle.text.specs.Lines.{Text}
use Rattle.text.specs.Convert.{Piece, text_pieces, piece_at, said, Conversion, refused_with, converted_with, written_into, judged, convert}
use Rattle.text.specs.Claims.{sheet_of, full_length}
use Rattle.refusal.specs.declared.Fault.{Fault}
use Rattle.refusal.specs.Shape.{rule_of}
use Rattle.reader.specs.declared.Index.{Index}
use Rattle.reader.specs.Index.{index_of}
use Rattle.reader.proofs.Facts.{accepted, rejected}
use Rattle.convert.specs.declared.whole.Written.{Written}
use Rattle.convert.specs.Whole.{TextMade}
use Rattle.convert.specs.Shape.{refused_by, Blames, Judges}
use Rattle.convert.proofs.Verdicts.{sheet-smaller, when-long, when-short}

-- ---- the reader's word

said-number : (x : Piece) (r : Refusal) → (if x.fits then number r else 4) ≡ number (said x r)
unfolding said
said-number x r = by x.fits
  where
    by : (f : Bool) → (if f then number r else 4) ≡ number (if f then r else off_range)
    by true = refl
    by false = refl

module _ (s work : Bytes) (end room : ℕ) where
  pub judged-bad : (f : Fault) → Err f ≡ index_of (read_sheet (take end work)) → {c : Conversion} → end ≤ length work
      → Blames s (length work) room (number (rule_of f.refusal)) f.place c → Judges s work end room c
  unfolding judged
  judged-bad f h l b t k le te =
      let r : Got Program = read_sheet (sheet_of t) in
      let e : r ≡ bad (rule_of f.refusal) f.place = rejected r (ap (λ z. index_of (read_sheet z)) (sym te) ∙ sym h) in
      let p = piece_at (text_pieces t) f.place in
      b t k (omega arith) ∙ ap (λ z. refused_by room z p.start) (said-number p (rule_of f.refusal))
      ∙ sym (ap (judged room (text_pieces t)) e)

  good : (i : Index) → Ok i ≡ index_of (read_sheet (take end work)) → (t : Text) → take end work ≡ sheet_of t
      → judged room (text_pieces t) (read_sheet (sheet_of t)) ≡ written_into room (sheet_of t)
  unfolding judged
  good i h t te =
      let g = accepted (read_sheet (sheet_of t)) (ap (λ z. index_of (read_sheet z)) (sym te) ∙ sym h) in
      ap (judged room (text_pieces t)) g.2

  pub judged-full : (i : Index) → Ok i ≡ index_of (read_sheet (take end work)) → room < end
      → Judges s work end room (refused_by room (number output_full) 0)
  unfolding written_into
  judged-full i h l t k le te =
      ap (λ b. if b then converted_with room (sheet_of t) else refused_with room output_full 0)
      (sym (lt-leb (length (sheet_of t)) room (omega arith)))
      ∙ sym (good i h t te)

  pub judged-good : (i : Index) → Ok i ≡ index_of (read_sheet (take end work)) → end ≤ room
      → Judges s work end room
      (record { refusal = 0; place = 0; written = end; sheet = take end work ++ replicate (room - length (take end work)) 0 })
  unfolding written_into
  judged-good i h l t k le te =
      let e : length (take end work) ≡ end = ap length te ∙ le in
      let all : Bytes = take end work ++ replicate (room - length (take end work)) 0 in
      ap {B = Conversion} (λ n. record { refusal = 0; place = 0; written = n; sheet = all }) (sym e) ∙ ap (converted_with room) te
      ∙ ap (λ b. if b then converted_with room (sheet_of t) else refused_with room output_full 0)
      (sym (le-leb (length (sheet_of t)) room (omega arith)))
      ∙ sym (good i h t te)

-- ---- too long, or not

module _ (s after : Bytes) (target : ℕ) (w : Written) (h : TextMade s after target w) where
  pub made-long : (room : ℕ) → longest_sheet < w.whole → refused_by room (number too_long) 0 ≡ convert room s
  made-long room l = let i = h.so_far.whole_is in when-long room s h.text h.reads (omega arith)

  module _ (l : w.whole ≤ longest_sheet) (r : length after ≡ longest_sheet) where
    full : full_length h.text ≤ longest_sheet
    full = let i = h.so_far.whole_is in omega arith

    pub end-inside : w.end ≤ length after
    end-inside = let i = h.so_far.end_is in let j = sheet-smaller h.text in let k = full in omega arith

    end_is : length (sheet_of h.text) ≡ w.end
    end_is = let i = h.so_far.end_is in let j = sheet-smaller h.text in let k = full in omega arith

    front : take w.end after ≡ sheet_of h.text
    front = let j = end_is in let k = end-inside in ap (λ n. take n after) (sym j) ∙ h.so_far.stands (omega arith) (omega arith)

    pub made-short : (room : ℕ) {c : Conversion} → Judges s after w.end room c → c ≡ convert room s
    made-short room g = g h.text h.reads end_is front ∙ when-short room s h.text h.reads full
