-- The answer for a text that reads, in the order of its refusals; and what a 0 says.
use mathlib.Core.Path.{◌≡◌, refl, sym, ap, ◌∙◌}
use Prim.Native.Nat.{ℕ, ◌-◌, ◌≤◌, ◌<◌}
use native.Mathlib.Decide.{dec_le}
use native.Mathlib.Omega.{arith}
use lib.ListN.{length, take}
use lib.Seq.{take-append_seam}
use borrow.Author.Tests.{lt-ltb, le-ltb, le-leb, lt-leb}
use Rattle.rules.specs.Refusal.{Refusal, too_long, output_full, unreadable}
use Rattle.rules.specs.Constants.{longest_sheet}
use Rattle.rules.specs.Program.{Program}
use Rattle.rules.specs.Format.{Bytes, Got, bad, got, read_sheet}
use Rattle.rules.proofs.Refusal.{positive}
use Rattle.text.specs.Words.{Read, stop, took}
use Rattle.text.specs.Lines.{Text, read_text}
use Rattle.text.specs.Convert.{text_pieces, piece_at, said, Conversion, refused_with, converted_with, written_into, judged, made, converted, convert}
use Rattle.text.specs.Claims.{sheet_of, full_length, WritesSheet}
use Rattle.text.proofs.InTurn.{in_turn}
use Rattle.text.proofs.Means.{sheet-says}
use Rattle.text.proofs.CannotGoOn.{place_inside}

module _ (room : ℕ) (text : Bytes) where
  -- ---- a text that reads

  module _ (t : Text) (r : Bytes) (h : read_text text ≡ took t r) where
    makes : convert room text ≡ made room (text_pieces t)
    unfolding convert converted
    makes = ap (converted room (length text)) h

    pub too_long_lem : longest_sheet < full_length t → convert room text ≡ refused_with room too_long 0
    unfolding made
    too_long_lem l = makes ∙ rw (lt-ltb longest_sheet (full_length t) l)

    module _ (short : full_length t ≤ longest_sheet) where
      judges : (x : Got Program) → read_sheet (sheet_of t) ≡ x → convert room text ≡ judged room (text_pieces t) x
      unfolding made
      judges x e = makes ∙ rw (le-ltb longest_sheet (full_length t) short, e)

      pub unread : (n : Refusal) (p : ℕ) → read_sheet (sheet_of t) ≡ bad n p
          → convert room text ≡ refused_with room (said (piece_at (text_pieces t) p) n) (piece_at (text_pieces t) p).start
      unfolding judged
      unread n p e = judges (bad n p) e

      module _ (g : Program) (e : ℕ) (reads : read_sheet (sheet_of t) ≡ got g e) where
        pub full : room < length (sheet_of t) → convert room text ≡ refused_with room output_full 0
        unfolding judged written_into
        full l = judges (got g e) reads ∙ rw (lt-leb (length (sheet_of t)) room l)

        pub writes : length (sheet_of t) ≤ room → convert room text ≡ converted_with room (sheet_of t)
        unfolding judged written_into
        writes l = judges (got g e) reads ∙ rw (le-leb (length (sheet_of t)) room l)

  -- ---- an answer of 0

  module _ (z : (convert room text).refusal ≡ 0) where
    not-refused : {X : Type 0} (n : Refusal) (p : ℕ) → convert room text ≡ refused_with room n p → X
    not-refused n p e = absurd (positive n (ap (λ (a : Conversion). a.refusal) (sym e) ∙ z))

    -- the sheet is what stands in the buffer, as far as it was written
    sheet_is : (s : Bytes) → convert room text ≡ converted_with room s → take (convert room text).written (convert room text).sheet ≡ s
    sheet_is s e = ap (λ (a : Conversion). take a.written a.sheet) e ∙ take-append_seam s _

    read-writes : (t : Text) (r : Bytes) → read_text text ≡ took t r → full_length t ≤ longest_sheet → (x : Got Program) → read_sheet (sheet_of t) ≡ x → WritesSheet room text
    read-writes t r h short (bad n p) e = not-refused (said (piece_at (text_pieces t) p) n) (piece_at (text_pieces t) p).start (unread t r h short n p e)
    read-writes t r h short (got g e) reads = elim (dec_le (length (sheet_of t)) room) [
      | no l ↦ not-refused output_full 0 (full t r h short g e reads (omega arith))
      | yes l ↦ record {
        text_read = t;
        program = g;
        end = e;
        reads_text = h ∙ ap {B = Read Text} (λ u. took t u) (in_turn text t r h).1;
        reads_sheet = ap read_sheet (sheet_is (sheet_of t) (writes t r h short g e reads l)) ∙ reads;
        says = sheet-says t g e short reads;
      }
    ]

    outcome : (x : Read Text) → read_text text ≡ x → WritesSheet room text
    outcome (stop r) h = not-refused unreadable (length text - length r) (place_inside room text r h).0
    outcome (took t r) h = elim (dec_le (full_length t) longest_sheet) [
      | no l ↦ not-refused too_long 0 (too_long_lem t r h (omega arith))
      | yes l ↦ read-writes t r h l (read_sheet (sheet_of t)) refl
    ]

    pub writes_sheet : WritesSheet room text
    writes_sheet = outcome (read_text text) refl
