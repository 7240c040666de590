-- The whole text: its header's field, and the fields of its lines behind that.
use Rattle.std.specs.Prelude.{Result, Ok, Err, None}
use mathlib.Core.Path.{◌≡◌, refl, sym, ap, ◌∙◌}
use mathlib.Core.Bool.{Bool}
use mathlib.Core.List.{[], ◌∷◌, ◌++◌}
use Prim.Native.Nat.{ℕ, ◌≤◌, min}
use native.Mathlib.Omega.{arith}
use lib.ListN.{length, drop}
use Rattle.rules.specs.Format.{Bytes}
use Rattle.rules.specs.Encoding.{in_row, encode_header}
use Rattle.text.specs.Words.{map_read}
use Rattle.text.specs.Lines.{locks_due, read_lines}
use Rattle.text.specs.Convert.{Piece, header_numbers_fit, header_fault, text_pieces, piece_at}
use Rattle.convert.specs.Head.{Headed, text_of}
use Rattle.convert.specs.Whole.{Pieces, Stands, SoFar, MadeFrom, Makes, written_of}
use Rattle.convert.specs.declared.whole.Written.{Written}
use Rattle.convert.proofs.Laying.{front-put}

nothing_yet : (m : Bytes) (target : ℕ) → SoFar [] m target (written_of 0 0 None)
unfolding in_row piece_at
nothing_yet m target = record { whole_is = refl; end_is = refl; stands = λ r v. refl; start_is = λ r. refl; fits_is = λ r. refl }

module _ (s out m : Bytes) (q start : ℕ) (fits : Bool) (h : Headed s out m q start fits) (l : length m ≡ length out) where
  abbrev head_piece : Piece
  head_piece = record {
    start = header_fault
        (text_of h.header h.budget_at h.label_at []);
    whole = encode_header h.header;
    fits = header_numbers_fit h.header;
  }

  stands : Stands m 0 (encode_header h.header) fits
  stands = λ t r.
      let e = h.wrote.bytes_are t (omega arith) in
      ap (lib.ListN.take (length (encode_header h.header))) e ∙ front-put out (encode_header h.header) (omega arith)

  pub text-made : (now after : Bytes) (target : ℕ) (w : Written) (r : Result Written ℕ)
      → ((xs : Pieces) (x : Piece) → SoFar xs m target (written_of 0 0 None) → x.start ≡ start → x.fits ≡ fits
      → 19 ≡ min (length x.whole) 65536 → (0 ≤ length m → Stands m 0 x.whole fits)
      → SoFar (xs ++ (x ∷ [])) now target w)
      → ((x : Piece) → SoFar (x ∷ []) now target w
      → MadeFrom x s after target (read_lines (length s) (length (drop q s)) locks_due (drop q s)) r)
      → Makes s after target r
  unfolding map_read text_pieces header_fault
  text-made now after target w (Ok v) put more =
      let g = more head_piece (put [] head_piece (nothing_yet m target) (sym h.start_is) (sym h.fits_is) refl (λ _. stands)) in
      record {
        text = text_of h.header h.budget_at h.label_at g.lines;
        reads = h.reads ∙ ap (map_read (text_of h.header h.budget_at h.label_at)) g.reads;
        so_far = g.so_far;
      }
  text-made now after target w (Err t) put more =
      h.reads ∙ ap (map_read (text_of h.header h.budget_at h.label_at))
      (more head_piece (put [] head_piece (nothing_yet m target) (sym h.start_is) (sym h.fits_is) refl (λ _. stands)))
