-- The sheet that a text makes reads as the program that the text says: its header, and its lines in order.
use Rattle.std.specs.Prelude.{if◌then◌else◌}
use mathlib.Core.Path.{◌≡◌, refl, sym, ap, subst, ◌∙◌}
use mathlib.Core.Bool.{Bool, true, false}
use mathlib.Core.List.{List, [], ◌∷◌, ◌++◌}
use Prim.Native.Nat.{ℕ, ◌≤◌}
use native.Mathlib.Omega.{arith}
use lib.Dec.{T}
use lib.ListN.{length, get_or}
use Rattle.rules.specs.Base.{Each, nil, ◌&◌}
use Rattle.rules.specs.Constants.{longest_sheet}
use Rattle.rules.specs.Program.{Header, Program}
use Rattle.rules.specs.Format.{Bytes, got, read_sheet}
use Rattle.rules.specs.Encoding.{in_row, four, encode_header, encode}
use Rattle.rules.specs.Fits.{ProgramFits}
use Rattle.text.specs.Lines.{Line, Started, starts, Text}
use Rattle.text.specs.Convert.{line_fits, header_numbers_fit, Piece, registers_ahead, field_of, pieces, text_pieces, written}
use Rattle.text.specs.Says.{lines_of, bare, Says}
use Rattle.text.proofs.Fields.{ahead, fields_of, fields-are}
use Rattle.text.proofs.LinesFit.{lines_fit, few-registers}
use Rattle.rules.proofs.Encoding.{reads_written}
use Rattle.text.proofs.Decode.{low-four, four-back, Back, nothing, back, then-back}
use Rattle.text.proofs.DecodeLine.{cut, cut_field, cut-tells, tag_of, field_is, tag-positive, same-field}
use Rattle.text.proofs.SheetBytes.{text-bytes}

-- ---- lines

first_byte : Bytes → ℕ
first_byte s = get_or s 0 0

field-first : (m : ℕ) (k : Line) (u : Bytes) → first_byte (field_of m k ++ u) ≡ tag_of k
unfolding first_byte
field-first m k u = rw (field_is m k)

-- no line's field begins with 0, and none is empty
no_zero : {P : Type 0} (m : ℕ) (k : Line) (u s : Bytes) → first_byte s ≡ 0 → s ≡ field_of m k ++ u → P
no_zero m k u s z q = let e = sym (field-first m k u) ∙ ap first_byte (sym q) ∙ z in let l = tag-positive k in absurd (omega arith)

lines_same : (ys : List Started) (xs : List Line) → Each (λ (x : Line). T (line_fits x)) xs → in_row written (pieces ys) ≡ fields_of xs → bare ys ≡ xs
unfolding pieces in_row fields_of bare written first_byte
lines_same [] [] nil q = refl
lines_same [] (k ∷ xs) (f & fs) q = no_zero (ahead xs) k (fields_of xs) [] refl q
lines_same (starts p x ∷ ys) [] nil q = empty (line_fits x) q
  where
    empty : {P : Type 0} (t : Bool) → (if t then field_of (registers_ahead ys) x else 0 ∷ 0 ∷ 0 ∷ []) ++ in_row written (pieces ys) ≡ [] → P
    empty true e = no_zero (registers_ahead ys) x (in_row written (pieces ys)) [] refl (sym e)
    empty false e = let z : ◌≡◌ {A = ℕ} 0 1 = cc in absurd (omega arith)
lines_same (starts p x ∷ ys) (k ∷ xs) (f & fs) q = by (line_fits x) refl (λ e. lines_same ys xs fs e) q
  where
    by : (t : Bool) → line_fits x ≡ t → (in_row written (pieces ys) ≡ fields_of xs → bare ys ≡ xs)
        → (if t then field_of (registers_ahead ys) x else 0 ∷ 0 ∷ 0 ∷ []) ++ in_row written (pieces ys) ≡ field_of (ahead xs) k ++ fields_of xs
        → ◌≡◌ {A = List Line} (x ∷ bare ys) (k ∷ xs)
    by true e ih r =
        let same = same-field (registers_ahead ys) (ahead xs) x k (in_row written (pieces ys)) (fields_of xs) (subst T (sym e) tt) f r in
        ap {B = List Line} (λ z. z ∷ bare ys) same.line ∙ ap {B = List Line} (λ zs. k ∷ zs) (ih same.rest)
    by false e ih r = no_zero (ahead xs) k (fields_of xs) (0 ∷ 0 ∷ 0 ∷ in_row written (pieces ys)) refl r

-- ---- the header

unfoldable number-from : Bytes → Back ℕ
number-from [] = nothing
number-from (a ∷ []) = nothing
number-from (a ∷ b ∷ []) = nothing
number-from (a ∷ b ∷ c ∷ []) = nothing
number-from (a ∷ b ∷ c ∷ d ∷ r) = back (low-four a b c d) r

unfoldable header-back : Bytes → Back Header
header-back s =
    then-back (number-from s) (λ l r. then-back (number-from r) (λ b t. then-back (number-from t) (λ low u. then-back (number-from u) (λ high v.
    back (record { limit = l; budget = b; label_low = low; label_high = high }) v))))

abbrev header-body : Header → Bytes
header-body h = four h.limit ++ four h.budget ++ four h.label_low ++ four h.label_high

header-tells : (h : Header) → header-back (header-body h) ≡ back h []
unfolding header-back number-from then-back
header-tells h = rw (four-back h.limit, four-back h.budget, four-back h.label_low, four-back h.label_high)

header-same : (h k : Header) (r u : Bytes) → encode_header h ++ r ≡ encode_header k ++ u → (h ≡ k) × (r ≡ u)
header-same h k r u q =
    let e : cut 1 (header-body h) r ≡ cut 1 (header-body k) u = sym (cut-tells 1 (header-body h) r) ∙ ap cut_field q ∙ cut-tells 1 (header-body k) u in
    let bodies : header-body h ≡ header-body k = cc in
    let rests : r ≡ u = cc in
    let headers : back h [] ≡ back k [] = sym (header-tells h) ∙ ap header-back bodies ∙ header-tells k in
    (cc, rests)

text_says : (t : Text) (g : Program) → ProgramFits g → in_row written (text_pieces t) ≡ encode g → Says t g
unfolding text_pieces in_row written first_byte
text_says t g f q = by (header_numbers_fit t.header) (q ∙ sym (fields-are g (few-registers f.threads)))
  where
    by : (b : Bool) → (if b then encode_header t.header else 0 ∷ 0 ∷ 0 ∷ []) ++ in_row written (pieces t.lines) ≡ encode_header g.header ++ fields_of (lines_of g) → Says t g
    by true e =
        let same = header-same t.header g.header (in_row written (pieces t.lines)) (fields_of (lines_of g)) e in
        record { header = same.0; lines = lines_same t.lines (lines_of g) (lines_fit g f) same.1 }
    by false e = let z : ◌≡◌ {A = ℕ} 0 1 = ap first_byte e in absurd (omega arith)

-- a text's sheet that reads, reads as what the text says
pub sheet-says : (t : Text) (g : Program) (e : ℕ) → length (in_row (λ (x : Piece). x.whole) (text_pieces t)) ≤ longest_sheet
    → read_sheet (in_row written (text_pieces t)) ≡ got g e → Says t g
sheet-says t g e l h =
    let x = (reads_written (in_row written (text_pieces t)) (text-bytes t (omega arith)) g e h).0 in
    text_says t g x.fits (sym x.written)
