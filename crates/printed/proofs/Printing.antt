-- The answer for a sheet, in the order of its refusals; and what a 0 says.
use mathlib.Core.Path.{◌≡◌, refl, sym, ap, subst, ◌∙◌}
use Prim.Native.Nat.{ℕ, ◌*◌, ◌≤◌, ◌<◌}
use native.Mathlib.Decide.{dec_le}
use native.Mathlib.Omega.{arith}
use lib.ListN.{length, take}
use lib.Seq.{take-append_seam}
use borrow.Author.Tests.{le-leb, lt-leb}
use Rattle.rules.specs.Refusal.{Refusal, output_full}
use Rattle.rules.specs.Program.{Program}
use Rattle.rules.specs.Format.{Bytes, AreBytes, Got, bad, got, read_sheet}
use Rattle.rules.proofs.Refusal.{positive}
use Rattle.text.specs.Convert.{convert}
use Rattle.printed.specs.Print.{print, Printing, refused_with, printed_with, written_into, printed, print_sheet}
use Rattle.printed.specs.Claims.{text_of, BringsBack}
use Rattle.printed.proofs.RoundTrip.{sheet_of_lem, sheet-converts, print-tells-apart}
use Rattle.printed.proofs.Lengths.{text-length}

module _ (room : ℕ) (s : Bytes) where
  pub unread : (r : Refusal) (p : ℕ) → read_sheet s ≡ bad r p → print_sheet room s ≡ refused_with room r p
  unfolding print_sheet printed
  unread r p e = ap (printed room) e

  module _ (g : Program) (e : ℕ) (reads : read_sheet s ≡ got g e) where
    pub full : room < length (print g) → print_sheet room s ≡ refused_with room output_full 0
    unfolding print_sheet printed written_into
    full l = ap (printed room) reads ∙ rw (lt-leb (length (print g)) room l)

    pub prints : length (print g) ≤ room → print_sheet room s ≡ printed_with room (print g)
    unfolding print_sheet printed written_into
    prints l = ap (printed room) reads ∙ rw (le-leb (length (print g)) room l)

  -- ---- an answer of 0

  module _ (z : (print_sheet room s).refusal ≡ 0) where
    not-refused : {X : Type 0} (r : Refusal) (p : ℕ) → print_sheet room s ≡ refused_with room r p → X
    not-refused r p e = absurd (positive r (ap (λ (a : Printing). a.refusal) (sym e) ∙ z))

    -- the text is what stands in the buffer, as far as it was written
    text_is : (t : Bytes) → print_sheet room s ≡ printed_with room t → text_of room s ≡ t
    text_is t e = ap (λ (a : Printing). take a.written a.text) e ∙ take-append_seam t _

    pub brings_back : AreBytes s → BringsBack room s
    brings_back o = by (read_sheet s) refl
      where
        by : (x : Got Program) → read_sheet s ≡ x → BringsBack room s
        by (bad r p) e = not-refused r p (unread r p e)
        by (got g e) h = elim (dec_le (length (print g)) room) [
          | no l ↦ not-refused output_full 0 (full g e h (omega arith))
          | yes l ↦
              let t = text_is (print g) (prints g e h l) in
              record {
                program = g;
                end = e;
                reads_sheet = h;
                text_is = t;
                converts = λ other k. ap (convert other) t ∙ sheet-converts s o g e h other k;
              }
        ]

-- ---- sheets that print alike

pub prints_alike : (room other : ℕ) (s t : Bytes) → AreBytes s → AreBytes t → (print_sheet room s).refusal ≡ 0 → (print_sheet other t).refusal ≡ 0
    → (s ≡ t → text_of room s ≡ text_of other t) × (text_of room s ≡ text_of other t → s ≡ t)
prints_alike room other s t o u z w = (same, equal)
  where
    x : BringsBack room s
    x = brings_back room s z o

    y : BringsBack other t
    y = brings_back other t w u

    same : s ≡ t → text_of room s ≡ text_of other t
    same q =
        let e : got x.program x.end ≡ got y.program y.end = sym x.reads_sheet ∙ ap read_sheet q ∙ y.reads_sheet in
        let g : x.program ≡ y.program = cc in
        x.text_is ∙ ap print g ∙ sym y.text_is

    equal : text_of room s ≡ text_of other t → s ≡ t
    equal q =
        let a = sheet_of_lem s o x.program x.end x.reads_sheet in
        let b = sheet_of_lem t u y.program y.end y.reads_sheet in
        sym a.written ∙ print-tells-apart x.program y.program a.fits b.fits (sym x.text_is ∙ q ∙ y.text_is) ∙ b.written

-- ---- how long a text is

pub room_enough : (s : Bytes) → AreBytes s → (g : Program) (e : ℕ) → read_sheet s ≡ got g e → length (print g) ≤ 6 * length s
room_enough s o g e h = let x = sheet_of_lem s o g e h in subst (λ b. length (print g) ≤ 6 * length b) x.written (text-length g x.fits)
