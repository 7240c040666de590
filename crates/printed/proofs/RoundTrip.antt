-- Converting the printed text of a program that has a sheet gives that sheet; so sheets that print alike are equal.
use mathlib.Core.Path.{◌≡◌, refl, sym, ap, subst, ◌∙◌}
use mathlib.Core.Bool.{Bool, true, false}
use mathlib.Core.List.{List, [], ◌∷◌}
use Prim.Native.Nat.{ℕ, suc, ◌≤◌}
use native.Mathlib.Omega.{arith}
use borrow.Author.Tests.{lt-ltb}
use lib.Dec.{T}
use lib.ListN.{length}
use Rattle.rules.specs.Base.{Each, ◌&◌}
use Rattle.rules.specs.Constants.{longest_sheet}
use Rattle.rules.specs.Program.{Header, Program}
use Rattle.rules.specs.Format.{Bytes, AreBytes, got, read_sheet}
use Rattle.rules.specs.Encoding.{in_row, encode}
use Rattle.rules.specs.Fits.{HeaderFits, ProgramFits, SheetOf}
use Rattle.rules.proofs.Encoding.{reads_written, written_reads}
use Rattle.text.specs.Words.{Read, took}
use Rattle.text.specs.Lines.{Line, locks_line, var_line, thread_line, reg_line, statement_line, Started, starts, Text, read_text}
use Rattle.text.specs.Convert.{fits_four, line_fits, header_numbers_fit, Piece, registers_ahead, pieces, text_pieces, written, converted_with, convert}
use Rattle.text.specs.Says.{lines_of, bare}
use Rattle.text.specs.Claims.{sheet_of}
use Rattle.text.proofs.Fields.{ahead, fields_of, fields-are}
use Rattle.text.proofs.LinesFit.{lines_fit, few-registers}
use Rattle.text.proofs.Answer.{writes}
use Rattle.printed.specs.Print.{print}
use Rattle.printed.specs.Claims.{Tells}
use Rattle.printed.proofs.TextReads.{text-reads}
use Rattle.printed.proofs.InOrder.{lines-in-order}

-- ---- the fields of lines, with their places and without

ahead-is : (ys : List Started) → registers_ahead ys ≡ ahead (bare ys)
unfolding registers_ahead ahead bare
ahead-is [] = refl
ahead-is (starts p (locks_line n) ∷ ys) = refl
ahead-is (starts p (var_line i) ∷ ys) = refl
ahead-is (starts p thread_line ∷ ys) = refl
ahead-is (starts p (reg_line i) ∷ ys) = ap suc (ahead-is ys)
ahead-is (starts p (statement_line a b x) ∷ ys) = refl

wholes-are : (ys : List Started) → in_row (λ (x : Piece). x.whole) (pieces ys) ≡ fields_of (bare ys)
unfolding in_row pieces bare fields_of
wholes-are [] = refl
wholes-are (starts p x ∷ ys) = rw (ahead-is ys, wholes-are ys)

known : (b : Bool) → T b → b ≡ true
known true t = refl
known false t = absurd t

-- where every number fits, what is written is whole
written-are : (ys : List Started) → Each (λ (x : Line). T (line_fits x)) (bare ys) → in_row written (pieces ys) ≡ fields_of (bare ys)
unfolding in_row pieces bare fields_of written
written-are [] h = refl
written-are (starts p x ∷ ys) (f & h) = rw (known (line_fits x) f, ahead-is ys, written-are ys h)

header-fits : (h : Header) → HeaderFits h → T (header_numbers_fit h)
unfolding header_numbers_fit fits_four
header-fits h f =
    let a = f.limit_most in
    let b = f.budget_most in
    let c = f.label_ordered in
    let d = f.label_most in
    rw (
      lt-ltb h.limit 4294967296 (omega arith),
      lt-ltb h.budget 4294967296 (omega arith),
      lt-ltb h.label_low 4294967296 (omega arith),
      lt-ltb h.label_high 4294967296 (omega arith),
    )
    tt

-- ---- the sheet that a program's lines make

module _ (g : Program) (f : ProgramFits g) (t : Text) (header : t.header ≡ g.header) (lines : bare t.lines ≡ lines_of g) where
  text-wholes : in_row (λ (x : Piece). x.whole) (text_pieces t) ≡ encode g
  unfolding text_pieces in_row
  text-wholes = rw (header, wholes-are t.lines, lines) (fields-are g (few-registers f.threads))

  text-written : sheet_of t ≡ encode g
  unfolding text_pieces in_row written
  text-written =
      rw (
        header,
        known (header_numbers_fit g.header) (header-fits g.header f.header),
        written-are t.lines (subst (Each (λ (x : Line). T (line_fits x))) (sym lines) (lines_fit g f)),
        lines,
      )
      (fields-are g (few-registers f.threads))

-- ---- the printed text of a program that has a sheet

module _ (g : Program) (f : ProgramFits g) where
  pub print-tells : Tells (print g) g
  unfolding print
  print-tells =
      let x = text-reads g.header (lines_of g) (lines-in-order g f) in
      record { text_read = x.text; reads_text = x.reads; says = record { header = x.header; lines = x.lines } }

  pub print-converts : (room : ℕ) → length (encode g) ≤ room → convert room (print g) ≡ converted_with room (encode g)
  print-converts room l =
      let x = print-tells in
      let t = x.text_read in
      let whole = text-wholes g f t x.says.header x.says.lines in
      let sheet = text-written g f t x.says.header x.says.lines in
      let n = f.short in
      writes room (print g) t [] x.reads_text (subst (λ s. length s ≤ longest_sheet) (sym whole) n) _ _ (ap read_sheet sheet ∙ written_reads g f)
      (subst (λ s. length s ≤ room) (sym sheet) l)
      ∙ ap (converted_with room) sheet

-- what is printed of two programs tells their sheets apart
pub print-tells-apart : (g k : Program) → ProgramFits g → ProgramFits k → print g ≡ print k → encode g ≡ encode k
print-tells-apart g k f h q =
    let x = print-tells g f in
    let y = print-tells k h in
    let both : ◌≡◌ {A = Read Text} (took x.text_read []) (took y.text_read []) = sym x.reads_text ∙ ap read_text q ∙ y.reads_text in
    let same : x.text_read ≡ y.text_read = cc in
    sym (text-written g f x.text_read x.says.header x.says.lines) ∙ ap sheet_of same ∙ text-written k h y.text_read y.says.header y.says.lines

-- ---- sheets

module _ (s : Bytes) (o : AreBytes s) (g : Program) (e : ℕ) (h : read_sheet s ≡ got g e) where
  pub sheet_of_lem : SheetOf s g
  sheet_of_lem = (reads_written s o g e h).0

  pub sheet-converts : (room : ℕ) → length s ≤ room → convert room (print g) ≡ converted_with room s
  sheet-converts room l =
      let x = sheet_of_lem in
      print-converts g x.fits room (subst (λ b. length b ≤ room) (sym x.written) l) ∙ ap (converted_with room) x.written
