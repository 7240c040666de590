-- What the program gives: its line; its sheet, which lies in what is lent; and that what is lent is enough.
use mathlib.Core.Path.{◌≡◌, refl, sym, ap, subst, ◌∙◌}
use Prim.Native.Nat.{ℕ, ◌-◌, ◌≤◌}
use native.Mathlib.Decide.{dec_lt}
use native.Mathlib.Omega.{arith}
use lib.ListN.{length, take, replicate, length-append}
use Rattle.rules.specs.Constants.{longest_sheet}
use Rattle.rules.specs.Refusal.{Refusal, too_long, unreadable}
use Rattle.rules.specs.Program.{Program}
use Rattle.rules.specs.Format.{Bytes, Got, bad, got, read_sheet}
use Rattle.writing.specs.Out.{Writes, refusal_line}
use Rattle.text.specs.Words.{Read, stop, took}
use Rattle.text.specs.Lines.{Text, read_text}
use Rattle.text.specs.Convert.{text_pieces, piece_at, said as said_of, Conversion, refused_with, converted_with, convert}
use Rattle.text.specs.Claims.{ConvertClaims, sheet_of, full_length}
use Rattle.text.proofs.Claims.{convert-claims}
use Rattle.convert.proofs.Verdicts.{sheet-smaller}
use Rattle.text_main.specs.Told.{answered, written, said, numbers_of, EnoughLent}

-- ---- what is told of a text

module _ (s : Bytes) (a : Conversion) (e : a ≡ answered s) where
  pub told-sheet : take a.written a.sheet ≡ written s
  unfolding written
  told-sheet = ap (λ (x : Conversion). take x.written x.sheet) e

  pub told_line : (l m : Bytes) (p : ℕ) → Writes (refusal_line a.refusal a.place) l 0 m p → Writes (said s) l 0 m p
  unfolding said
  told_line l m p w = subst (λ (x : Conversion). Writes (refusal_line x.refusal x.place) l 0 m p) e w

-- with the buffer that is lent
pub lent-answer : (s : Bytes) (n : ℕ) {a : Conversion} → a ≡ convert n s → n ≡ longest_sheet → a ≡ answered s
unfolding answered
lent-answer s n e f = e ∙ ap (λ k. convert k s) f

-- ---- every conversion with the longest sheet's room or more

-- what holds of refusals, and of sheets that fit, holds of it; and with more room it says the same
module _ (P : Conversion → Conversion → Type 0) (room : ℕ) (l : longest_sheet ≤ room)
    (refused : (r : Refusal) (p : ℕ) → P (refused_with room r p) (refused_with longest_sheet r p))
    (sheet : (x : Bytes) → length x ≤ longest_sheet → P (converted_with room x) (converted_with longest_sheet x)) where
  c : ConvertClaims
  c = convert-claims

  both-are : (s : Bytes) {x y : Conversion} → convert room s ≡ x → answered s ≡ y → P x y → P (convert room s) (answered s)
  both-are s e f h = subst (λ z. P z (answered s)) (sym e) (subst (P _) (sym f) h)

  pub either : (s : Bytes) → P (convert room s) (answered s)
  unfolding answered
  either s = by (read_text s) refl
    where
      by-sheet : (t : Text) (r : Bytes) → read_text s ≡ took t r → full_length t ≤ longest_sheet → (g : Got Program) → read_sheet (sheet_of t) ≡ g → P (convert room s) (convert longest_sheet s)
      by-sheet t r e h (bad n p) k = both-are s (c.unread room s t r n p e h k) (c.unread longest_sheet s t r n p e h k) (refused (said_of (piece_at (text_pieces t) p) n) (piece_at (text_pieces t) p).start)
      by-sheet t r e h (got g q) k =
          let m = sheet-smaller t in
          both-are s (c.writes room s t r g q e h k (omega arith)) (c.writes longest_sheet s t r g q e h k (omega arith)) (sheet (sheet_of t) (omega arith))

      by : (g : Read Text) → read_text s ≡ g → P (convert room s) (convert longest_sheet s)
      by (stop r) e = both-are s (c.place_inside room s r e).0 (c.place_inside longest_sheet s r e).0 (refused unreadable (length s - length r))
      by (took t r) e = elim (dec_lt longest_sheet (full_length t)) [
        | yes h ↦ both-are s (c.too_long_lem room s t r e h) (c.too_long_lem longest_sheet s t r e h) (refused too_long 0)
        | no h ↦ by-sheet t r e (omega arith) (read_sheet (sheet_of t)) refl
      ]

pub enough-lent : EnoughLent
enough-lent room s l = either (λ x y. numbers_of x ≡ numbers_of y) room l (λ r p. refl) (λ x h. refl) s

pub told-inside : (s : Bytes) (a : Conversion) → a ≡ answered s → a.written ≤ length a.sheet
told-inside s a e =
    subst (λ (x : Conversion). x.written ≤ length x.sheet) (sym e)
    (either (λ x y. y.written ≤ length y.sheet) longest_sheet (omega arith) (λ r p. omega arith)
    (λ x h. let n = length-append x (replicate (longest_sheet - length x) 0) in omega arith) s)
