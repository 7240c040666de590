-- What the program gives: its text, which lies in what is lent; its line; and that it lends and reads enough.
use mathlib.Core.Path.{◌≡◌, refl, sym, ap, subst, ◌∙◌}
use Prim.Native.Nat.{ℕ, ◌+◌, ◌-◌, ◌≤◌}
use native.Mathlib.Omega.{arith}
use lib.Dec.{leb}
use lib.ListN.{length, take, replicate, length-append}
use Rattle.rules.specs.Constants.{longest_sheet}
use Rattle.rules.specs.Program.{Program}
use Rattle.rules.specs.Format.{Bytes, Got, bad, got, read_sheet}
use Rattle.rules.proofs.Base.{if-ind}
use Rattle.rules.proofs.Longest.{sheet-told}
use Rattle.writing.specs.Out.{Writes, refusal_line}
use Rattle.printed.specs.Print.{print, Printing, written_into, printed, print_sheet}
use Rattle.printed.specs.Claims.{PrintClaims}
use Rattle.printed.proofs.Claims.{print-claims}
use Rattle.reader.proofs.Facts.{program-facts}
use Rattle.print_main.specs.Told.{lent_bytes, answered, written, said, numbers_of, EnoughLent, EnoughRead}

-- ---- what is told of a sheet

-- with the buffer that is lent
pub lent-answer : (s : Bytes) (n : ℕ) {a : Printing} → a ≡ print_sheet n s → n ≡ lent_bytes → a ≡ answered s
unfolding answered
lent-answer s n e f = e ∙ ap (λ (k : ℕ). print_sheet k s) f

text-inside : (room : ℕ) (g : Got Program) → (printed room g).written ≤ length (printed room g).text
unfolding printed written_into
text-inside room (bad r p) = omega arith
text-inside room (got g e) =
    if-ind (leb (length (print g)) room) _ _ (λ (x : Printing). x.written ≤ length x.text)
    (λ _. omega (arith, length-append (print g) (replicate (room - length (print g)) 0))) (λ _. omega arith)

module _ (s : Bytes) (a : Printing) (e : a ≡ answered s) where
  pub told_text : take a.written a.text ≡ written s
  unfolding written
  told_text = ap (λ (x : Printing). take x.written x.text) e

  pub told-inside : a.written ≤ length a.text
  unfolding answered print_sheet
  told-inside = subst (λ (x : Printing). x.written ≤ length x.text) (sym e) (text-inside lent_bytes (read_sheet s))

  pub told_line : (l m : Bytes) (p : ℕ) → Writes (refusal_line a.refusal a.place) l 0 m p → Writes (said s) l 0 m p
  unfolding said
  told_line l m p w = subst (λ (x : Printing). Writes (refusal_line x.refusal x.place) l 0 m p) e w

-- ---- the claims

answered-told : (s : Bytes) → answered (take (longest_sheet + 1) s) ≡ answered s
unfolding answered print_sheet
answered-told s = ap (printed lent_bytes) (sheet-told s)

pub enough-read : EnoughRead
unfolding written said
enough-read = record {
  written_same = λ s. ap (λ (a : Printing). take a.written a.text) (answered-told s);
  said_same = λ s. ap (λ (a : Printing). refusal_line a.refusal a.place) (answered-told s);
}

pub enough-lent : EnoughLent
unfolding answered
enough-lent room s o l = by (read_sheet s) refl
  where
    c : PrintClaims
    c = print-claims

    by : (g : Got Program) → read_sheet s ≡ g → numbers_of (print_sheet room s) ≡ numbers_of (print_sheet lent_bytes s)
    by (bad r p) e = ap numbers_of (c.unread room s r p e).0 ∙ sym (ap numbers_of (c.unread lent_bytes s r p e).0)
    by (got g e) h =
        let short = (program-facts s g e h).fits in
        let n = c.room_enough s o g e h in
        ap numbers_of (c.prints room s g e h (omega arith)) ∙ sym (ap numbers_of (c.prints lent_bytes s g e h (omega arith)))
