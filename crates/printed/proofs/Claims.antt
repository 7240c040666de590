-- The claims of `specs/Claims.antt`, proved.
use mathlib.Core.Path.{◌≡◌, sym, ap, subst, ◌∙◌}
use Prim.Native.Nat.{ℕ}
use Rattle.rules.specs.Program.{Program}
use Rattle.rules.specs.Format.{Bytes, got, read_sheet}
use Rattle.rules.proofs.Numbers.{of_reader}
use Rattle.text.specs.Convert.{convert}
use Rattle.text.specs.Says.{Says}
use Rattle.text.proofs.Answer.{writes_sheet}
use Rattle.printed.specs.Print.{print}
use Rattle.printed.specs.Claims.{Pair, without, sheet_from, PrintClaims}
use Rattle.printed.proofs.Printing.{unread, full, prints, brings_back, prints_alike, room_enough}
use Rattle.printed.proofs.FormText.{tidy}
use Rattle.printed.proofs.OpensText.{fewest, none_spare}
use Rattle.printed.proofs.Worked.{rows_hold}

-- whatever sheet the text without a pair is converted into, it reads as what that text says
not_back : (s : Bytes) (g : Program) (e : ℕ) → read_sheet s ≡ got g e → (p : Pair (print g)) (room : ℕ) → (convert room (without p)).refusal ≡ 0
    → sheet_from room (without p) ≡ s → ⊥
not_back s g e h p room z same =
    let x = writes_sheet room (without p) z in
    let both : got x.program x.end ≡ got g e = sym x.reads_sheet ∙ ap read_sheet same ∙ h in
    let one : x.program ≡ g = cc in
    none_spare g p (record { text_read = x.text_read; reads_text = x.reads_text; says = subst (Says x.text_read) one x.says })

pub print-claims : PrintClaims
print-claims = record {
  rows_hold = rows_hold;
  unread = λ room s r p e. let (some, few) = of_reader s r p e in (unread room s r p e, some, few);
  full = λ room s g e h l. full room s g e h l;
  prints = λ room s g e h l. prints room s g e h l;
  room_enough = room_enough;
  brings_back = λ room s o z. brings_back room s z o;
  prints_alike = prints_alike;
  tidy = tidy;
  fewest = fewest;
  none_spare = none_spare;
  not_back = not_back;
}
